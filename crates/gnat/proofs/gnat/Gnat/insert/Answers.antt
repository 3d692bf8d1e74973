use Rattle.std.proofs.Common.{sym, ◌∙◌, subst, arith}
use Rattle.gnat.specs.Gnats.{state_of}
use Rattle.gnat.proofs.Inserting.{Roomy, as_it_was, made_anew, inserted}
use Rattle.gnat.proofs.Laid.{laid_out}
use Rattle.gnat.proofs.gnat.Gnat.insert.Goals as goal
use Rattle.gnat.proofs.gnat.Gnat.insert.Goals.{then-self-capacity, else-self-capacity}

pub file_new-requires : goal.file_new-requires
file_new-requires g c =
    let dist = g.E.Metric.dist in
    let s = state_of c.args.self.now in
    let o = laid_out dist s c.args.self.now.sound in
    let room = c.requires.room in
    let r : Roomy dist s o room (state_of c.if-self-capacity.self) =
    elim c.if-self-capacity.branch as (λ _. Roomy dist s o room (state_of c.if-self-capacity.self)) [
      | then-self-capacity w ↦ subst (λ h. Roomy dist s o room (state_of h)) (sym w.self-is) (made_anew dist s o room (w.if-self-capacity.true ∙ c.capacity.ensures) (state_of w.rebuild.new.self) w.rebuild.ensures)
      | else-self-capacity w ↦ subst (λ h. Roomy dist s o room (state_of h)) (sym w.self-is) (as_it_was dist s o room (λ e. w.if-self-capacity.false (e ∙ sym c.capacity.ensures)))
    ] in
    record { room = r.free; numbers = omega (arith, r.last, c.requires.numbers) }

pub returns : goal.returns
returns g c =
    let dist = g.E.Metric.dist in
    let s = state_of c.args.self.now in
    let o = laid_out dist s c.args.self.now.sound in
    let room = c.requires.room in
    let r : Roomy dist s o room (state_of c.if-self-capacity.self) =
    elim c.if-self-capacity.branch as (λ _. Roomy dist s o room (state_of c.if-self-capacity.self)) [
      | then-self-capacity w ↦ subst (λ h. Roomy dist s o room (state_of h)) (sym w.self-is) (made_anew dist s o room (w.if-self-capacity.true ∙ c.capacity.ensures) (state_of w.rebuild.new.self) w.rebuild.ensures)
      | else-self-capacity w ↦ subst (λ h. Roomy dist s o room (state_of h)) (sym w.self-is) (as_it_was dist s o room (λ e. w.if-self-capacity.false (e ∙ sym c.capacity.ensures)))
    ] in
    inserted dist s o room c.args.e (state_of c.if-self-capacity.self) (state_of c.file_new.new.self) r c.file_new.ensures
