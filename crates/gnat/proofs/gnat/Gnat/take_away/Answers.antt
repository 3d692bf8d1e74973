use Rattle.std.proofs.Common.{◌≡◌, length, get_or, sym, refl, ◌∙◌, subst, rules}
use Rattle.gnat_filing.specs.Dropping.{Droppable, Drops, DropsFrom}
use Rattle.gnat_theory.specs.Dropping.{shrunk}
use Rattle.gnat_order.specs.Order.{places}
use Rattle.gnat_order.proofs.Places.{place_of}
use Rattle.gnat_rows.proofs.Changes.{nth_there}
use Rattle.gnat.proofs.Taking.{row_within, may_take, taken}
use Rattle.gnat.specs.Gnats.{state_of}
use Rattle.gnat.proofs.Laid.{laid_out, sound_of}
use Rattle.gnat.proofs.gnat.Gnat.take_away.Goals as goal

pub take_out-dropped-requires : goal.take_out-dropped-requires
take_out-dropped-requires g c =
    let s = state_of c.args.self.now in
    let dist = g.E.Metric.dist in
    let o = laid_out g.E.Metric.dist s c.args.self.now.sound in
    let rows = s.rows in
    let at = c.args.at in
    let same : c.row_at-row.result ≡ get_or (places rows) at 0 = c.row_at-row.ensures.2 ∙ sym (place_of rows at c.row_at-row.ensures.0 c.row_at-row.ensures.1) in
    let r = nth_there rows (get_or (places rows) at 0) (row_within dist s o at c.requires.listed) in
    (s.settings.degree, o.tree, o.lies, r.0, subst (λ i. Droppable dist s.settings.degree rows s.root i o.tree o.lies r.0) (sym same) (may_take dist s o at c.requires.listed r.0 r.1))

pub returns : goal.returns
returns g c =
    let s = state_of c.args.self.now in
    let dist = g.E.Metric.dist in
    let o = laid_out g.E.Metric.dist s c.args.self.now.sound in
    let rows = s.rows in
    let at = c.args.at in
    let same : c.row_at-row.result ≡ get_or (places rows) at 0 = c.row_at-row.ensures.2 ∙ sym (place_of rows at c.row_at-row.ensures.0 c.row_at-row.ensures.1) in
    let later = c.take_out-dropped.new.rows in
    let root = c.take_out-dropped.result.node in
    let freed = c.take_out-dropped.result.freed in
    let long : length later ≡ length rows = search (rules, c.take_out-dropped.auto) in
    let gone = subst (λ i. DropsFrom dist rows later s.root root freed i) same c.take_out-dropped.ensures in
    λ n l.
    let r = l.1 in
    let d = gone s.settings.degree o.tree o.lies r.0 (may_take dist s o at c.requires.listed r.0 r.1) in
    (taken dist s o at c.requires.listed r.0 r.1 n r.2 later root long _ refl refl refl refl freed
    (subst (λ k. Drops rows later root freed (get_or (places rows) at 0) (shrunk k o.tree) o.lies) r.2 d) c.unlist-self.ensures.leaves c.unlist-self.ensures.count).1

pub invariant_of-self : goal.invariant_of-self
invariant_of-self g c =
    let s = state_of c.args.self.now in
    let dist = g.E.Metric.dist in
    let o = laid_out g.E.Metric.dist s c.args.self.now.sound in
    let rows = s.rows in
    let at = c.args.at in
    let same : c.row_at-row.result ≡ get_or (places rows) at 0 = c.row_at-row.ensures.2 ∙ sym (place_of rows at c.row_at-row.ensures.0 c.row_at-row.ensures.1) in
    let later = c.take_out-dropped.new.rows in
    let root = c.take_out-dropped.result.node in
    let freed = c.take_out-dropped.result.freed in
    let long : length later ≡ length rows = search (rules, c.take_out-dropped.auto) in
    let gone = subst (λ i. DropsFrom dist rows later s.root root freed i) same c.take_out-dropped.ensures in
    let r = nth_there rows (get_or (places rows) at 0) (row_within dist s o at c.requires.listed) in
    let n = r.0.number in
    let d = gone s.settings.degree o.tree o.lies r.0 (may_take dist s o at c.requires.listed r.0 r.1) in
    record {
      sound = sound_of dist _ ((taken dist s o at c.requires.listed r.0 r.1 n refl later root long _ refl refl refl refl freed
          d c.unlist-self.ensures.leaves c.unlist-self.ensures.count).0);
    }
