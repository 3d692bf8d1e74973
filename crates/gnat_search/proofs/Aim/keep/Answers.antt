use Rattle.std.proofs.Common.{ap, ◌∙◌}
use Rattle.gnat_search.proofs.Keeping.{near_kept, within_kept, outside_kept}
use Rattle.gnat_search.proofs.Aim.keep.Goals as goal
use Rattle.gnat_search.proofs.Aim.keep.Goals.{in-Nearest, in-Within+then-hit-radius, in-Within+else-hit-radius}

pub returns-clause-keeps : goal.returns-clause-keeps
returns-clause-keeps c = λ old st k.
    let list = c.args.list.now in
    let so_far = c.args.so_far in
    let new = c.match-self.list in
    elim c.match-self.branch [
      | in-Nearest w ↦
          let placed = w.place-held in
          near_kept old list so_far st k c.args.hit placed.result new placed.ensures.kept (λ s. w.list-is ∙ placed.ensures.after s) c.args.self _ (ap (λ z. z.1.0) w.result-is) (ap (λ z. z.1.1.0) w.result-is) w.in-Nearest.is (ap (λ z. z.0) w.result-is)
      | in-Within+then-hit-radius w ↦
          let placed = w.place-held-then-hit-radius in
          within_kept old list so_far st k c.args.hit placed.result new placed.ensures.kept (λ s. w.list-is ∙ placed.ensures.after s) c.args.self _ (ap (λ z. z.1.0) w.result-is) (ap (λ z. z.1.1.0) w.result-is) w.in-Within.radius w.in-Within.is w.if-hit-radius.true (ap (λ z. z.0) w.result-is)
      | in-Within+else-hit-radius w ↦
          outside_kept old list so_far st k c.args.hit new c.args.self _ w.in-Within.radius w.in-Within.is w.if-hit-radius.false w.list-is (ap (λ z. z.0) w.result-is) (ap (λ z. z.1.0) w.result-is) (ap (λ z. z.1.1.0) w.result-is)
    ]
