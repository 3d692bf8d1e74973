use Rattle.std.proofs.Common.{◌≡◌, ◌<◌, length, get_or, sym, ap, ◌∙◌, subst, arith}
use Rattle.std.specs.List.{refill}
use Rattle.std.proofs.lemmas.List.{get_or_default}
use Rattle.gnat_theory.specs.Choice.{first_place, removed}
use Rattle.gnat_filing.specs.Choosing.{blank, farther_one, Renewed, TakesNext}
use Rattle.gnat_filing.proofs.Candidates.{never_large, cand_within, cand_removed, takes_next}
use Rattle.gnat_filing.proofs.Choices.{removed_is, refilled}
use Rattle.gnat_filing.proofs.choosing.next_pivot.Goals as goal

pub element_in-element-requires : goal.element_in-element-requires
element_in-element-requires g c =
    let h = c.requires.candidates in
    let items = c.args.cs.now.items in
    let j = c.farthest.result in
    let below : j < length items = subst (λ z. j < length z) c.as_slice.ensures.value c.farthest.ensures.below in
    subst (λ z. z.row < length c.args.rows.now) (get_or_default items j blank c.remove-pivot.result below ∙ sym c.remove-pivot.ensures.value)
    (cand_within g.E.Metric.dist (never_large g.E.Metric.laws) c.args.rows.now h.0 items h.1 j below h.2)

pub renew-requires : goal.renew-requires
renew-requires g c k u =
    let dist = g.E.Metric.dist in
    let rows = c.args.rows.now in
    let h = c.requires.candidates in
    let items = c.args.cs.now.items in
    let j = c.farthest.result in
    let same = c.as_mut_slice.ensures.value ∙ (c.remove-pivot.ensures.items ∙ sym (removed_is j items)) in
    subst (λ z. (get_or z k blank).row < length rows) (sym same)
    (cand_within dist (never_large g.E.Metric.laws) rows h.0 (removed j items) (removed j h.1) k (omega (arith, u, ap length same)) (cand_removed dist (never_large g.E.Metric.laws) rows h.0 j items h.1 h.2))

pub returns : goal.returns
returns g c =
    let dist = g.E.Metric.dist in
    let rows = c.args.rows.now in
    let items = c.args.cs.now.items in
    let rest = c.remove-pivot.new.self.items in
    let new = c.renew.new.cs in
    let j = c.farthest.result in
    let first : first_place farther_one items ≡ j = subst (λ z. first_place farther_one z ≡ j) c.as_slice.ensures.value c.farthest.ensures.first in
    let below : j < length items = subst (λ z. j < length z) c.as_slice.ensures.value c.farthest.ensures.below in
    let taken : rest ≡ removed j items = c.remove-pivot.ensures.items ∙ sym (removed_is j items) in
    let same = c.as_mut_slice.ensures.value in
    let long : length new ≡ length rest = c.renew.auto.cs ∙ ap length same in
    let back : refill (length rest) rest new ≡ new = refilled rest new long in
    record {
      one = omega (arith, ap length back, long, c.remove-pivot.ensures.len);
      next = λ ps xs d h.
          subst (λ z. TakesNext dist rows items z c.remove-pivot.result.row ps xs d) (sym back)
          (takes_next dist (never_large g.E.Metric.laws) rows ps j items rest new c.remove-pivot.result c.element_in-element.result xs d first below c.remove-pivot.ensures.value taken c.element_in-element.ensures long
          (λ k u. subst (λ z. Renewed dist rows c.element_in-element.result (get_or z k blank) (get_or new k blank)) same (c.renew.ensures k (omega (arith, u, ap length same)))) h);
    }
