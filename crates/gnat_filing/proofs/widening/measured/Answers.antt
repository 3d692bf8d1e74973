use Rattle.std.proofs.Common.{◌≡◌, ◌<◌, ◌≢◌, length, take, sym, ap, ◌∙◌, arith, length-set, get_or-set_other, get_or-set_same, below_more, rules}
use Rattle.std.specs.List.{slice_get}
use Rattle.std.proofs.lemmas.List.{get_or-take, length-take, length-take-le}
use Rattle.gnat_filing.proofs.widening.measured.Goals as goal

pub loop-i-preserved : goal.loop-i-preserved
loop-i-preserved g c =
    let ds = c.loop-i.ds in
    let i = c.loop-i.i in
    let d = c.distance.result in
    let n = c.args.b.now.count in
    let is = c.args.b.now.pivots in
    let below : i < n = omega (arith, c.loop-i-test.true, length-take n is) in
    let lt : i < length ds = omega (arith, c.loop-i.invariant.0, c.requires.most, below) in
    let here = c.element_in.ensures in (
      length-set ds i d ∙ c.loop-i.invariant.0,
      below_more _ _
          (λ k h. let ne : k ≢ i = omega arith in let w = c.loop-i.invariant.1 k h in (w.0, w.1, get_or-set_other ds i k d 0 ne ∙ w.2))
          (here.0, ap (slice_get c.args.rows.now) (sym (get_or-take n is i 0 below)) ∙ here.1, get_or-set_same ds i d 0 lt ∙ c.distance.ensures ∙ ap (λ x. g.E.Metric.dist x c.args.e.now) here.2),
    )

pub returns : goal.returns
returns g c =
    let n = c.args.b.now.count in
    let is = c.args.b.now.pivots in
    let long : length is ≡ 8 = search rules in
    let whole : length (take n is) ≡ n = length-take-le n is (omega (arith, c.requires.most)) in
    record { each = λ k l. c.loop-i.invariant.1 k (omega (arith, whole, c.loop-i-test.false)); eight = c.loop-i.invariant.0 }
