use Rattle.std.proofs.Common.{◌≡◌, ◌<◌, ◌≢◌, length, get_or, Some, sym, ap, ◌∙◌, arith, length-set, length-take, get_or-set_other, get_or-set_same, below_more, rules}
use Rattle.std.specs.List.{slice_get}
use Rattle.std.proofs.lemmas.List.{get_or-take}
use Rattle.std.proofs.lemmas.Option.{slice_get-get_or}
use Rattle.gnat_rows.specs.Shows.{held}
use Rattle.gnat_rows.proofs.Changes.{same_row}
use Rattle.gnat_search.proofs.Leaves.{held_there}
use Rattle.gnat_search.proofs.Quest.measure_rows.Goals as goal

pub offset_bounds-self-at : goal.offset_bounds-self-at
offset_bounds-self-at g c = let h = held_there c.args.self.now.rows.now c.args.leaf.now c.loop-i.i c.requires c.loop-i-test.true in search rules

pub bounds-self-at : goal.bounds-self-at
bounds-self-at g c = held_there c.args.self.now.rows.now c.args.leaf.now c.loop-i.i c.requires c.loop-i-test.true

pub loop-i-preserved : goal.loop-i-preserved
loop-i-preserved g c =
    let rows = c.args.self.now.rows.now in
    let leaf = c.args.leaf.now in
    let ds = c.loop-i.distances in
    let i = c.loop-i.i in
    let d = c.distance.result in
    let inv = c.loop-i.invariant in
    let few : i < leaf.count = omega (arith, c.loop-i-test.true, length-take leaf.count leaf.rows) in
    let lt : i < length ds = omega (arith, inv.0, few, c.requires.2) in
    let row = get_or rows (get_or (held leaf) i 0) c.index-self-at.result in
    let there : slice_get rows (get_or leaf.rows i 0) ≡ Some row =
    ap (slice_get rows) (sym (get_or-take leaf.count leaf.rows i 0 few)) ∙ slice_get-get_or rows (get_or (held leaf) i 0) c.index-self-at.result (held_there rows leaf i c.requires c.loop-i-test.true) in (
      length-set ds i d ∙ inv.0,
      below_more _ _
          (λ k h r e. let ne : k ≢ i = omega arith in get_or-set_other ds i k d 0 ne ∙ inv.1 k h r e)
          (λ r e. get_or-set_same ds i d 0 lt ∙ (c.distance.ensures ∙ ap (λ z. g.E.Metric.dist c.args.self.now.q.now z.element) (same_row rows (get_or leaf.rows i 0) row r there e))),
    )

pub returns : goal.returns
returns g c = λ k l r e. c.loop-i.invariant.1 k (omega (arith, length-take c.args.leaf.now.count c.args.leaf.now.rows, c.requires.1, c.requires.2, c.loop-i-test.false)) r e
