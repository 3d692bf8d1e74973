use Rattle.std.proofs.Common.{◌≡◌, ◌<◌, length, get_or, take, Some, sym, ap, ◌∙◌, subst, arith, length-take, rules}
use Rattle.std.proofs.lemmas.List.{get_or-take}
use Rattle.std.specs.List.{slice_get}
use Rattle.std.proofs.lemmas.Option.{slice_get-get_or}
use Rattle.gnat_theory.specs.Searching.{measure, measure_all}
use Rattle.gnat_rows.specs.Shows.{sample_in, held}
use Rattle.gnat_search.specs.Wants.{want, Kept}
use Rattle.gnat_search.proofs.Leaves.{held_there, one_more, all_of}
use Rattle.gnat_search.proofs.Quest.measure_leaf.Goals as goal

pub offset_bounds-self-at : goal.offset_bounds-self-at
offset_bounds-self-at g c = let h = held_there c.args.self.now.rows.now c.args.leaf.now c.loop-i.i c.requires.shown c.loop-i-test.true in search rules

pub bounds-self-at : goal.bounds-self-at
bounds-self-at g c = held_there c.args.self.now.rows.now c.args.leaf.now c.loop-i.i c.requires.shown c.loop-i-test.true

pub loop-i-preserved : goal.loop-i-preserved
loop-i-preserved g c =
    let dist = g.E.Metric.dist in
    let q = c.args.self.now.q.now in
    let aim = c.args.self.now.aim in
    let rows = c.args.self.now.rows.now in
    let leaf = c.args.leaf.now in
    let i = c.loop-i.i in
    let at = get_or (held leaf) i 0 in
    let row = get_or rows at c.index-self-at.result in
    let there : slice_get rows at ≡ Some row = slice_get-get_or rows at c.index-self-at.result (held_there rows leaf i c.requires.shown c.loop-i-test.true) in
    let few : i < leaf.count = omega (arith, c.loop-i-test.true, length-take leaf.count leaf.rows) in
    let far = c.measure_rows.ensures i few row (ap (slice_get rows) (sym (get_or-take leaf.count leaf.rows i 0 few)) ∙ there) in
    let call = c.count_sample-so_far in (
      omega (arith, call.ensures.counts, c.loop-i.invariant.0),
      λ xs h old st k.
          let w = want aim (length c.args.list.now) in
          let before = measure_all dist q w (take i xs) st in
          subst (Kept old call.new.list call.result) (sym (one_more rows dist q w (held leaf) xs h i row st c.loop-i-test.true there))
          (subst (λ n. Kept old call.new.list call.result (measure dist q (want aim n) (sample_in row) before)) c.loop-i.auto.list (call.ensures.keeps q far old before (c.loop-i.invariant.1 xs h old st k))),
    )

pub returns-clause-keeps : goal.returns-clause-keeps
returns-clause-keeps g c = λ xs h old st k.
    let w = want c.args.self.now.aim (length c.args.list.now) in
    subst (λ z. Kept old c.loop-i.list c.loop-i.so_far (measure_all g.E.Metric.dist c.args.self.now.q.now w z st))
    (all_of c.args.self.now.rows.now g.E.Metric.dist c.args.self.now.q.now w (held c.args.leaf.now) xs h c.loop-i.i c.loop-i-test.false)
    (c.loop-i.invariant.1 xs h old st k)
