use Rattle.std.proofs.Common.{◌≡◌, suc, ◌+◌, ◌<◌, ◌++◌, length, take, drop, set, sym, ap, ◌∙◌, arith}
use Rattle.std.proofs.lemmas.List.{length-map, length-take-le}
use Rattle.gnat_rows.proofs.Changes.{changed_is_set}
use Rattle.gnat_order.specs.Order.{places, placed, counted}
use Rattle.gnat_order.proofs.Places.{placed_own, put_next, counted_more, counted_front, length_counted}
use Rattle.gnat_order.proofs.list_rows.Goals as goal

pub loop-i-init : goal.loop-i-init
loop-i-init g c = sym (placed_own (take c.args.count c.args.rows.now))

pub loop-i-preserved : goal.loop-i-preserved
loop-i-preserved g c =
    let front = take c.args.count c.args.rows.now in
    let i = c.loop-i.i in
    let ps = places front in
    let long : length ps ≡ length front = length-map front _ in
    let wide : i < length ps = omega (arith, long, c.loop-i-test.true) in
    let start : 0 + i ≡ i = omega arith in
    let next : suc i ≡ i + 1 = omega arith in
    put_next front c.loop-i.row-items _ (counted i ps) i i (length_counted 0 i ps ∙ long) c.loop-i.invariant
    (changed_is_set c.loop-i.row-items i c.row-item.result (λ r. record { element = r.element; number = r.number; marked = r.marked; place = i; node = r.node }) (omega (arith, c.loop-i-test.true, c.loop-i.auto.row-items)))
    ∙ ap (λ z. placed z front) (ap (λ k. set (counted i ps) i k) (sym start) ∙ (counted_more 0 i ps wide ∙ ap (λ k. counted k ps) next))

pub returns : goal.returns
returns g c =
    let rows = c.args.rows.now in
    let n = c.args.count in
    let front = take n rows in
    let size : length front ≡ n = length-take-le n rows c.requires in
    let end : c.loop-i.i ≡ n = omega (arith, size, c.loop-i-test.false, c.loop-i.auto.i-end) in
    ap (λ z. z ++ drop n rows) (c.loop-i.invariant ∙ ap (λ k. placed (counted k (places front)) front) end) ∙ counted_front 0 n rows
