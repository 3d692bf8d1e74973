use Rattle.std.proofs.Common.{◌<◌, ◌≤◌, length, subst, sym, ◌∙◌, arith}
use Rattle.std.specs.List.{AllByRecursion}
use Rattle.std.proofs.ByRecursion.{All-weaker}
use Rattle.routing.specs.Ranks.{cost_of}
use Rattle.routing.specs.Walks.{SmallestOn}
use Rattle.routing.proofs.Emptying.{near_here}
use Rattle.routing.proofs.Following.{walk_starts, walk_more, walk_ends, steps_less}
use Rattle.routing.proofs.walking.walk.Goals as goal

pub loop-next-init : goal.loop-next-init
loop-next-init c = (c.requires.start, omega arith, λ edges goal laid inside settled reached. walk_starts edges c.args.costs.now c.args.start goal c.args.list.now reached)

pub loop-next-smaller : goal.loop-next-smaller
loop-next-smaller c =
    let costs = c.args.costs.now in
    let n = c.args.neighbours.now in
    let near = subst (AllByRecursion (λ m. (m.place < length costs) × (m.length ≤ 1048576))) (sym c.of.ensures) (near_here n.ends.now n.all.now (length costs) c.loop-next.at c.requires.ends n.near) in
    let s = steps_less (cost_of costs c.loop-next.at) c.of.result.now costs c.smallest_on.result c.in-Some.next (length costs) c.smallest_on.ensures c.in-Some.is
    (All-weaker (λ m. (m.place < length costs) × (m.length ≤ 1048576)) (λ m. m.place < length costs) (λ m x. x.0) c.of.result.now near) in
    omega (arith, s.1)

pub loop-next-preserved : goal.loop-next-preserved
loop-next-preserved c =
    let costs = c.args.costs.now in
    let n = c.args.neighbours.now in
    let at = c.loop-next.at in
    let inv = c.loop-next.invariant in
    let near = subst (AllByRecursion (λ m. (m.place < length costs) × (m.length ≤ 1048576))) (sym c.of.ensures) (near_here n.ends.now n.all.now (length costs) at c.requires.ends n.near) in
    let s = steps_less (cost_of costs at) c.of.result.now costs c.smallest_on.result c.in-Some.next (length costs) c.smallest_on.ensures c.in-Some.is
    (All-weaker (λ m. (m.place < length costs) × (m.length ≤ 1048576)) (λ m. m.place < length costs) (λ m x. x.0) c.of.result.now near) in (
      s.0,
      omega (arith, s.1, inv.1),
      λ edges goal laid inside settled reached.
          walk_more edges goal costs c.requires.few inside settled c.requires.steps c.args.start c.args.list.now c.loop-next.list at c.loop-next.written c.in-Some.next c.smallest_on.result (inv.2 edges goal laid inside settled reached)
          (omega (arith, inv.1, c.requires.room)) (subst (λ z. SmallestOn (cost_of costs at) z costs c.smallest_on.result) (c.of.ensures ∙ laid at (omega (arith, inv.0, c.requires.ends))) c.smallest_on.ensures) c.in-Some.is,
    )

pub returns : goal.returns
returns c = λ edges goal laid inside settled reached.
    let costs = c.args.costs.now in
    let at = c.loop-next.at in
    let inv = c.loop-next.invariant in
    walk_ends edges goal costs c.requires.few inside settled c.requires.steps c.args.start c.args.list.now c.loop-next.list at c.loop-next.written c.smallest_on.result (inv.2 edges goal laid inside settled reached)
    (omega (arith, inv.1, c.requires.room)) (subst (λ z. SmallestOn (cost_of costs at) z costs c.smallest_on.result) (c.of.ensures ∙ laid at (omega (arith, inv.0, c.requires.ends))) c.smallest_on.ensures) c.in_default.not-Some
