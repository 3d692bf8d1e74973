use Rattle.std.proofs.Common.{◌≡◌, ℕ, ◌<◌, ◌≤◌, List, length, None, Option, rules, sym, refl, ap, ◌∙◌, subst, arith}
use Rattle.routing.specs.declared.cost.Cost.{Cost}
use Rattle.routing.specs.declared.knockout.Waiting.{Waiting}
use Rattle.routing.specs.Ranks.{cost_of}
use Rattle.routing.specs.Knockouts.{waits, entry}
use Rattle.routing.specs.Settles.{Agrees}
use Rattle.routing.proofs.Offering.{Bounded, NearIn, steps_few, cost_short}
use Rattle.routing.proofs.Emptying.{nobody_at, blank_agrees, start_bounded, start_underway, taken_some, taken_none, taken_same, agrees_out, near_here, done, lower, underway_on, settled_when, Out}
use Rattle.routing.proofs.settling.settle.Goals as goal

pub offer-requires-clause-agree : goal.offer-requires-clause-agree
offer-requires-clause-agree c =
    blank_agrees c.fill.new.self c.fill-2.new.self (λ i. ap (λ z. entry z i) (c.fill-2.ensures.after (λ y e. grind arith)) ∙ nobody_at (length c.args.waiting.now) i None refl)
    (omega (arith, c.fill.ensures.len, c.fill-2.ensures.len, c.requires.twice)) (omega (arith, c.fill.ensures.len, c.requires.few))

pub loop-next-init : goal.loop-next-init
loop-next-init c =
    let long : length c.fill.new.self ≡ length c.args.costs.now = c.fill.ensures.len in
    let none_yet : (i : ℕ) → cost_of c.fill.new.self i ≡ None = λ i. ap (λ z. cost_of z i) (c.fill.ensures.after (λ y e. search rules)) ∙ nobody_at (length c.args.costs.now) i None refl in
    let l : c.args.goal < length c.fill.new.self = omega (arith, c.requires.goal, long) in (
      c.offer.ensures.agree,
      start_bounded c.args.goal c.fill.new.self none_yet l c.offer.new.costs c.fill-2.new.self c.offer.new.waiting c.offer.ensures.offered,
      λ edges a b. start_underway c.args.goal c.fill.new.self none_yet l edges c.offer.new.costs c.fill-2.new.self c.offer.new.waiting c.offer.ensures.offered,
    )

pub of-requires : goal.of-requires
of-requires c =
    let o = taken_some c.loop-next.waiting c.take.new.matches c.take.result c.in-Some.next c.take.ensures c.in-Some.is in
    omega (arith, o.inside, c.loop-next.invariant.0.twice, c.loop-next.auto.costs, c.offer.auto.costs, c.fill.ensures.len, c.requires.ends)

pub hand_on-requires-clause-agree : goal.hand_on-requires-clause-agree
hand_on-requires-clause-agree c = agrees_out c.loop-next.costs c.loop-next.waiting c.take.new.matches c.in-Some.next c.loop-next.invariant.0 (taken_some c.loop-next.waiting c.take.new.matches c.take.result c.in-Some.next c.take.ensures c.in-Some.is)

-- the cost of the place that was taken out
short : (costs : List (Option Cost)) (waiting after : List (Option Waiting)) (w : Waiting) → Agrees costs waiting → Bounded costs → Out waiting w after → (w.cost.length ≤ 1073741824) × (w.cost.steps ≤ 1024)
short costs waiting after w a b o = let l : w.place < length costs = omega (arith, o.inside, a.twice) in cost_short costs b a.few w.place w.cost l (a.same w.place w l o.is)

pub hand_on-requires-clause-length : goal.hand_on-requires-clause-length
hand_on-requires-clause-length c = (short c.loop-next.costs c.loop-next.waiting c.take.new.matches c.in-Some.next c.loop-next.invariant.0 c.loop-next.invariant.1 (taken_some c.loop-next.waiting c.take.new.matches c.take.result c.in-Some.next c.take.ensures c.in-Some.is)).0

pub hand_on-requires-clause-steps : goal.hand_on-requires-clause-steps
hand_on-requires-clause-steps c = (short c.loop-next.costs c.loop-next.waiting c.take.new.matches c.in-Some.next c.loop-next.invariant.0 c.loop-next.invariant.1 (taken_some c.loop-next.waiting c.take.new.matches c.take.result c.in-Some.next c.take.ensures c.in-Some.is)).1

pub hand_on-requires-clause-near : goal.hand_on-requires-clause-near
hand_on-requires-clause-near c =
    subst (NearIn (length c.loop-next.costs)) (sym c.of.ensures)
    (near_here c.args.neighbours.now.ends.now c.args.neighbours.now.all.now (length c.loop-next.costs) c.in-Some.next.place (omega (arith, c.requires.ends, c.loop-next.auto.costs, c.offer.auto.costs, c.fill.ensures.len)) c.args.neighbours.now.near)

pub loop-next-smaller : goal.loop-next-smaller
loop-next-smaller c =
    let o = taken_some c.loop-next.waiting c.take.new.matches c.take.result c.in-Some.next c.take.ensures c.in-Some.is in
    let inv = c.loop-next.invariant in
    let near = subst (NearIn (length c.loop-next.costs)) (sym c.of.ensures) (near_here c.args.neighbours.now.ends.now c.args.neighbours.now.all.now (length c.loop-next.costs) c.in-Some.next.place (omega (arith, c.requires.ends, c.loop-next.auto.costs, c.offer.auto.costs, c.fill.ensures.len)) c.args.neighbours.now.near) in
    lower c.loop-next.costs c.hand_on.new.costs c.loop-next.waiting c.take.new.matches c.hand_on.new.waiting c.in-Some.next c.of.result.now inv.0 inv.1 o.inside o.is o.only o.gone near c.hand_on.ensures.handed

pub loop-next-preserved : goal.loop-next-preserved
loop-next-preserved c =
    let o = taken_some c.loop-next.waiting c.take.new.matches c.take.result c.in-Some.next c.take.ensures c.in-Some.is in
    let inv = c.loop-next.invariant in
    let near = subst (NearIn (length c.loop-next.costs)) (sym c.of.ensures) (near_here c.args.neighbours.now.ends.now c.args.neighbours.now.all.now (length c.loop-next.costs) c.in-Some.next.place (omega (arith, c.requires.ends, c.loop-next.auto.costs, c.offer.auto.costs, c.fill.ensures.len)) c.args.neighbours.now.near) in
    let d = done c.loop-next.costs c.hand_on.new.costs c.loop-next.waiting c.take.new.matches c.hand_on.new.waiting c.in-Some.next c.of.result.now inv.0 inv.1 o.inside o.is o.only o.gone near c.hand_on.ensures.handed in (
      c.hand_on.ensures.agree,
      d.fallen.bounded,
      λ edges laid inside.
          let e = c.of.ensures ∙ laid c.in-Some.next.place (omega (arith, o.inside, inv.0.twice, c.loop-next.auto.costs, c.offer.auto.costs, c.fill.ensures.len, c.requires.ends)) in
          underway_on c.loop-next.costs c.hand_on.new.costs c.loop-next.waiting c.take.new.matches c.hand_on.new.waiting c.in-Some.next c.of.result.now inv.0 inv.1 o.inside o.is o.only o.gone near c.hand_on.ensures.handed edges c.args.goal e (inv.2 edges laid inside),
    )

pub returns : goal.returns
returns c =
    let inv = c.loop-next.invariant in
    let nobody = taken_none c.loop-next.waiting c.take.new.matches c.take.result c.take.ensures c.in_default.not-Some in
    record {
      nobody = λ p l. ap (λ z. waits z p) (taken_same c.loop-next.waiting c.take.new.matches c.take.result c.take.ensures c.in_default.not-Some) ∙ nobody p (omega (arith, l, inv.0.twice, c.loop-next.auto.costs, c.offer.auto.costs, c.fill.ensures.len));
      few = λ i k l e. (steps_few c.loop-next.costs inv.1 i k l e, (cost_short c.loop-next.costs inv.1 inv.0.few i k l e).0);
      settled = λ edges laid inside.
          settled_when edges c.args.goal (length c.args.costs.now) c.loop-next.costs c.loop-next.waiting (omega (arith, c.loop-next.auto.costs, c.offer.auto.costs, c.fill.ensures.len)) inside inv.0.twice
          (taken_none c.loop-next.waiting c.take.new.matches c.take.result c.take.ensures c.in_default.not-Some) (inv.2 edges laid inside);
    }
