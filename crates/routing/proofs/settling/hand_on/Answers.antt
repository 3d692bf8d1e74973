use Rattle.std.proofs.Common.{get_or, take, subst, sym}
use Rattle.std.proofs.lemmas.List.{take_more, take_all}
use Rattle.routing.specs.declared.neighbours.Neighbour.{Neighbour}
use Rattle.routing.specs.Settles.{HandedOn, Offered, none_left}
use Rattle.routing.proofs.Offering.{handed_more}
use Rattle.routing.proofs.settling.hand_on.Goals as goal

pub loop-neighbour-init : goal.loop-neighbour-init
loop-neighbour-init c = (c.requires.agree, none_left c.args.costs.now c.args.waiting.now)

pub loop-neighbour-preserved : goal.loop-neighbour-preserved
loop-neighbour-preserved c =
    let ns = c.args.neighbours.now in
    let i = c.loop-neighbour.neighbour-index in
    let d : Neighbour = record { place = 0; length = 0 } in
    let n = get_or ns i d in
    let o = subst (λ z. Offered n.place z c.loop-neighbour.costs c.loop-neighbour.waiting c.offer.new.costs c.offer.new.waiting) c.onward.ensures c.offer.ensures.offered in (
      c.offer.ensures.agree,
      subst (λ z. HandedOn c.args.cost z c.args.costs.now c.args.waiting.now c.offer.new.costs c.offer.new.waiting) (sym (take_more ns i d c.loop-neighbour-test.true))
          (handed_more c.args.cost (take i ns) n c.args.costs.now c.loop-neighbour.costs c.offer.new.costs c.args.waiting.now c.loop-neighbour.waiting c.offer.new.waiting c.loop-neighbour.invariant.1 o),
    )

pub returns-clause-handed : goal.returns-clause-handed
returns-clause-handed c =
    subst (λ z. HandedOn c.args.cost z c.args.costs.now c.args.waiting.now c.loop-neighbour.costs c.loop-neighbour.waiting) (take_all c.loop-neighbour.neighbour-index c.args.neighbours.now c.loop-neighbour-test.false) c.loop-neighbour.invariant.1
