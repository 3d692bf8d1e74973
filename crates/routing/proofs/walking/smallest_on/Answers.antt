use Rattle.std.proofs.Common.{[], ◌∷◌, ◌++◌, get_or, take, subst, sym}
use Rattle.std.proofs.lemmas.List.{take_more, take_all}
use Rattle.routing.specs.declared.neighbours.Neighbour.{Neighbour}
use Rattle.routing.specs.Walks.{SmallestOn}
use Rattle.routing.proofs.Following.{smallest_none, smallest_push}
use Rattle.routing.proofs.walking.smallest_on.Goals as goal

pub loop-neighbour-init : goal.loop-neighbour-init
loop-neighbour-init c = smallest_none c.args.cost c.args.costs.now

pub loop-neighbour-preserved : goal.loop-neighbour-preserved
loop-neighbour-preserved c =
    let ns = c.args.neighbours.now in
    let i = c.loop-neighbour.neighbour-index in
    let d : Neighbour = record { place = 0; length = 0 } in
    let n = get_or ns i d in
    subst (λ z. SmallestOn c.args.cost z c.args.costs.now c.better-best.result) (sym (take_more ns i d c.loop-neighbour-test.true))
    (subst (SmallestOn c.args.cost (take i ns ++ (n ∷ [])) c.args.costs.now) (sym c.better-best.ensures) (smallest_push c.args.cost c.args.costs.now (take i ns) n c.loop-neighbour.best c.loop-neighbour.invariant))

pub returns : goal.returns
returns c = subst (λ z. SmallestOn c.args.cost z c.args.costs.now c.loop-neighbour.best) (take_all c.loop-neighbour.neighbour-index c.args.neighbours.now c.loop-neighbour-test.false) c.loop-neighbour.invariant
