use Rattle.std.proofs.Common.{take}
use Rattle.routing.specs.Settles.{Agrees, HandedOn}
use Rattle.routing.proofs.settling.hand_on.Given as goal

abbrev pub invariant-loop-neighbour : goal.invariant-loop-neighbour
invariant-loop-neighbour l = Agrees l.costs l.waiting × HandedOn l.cost (take l.neighbour-index l.neighbours) l.fn.costs l.fn.waiting l.costs l.waiting
