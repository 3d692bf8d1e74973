use Rattle.std.proofs.Common.{take}
use Rattle.routing.specs.Walks.{SmallestOn}
use Rattle.routing.proofs.walking.smallest_on.Given as goal

abbrev pub invariant-loop-neighbour : goal.invariant-loop-neighbour
invariant-loop-neighbour l = SmallestOn l.cost (take l.neighbour-index l.neighbours) l.costs l.best
