use Rattle.std.proofs.Common.{◌+◌, ◌*◌, length, sum, List}
use Rattle.std.specs.List.{AllByRecursion}
use Rattle.chains.specs.declared.Edge.{Edge}
use Rattle.chains.specs.Edges.{Inside}
use Rattle.routing.specs.Ranks.{ranks}
use Rattle.routing.specs.Layouts.{LaidOut}
use Rattle.routing.specs.Settles.{Agrees}
use Rattle.routing.proofs.Offering.{Bounded}
use Rattle.routing.proofs.Emptying.{Underway, waiters}
use Rattle.routing.proofs.settling.settle.Given as goal

abbrev pub invariant-loop-next : goal.invariant-loop-next
invariant-loop-next l =
    Agrees l.costs l.waiting × Bounded l.costs
    × ((edges : List Edge) → LaidOut edges l.neighbours.ends.now l.neighbours.all.now → AllByRecursion (Inside (length l.fn.costs)) edges → Underway edges l.goal l.costs l.waiting)

abbrev pub decreases-loop-next : goal.decreases-loop-next
decreases-loop-next l = sum (ranks l.costs) * 1025 + waiters l.waiting (length l.costs)
