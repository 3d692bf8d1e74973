use Rattle.std.proofs.Common.{◌≡◌, ℕ, ◌+◌, ◌<◌, length, List}
use Rattle.std.specs.List.{AllByRecursion}
use Rattle.chains.specs.declared.Edge.{Edge}
use Rattle.chains.specs.Edges.{Inside}
use Rattle.chains.specs.Costs.{none, cost_at, Settled}
use Rattle.routing.specs.Ranks.{ranks, cost_of}
use Rattle.routing.specs.Layouts.{LaidOut}
use Rattle.routing.specs.Walks.{steps_of}
use Rattle.routing.proofs.Following.{Walking}
use Rattle.routing.proofs.walking.walk.Given as goal

abbrev pub invariant-loop-next : goal.invariant-loop-next
invariant-loop-next l =
    (l.at < length l.costs) × (l.written + steps_of (cost_of l.costs l.at) ≡ steps_of (cost_of l.costs l.start))
    × ((edges : List Edge) (goal : ℕ) → LaidOut edges l.neighbours.ends.now l.neighbours.all.now → AllByRecursion (Inside (length l.costs)) edges → Settled edges goal (ranks l.costs) → cost_at (ranks l.costs) l.start < none → Walking edges l.costs l.start goal l.fn.list l.list l.at l.written)

abbrev pub decreases-loop-next : goal.decreases-loop-next
decreases-loop-next l = steps_of (cost_of l.costs l.at)
