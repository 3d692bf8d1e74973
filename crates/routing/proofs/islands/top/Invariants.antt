use Rattle.routing.proofs.Climbing.{Climbing}
use Rattle.routing.proofs.islands.top.Given as goal

abbrev pub invariant-loop-parents : goal.invariant-loop-parents
invariant-loop-parents l = Climbing l.from l.fn.parents l.parents l.at

abbrev pub decreases-loop-parents : goal.decreases-loop-parents
decreases-loop-parents l = l.at
