use Rattle.std.proofs.Common.{◌≡◌, ℕ, ◌≤◌, ◌<◌}
use Rattle.routing.specs.Knockouts.{places, entry, DecidedBut}
use Rattle.routing.proofs.knockout.replay.Given as goal

abbrev pub invariant-loop-at : goal.invariant-loop-at
invariant-loop-at l = DecidedBut l.at l.matches × (l.at < places l.fn.matches) × ((i : ℕ) → places l.fn.matches ≤ i → entry l.matches i ≡ entry l.fn.matches i)

abbrev pub decreases-loop-at : goal.decreases-loop-at
decreases-loop-at l = l.at
