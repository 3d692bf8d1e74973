use Rattle.std.proofs.Common.{◌≡◌, ℕ, ◌+◌, ◌<◌, ◌≤◌, ◌≢◌, Some}
use Rattle.routing.specs.Knockouts.{places, entry, DecidedBut}
use Rattle.routing.proofs.Winning.{Open}
use Rattle.routing.proofs.knockout.put.Given as goal

abbrev pub invariant-loop-at : goal.invariant-loop-at
invariant-loop-at l =
    (l.at < places l.fn.matches) × DecidedBut l.at l.matches × (1 ≤ l.at → Open l.waiting l.at l.matches)
    × (entry l.matches (places l.fn.matches + l.place) ≡ Some l.waiting)
    × ((i : ℕ) → places l.fn.matches ≤ i → i ≢ (places l.fn.matches + l.place) → entry l.matches i ≡ entry l.fn.matches i)

abbrev pub decreases-loop-at : goal.decreases-loop-at
decreases-loop-at l = l.at
