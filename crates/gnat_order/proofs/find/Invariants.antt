use Rattle.std.proofs.Common.{ℕ, ◌-◌, ◌<◌, ◌≤◌, get_or, take}
use Rattle.gnat_order.specs.Order.{places}
use Rattle.gnat_rows.specs.Trees.{samples_at}
use Rattle.hits.specs.Samples.{numbers_of}
use Rattle.gnat_order.proofs.find.Given as goal

-- all before `low` are smaller, and all from `high` on are not
abbrev pub invariant-loop-low : goal.invariant-loop-low
invariant-loop-low g l =
    (l.low ≤ l.high) × (l.high ≤ l.standing)
    × ((k : ℕ) → k < l.low → get_or (numbers_of (samples_at l.rows (take l.standing (places l.rows)))) k 0 < l.number)
    × ((k : ℕ) → l.high ≤ k → k < l.standing → l.number ≤ get_or (numbers_of (samples_at l.rows (take l.standing (places l.rows)))) k 0)

abbrev pub decreases-loop-low : goal.decreases-loop-low
decreases-loop-low g l = l.high - l.low
