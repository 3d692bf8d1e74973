use Rattle.std.proofs.Common.{◌≡◌, ℕ, ◌<◌, ◌≤◌, ◌||◌, false, length, get_or}
use Rattle.gnat_theory.specs.Searching.{outside}
use Rattle.gnat_search.specs.Nodes.{IsAround}
use Rattle.gnat_search.proofs.striking.strike.Given as goal

-- the first children were held against their ranges
abbrev pub invariant-loop-child : goal.invariant-loop-child
invariant-loop-child l =
    (length l.struck ≡ 8)
    × ((d R : ℕ) → IsAround d R l.band → (j : ℕ) → j < l.child → get_or l.struck j false ≡ (get_or l.initial.struck j false || outside d R (record { low = get_or l.low j 0; high = get_or l.high j 0 })))
    × ((j : ℕ) → l.child ≤ j → get_or l.struck j false ≡ get_or l.initial.struck j false)
