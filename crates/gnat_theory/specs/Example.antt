-- One split and one search on a line of numbers, with degree 2 and bucket 2.
--
--     sample   1 at 0        3 at 4            2 at 10
--              pivot 1                         pivot 2
--
-- The third sample makes a leaf of three, which splits. The first pivot is 1, the smallest number, and the next is 2, the
-- farthest from it. Sample 3 is nearer to pivot 1. So pivot 1's range to its own child holds 0 and 4, and pivot 2's range
-- to that child holds 10 and 6. A search for the nearest of 11 measures both pivots, 11 and 1 away. With 1 as its reach
-- pivot 2 strikes the child of pivot 1: nothing there is nearer than 6 to pivot 2.
use Rattle.std.specs.Prelude.{◌≡◌, ℕ, ◌+◌, ◌-◌, false, [], ◌∷◌}
use Rattle.hits.specs.Samples.{Sample}
use Rattle.gnat_theory.specs.Tree.{Tree, Range}
use Rattle.gnat_theory.specs.Tree.Tree.{leaf, branch}
use Rattle.gnat_theory.specs.Tree.Parts.{none, part}
use Rattle.gnat_theory.specs.Rebuilding.{rebuilt}
use Rattle.gnat_theory.specs.Searching.{start, nearest_hits, searched}

abbrev pub along : ℕ → ℕ → ℕ
along a b = (a - b) + (b - a)

abbrev pub at : ℕ → ℕ → Sample ℕ
at n place = record { number = n; element = place }

abbrev pub between : ℕ → ℕ → Range
between low high = record { low = low; high = high }

abbrev pub shown_tree : Tree ℕ
shown_tree =
    branch
    (part (record { number = 1; element = 0; marked = false }) (between 0 4 ∷ (between 6 10 ∷ [])) (leaf (at 3 4 ∷ []))
    (part (record { number = 2; element = 10; marked = false }) (between 10 10 ∷ (between 0 0 ∷ [])) (leaf [])
    none))

pub record Shown : Type 0 where
  pub split : rebuilt along 2 2 (at 1 0 ∷ (at 2 10 ∷ (at 3 4 ∷ []))) ≡ shown_tree
  pub found : searched along 11 (nearest_hits 1) shown_tree start ≡ record { kept = record { number = 2; distance = 1 } ∷ []; measured = 2 }
