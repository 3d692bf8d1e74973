-- One branch on the way of a sample: its pivots measured, the nearest found, the ranges to its child widened.
use Rattle.std.specs.Prelude.{◌≡◌, ℕ, ◌<◌, ◌≤◌, List, length, take, ◌≢◌, slice_index}
use Rattle.gnat_theory.specs.Filing.{nearest, widened}
use Rattle.gnat_rows.specs.declared.Branch.{Branch}
use Rattle.gnat_rows.specs.declared.Row.{Row}
use Rattle.gnat_rows.specs.Rows.{HasRow}
use Rattle.gnat_rows.specs.Shows.{column}

-- the branch has pivots, and each has its row
pub record Pivoted {E : Type 0} (rows : List (Row E)) (b : Branch) : Type 0 where
  pub some : 1 ≤ b.count
  pub most : b.count ≤ 8
  pub within : (k : ℕ) → k < b.count → slice_index b.pivots k < length rows

-- in order, the distances of the pivots to an element
pub record Measured {E : Type 0} (dist : E → E → ℕ) (rows : List (Row E)) (b : Branch) (e : E) (ds : List ℕ) : Type 0 where
  pub each : (k : ℕ) → k < b.count → HasRow rows (slice_index b.pivots k) (λ row. slice_index ds k ≡ dist row.element e)
  pub eight : length ds ≡ 8

-- with every pivot's range to the child j widened to hold its distance
pub record Widens (b b' : Branch) (j : ℕ) (ds : List ℕ) : Type 0 where
  pub count : b'.count ≡ b.count
  pub pivots : b'.pivots ≡ b.pivots
  pub wide : column b' j ≡ widened (column b j) (take b.count ds)
  pub others : (k : ℕ) → (k ≢ j) → column b' k ≡ column b k

-- the nearest pivot's place j, and the branch with the ranges to its child widened
pub record Approaches {E : Type 0} (dist : E → E → ℕ) (rows : List (Row E)) (e : E) (b b' : Branch) (j : ℕ) : Type 0 where
  pub distances : List ℕ
  pub measured : Measured dist rows b e distances
  pub below : j < b.count
  pub near : nearest (take b.count distances) ≡ j
  pub widens : Widens b b' j distances
