-- The branch of a split: bare of samples at first, and then filled.
use Rattle.std.specs.Prelude.{◌≡◌, ℕ, ◌<◌, ◌≤◌, false, List, ◌∷◌, ◌++◌, length, take, Some, slice_index}
use Rattle.std.specs.List.{slice_get}
use Rattle.hits.specs.Samples.{Sample}
use Rattle.gnat_theory.specs.Tree.{Tree}
use Rattle.gnat_theory.specs.Tree.Tree.{leaf}
use Rattle.gnat_theory.specs.Filing.{filed, filed_all}
use Rattle.gnat_theory.specs.Shapes.{Branching, Leaves}
use Rattle.gnat_rows.specs.declared.Branch.{Branch}
use Rattle.gnat_rows.specs.declared.Leaf.{Leaf as LeafRecord}
use Rattle.gnat_rows.specs.declared.Node.{Node}
use Rattle.gnat_rows.specs.declared.Node.TheVariants as node
use Rattle.gnat_rows.specs.declared.Row.{Row}
use Rattle.gnat_rows.specs.Rows.{HasRow, empty}
use Rattle.gnat_rows.specs.Shows.{sample_in, ranges, column, HoldsSamples, Shows}
use Rattle.gnat_rows.specs.Lying.{Distinct, OnlyIn}
use Rattle.gnat_rows.specs.Trees.{height}
use Rattle.gnat_filing.specs.Filed.{Ready, LeavesTree}
use Rattle.gnat_filing.specs.Leaf.{Pushed}

-- a leaf with one row more
abbrev pub Lengthened : Node → Node → ℕ → Type 0
Lengthened n n' at = (l : LeafRecord) → n ≡ node.Leaf l → (l' : LeafRecord) × (n' ≡ node.Leaf l') × Pushed l l' at

module _ {E : Type 0} where
  -- the row is an unmarked pivot's over an empty leaf
  abbrev pub Cleared : List (Row E) → ℕ → Type 0
  Cleared rows i = HasRow rows i (λ r. (r.node ≡ empty) × (r.marked ≡ false))

  -- the rows of the first n are cleared, and no others changed
  pub record Clears (rows rows' : List (Row E)) (is : List ℕ) (n : ℕ) : Type 0 where
    pub cleared : (k : ℕ) → k < n → Cleared rows' (slice_index is k)
    pub only : OnlyIn (take n is) rows rows'

  -- what a sample can be filed in without a split: a branch over leaves that have room
  abbrev pub BelowFileable : List (Row E) → Branch → ℕ → Type 0
  BelowFileable rows b at = (degree : ℕ) × (t : Tree E) × (fs : List ℕ) × (1 ≤ degree) × Ready degree 31 rows (node.Branch b) at t fs × (height t < 2)

  -- a branch over empty leaves, and rows of samples to file below it
  pub record Fillable (degree : ℕ) (rows : List (Row E)) (b : Branch) (is : List ℕ) (t : Tree E) (fs : List ℕ) (xs : List (Sample E)) : Type 0 where
    pub some : 1 ≤ degree
    pub shows : Shows rows (node.Branch b) t fs
    pub holds : HoldsSamples rows is xs
    pub apart : Distinct (is ++ fs)
    pub few : length is ≤ 32
    pub branching : Branching degree t
    pub leaves : Leaves 0 t
    pub flat : height t < 2

  abbrev pub SomeFillable : List (Row E) → Branch → List ℕ → Type 0
  SomeFillable rows b is = (degree : ℕ) × (t : Tree E) × (fs : List ℕ) × (xs : List (Sample E)) × Fillable degree rows b is t fs xs

module _ {E : Type 0} (dist : E → E → ℕ) where
  -- the ranges to the child j hold the distances of the pivots to its own alone
  abbrev pub Pointed : List (Row E) → List ℕ → Branch → ℕ → Type 0
  Pointed rows is b j =
      HasRow rows (slice_index is j) (λ row.
      (ds : List ℕ) × ((k : ℕ) → k < b.count → HasRow rows (slice_index is k) (λ q. slice_index ds k ≡ dist q.element row.element)) × (length ds ≡ 8) × (column b j ≡ ranges b.count ds ds))

  pub record Bare (rows : List (Row E)) (is : List ℕ) (degree : ℕ) (b : Branch) : Type 0 where
    pub count : b.count ≡ degree
    pub pivots : b.pivots ≡ is
    pub points : (j : ℕ) → j < degree → Pointed rows is b j

  abbrev pub FilesBelow : List (Row E) → List (Row E) → Branch → Branch → ℕ → Type 0
  FilesBelow rows rows' b b' at =
      (degree : ℕ) (t : Tree E) (fs : List ℕ) (row : Row E) → 1 ≤ degree → Ready degree 31 rows (node.Branch b) at t fs → height t < 2 → slice_get rows at ≡ Some row
      → LeavesTree rows rows' (node.Branch b') (filed dist leaf (sample_in row) t) (at ∷ fs)

  -- the first n rows of `is` are filed
  abbrev pub Fills : ℕ → List (Row E) → List (Row E) → Branch → Branch → List ℕ → Type 0
  Fills n rows rows' b b' is =
      (degree : ℕ) (t : Tree E) (fs : List ℕ) (xs : List (Sample E)) → Fillable degree rows b is t fs xs
      → LeavesTree rows rows' (node.Branch b') (filed_all dist leaf (take n xs) t) (take n is ++ fs)
