-- Where the sample of a row is to be dropped: from the node that holds it, below one pivot after the other.
use Rattle.std.specs.Prelude.{◌≡◌, ℕ, ◌+◌, ◌≤◌, Bool, true, cond, List, ◌∷◌, Some, None, Option}
use Rattle.std.specs.List.{slice_get}
use Rattle.gnat_theory.specs.Tree.{Tree}
use Rattle.gnat_theory.specs.Dropping.{shrunk}
use Rattle.gnat_theory.specs.Shuffles.{Shuffle}
use Rattle.gnat_rows.specs.declared.Node.{Node}
use Rattle.gnat_rows.specs.declared.Node.TheVariants as node
use Rattle.gnat_rows.specs.declared.Row.{Row}
use Rattle.gnat_rows.specs.Rows.{HasRow}
use Rattle.gnat_rows.specs.Shows.{Shows}
use Rattle.gnat_rows.specs.Lying.{Absent}
use Rattle.gnat_rows.specs.Trees.{height}
use Rattle.gnat_filing.specs.Dropping.{IsPivot, Droppable, Drops}
use Rattle.gnat_filing.specs.Under.{LeavesUnderIn}

-- the node is a leaf, or has the row as one of its pivots
abbrev pub Holds : ℕ → Node → Type 0
Holds at (node.Leaf l) = Unit {0}
Holds at (node.Branch b) = IsPivot b at true

module _ {E : Type 0} where
  -- the tree below the pivot, which lies in the rows fs, without `at` if that is freed; no other row is changed
  abbrev pub DropsUnder : List (Row E) → List (Row E) → ℕ → Bool → ℕ → Tree E → List ℕ → Type 0
  DropsUnder rows rows' pivot freed at t fs = LeavesUnderIn (λ lies. Shuffle ℕ (cond freed (at ∷ lies) lies) fs) rows rows' pivot t fs

module _ {E : Type 0} (dist : E → E → ℕ) where
  -- a pivot's row, over a node in whose tree the sample of the row `at` stands
  pub record DroppableUnder (degree : ℕ) (rows : List (Row E)) (pivot at : ℕ) (t : Tree E) (fs : List ℕ) (own : Row E) : Type 0 where
    pub row : Row E
    pub there : slice_get rows pivot ≡ Some row
    pub ready : Droppable dist degree rows row.node at t fs own
    pub apart : Absent pivot fs

  abbrev pub SomeDroppableUnder : List (Row E) → ℕ → ℕ → Type 0
  SomeDroppableUnder rows pivot at = (degree : ℕ) × (t : Tree E) × (fs : List ℕ) × (own : Row E) × DroppableUnder degree rows pivot at t fs own

  -- the sample stands below this pivot of the node, and to drop it there is to drop it from the node, whatever rows that leaves
  pub record LiesUnder (degree : ℕ) (rows : List (Row E)) (n : Node) (pivot at : ℕ) (t : Tree E) (fs : List ℕ) (own : Row E) : Type 0 where
    pub tree : Tree E
    pub lies : List ℕ
    pub ready : DroppableUnder degree rows pivot at tree lies own
    pub lower : height tree + 1 ≤ height t
    pub left : (later : List (Row E)) (freed : Bool) → DropsUnder rows later pivot freed at (shrunk own.number tree) lies → Drops rows later n freed at (shrunk own.number t) fs

  -- the node holds the sample, or it lies under this pivot
  abbrev pub IsFollowed : List (Row E) → Node → ℕ → Option ℕ → Type 0
  IsFollowed rows n at None = Holds at n
  IsFollowed rows n at (Some pivot) = (degree : ℕ) (t : Tree E) (fs : List ℕ) (own : Row E) → Droppable dist degree rows n at t fs own → LiesUnder degree rows n pivot at t fs own

  -- from one pivot's row to another below it: to drop the sample there is all that is left to do
  pub record Sought (degree : ℕ) (rows : List (Row E)) (pivot pivot' at : ℕ) (t : Tree E) (fs : List ℕ) (own : Row E) : Type 0 where
    pub tree : Tree E
    pub lies : List ℕ
    pub ready : DroppableUnder degree rows pivot' at tree lies own
    pub left : (later : List (Row E)) (freed : Bool) → DropsUnder rows later pivot' freed at (shrunk own.number tree) lies → DropsUnder rows later pivot freed at (shrunk own.number t) fs

  abbrev pub Seeks : List (Row E) → ℕ → ℕ → ℕ → Type 0
  Seeks rows pivot pivot' at = (degree : ℕ) (t : Tree E) (fs : List ℕ) (own : Row E) → DroppableUnder degree rows pivot at t fs own → Sought degree rows pivot pivot' at t fs own

module _ {E : Type 0} where
  -- the node in a pivot's row shows the tree t, in the rows fs
  abbrev pub ShowsBelow : List (Row E) → ℕ → Tree E → List ℕ → Type 0
  ShowsBelow rows pivot t fs = HasRow rows pivot (λ r. Shows rows r.node t fs)

  -- of two pivots' rows: the tree below the second is no higher than the one below the first
  abbrev pub NoHigher : List (Row E) → ℕ → ℕ → Type 0
  NoHigher rows pivot pivot' = (t u : Tree E) (fs gs : List ℕ) → ShowsBelow rows pivot t fs → ShowsBelow rows pivot' u gs → height u ≤ height t

-- the node in the row holds the sample
abbrev pub HoldsIn : {E : Type 0} → List (Row E) → ℕ → ℕ → Type 0
HoldsIn rows pivot at = HasRow rows pivot (λ r. Holds at r.node)
