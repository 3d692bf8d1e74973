-- Filing below the pivot in a row, one branch after the other.
use Rattle.std.specs.Prelude.{◌≡◌, ℕ, ◌+◌, ◌≤◌, List, ◌∷◌, Some}
use Rattle.std.specs.List.{slice_get}
use Rattle.gnat_theory.specs.Tree.{Tree}
use Rattle.gnat_theory.specs.Splitting.{grown}
use Rattle.gnat_theory.specs.Shuffles.{Shuffle}
use Rattle.gnat_rows.specs.declared.Branch.{Branch}
use Rattle.gnat_rows.specs.declared.Node.TheVariants as node
use Rattle.gnat_rows.specs.declared.Row.{Row}
use Rattle.gnat_rows.specs.Rows.{HasRow}
use Rattle.gnat_rows.specs.Shows.{sample_in, pivot_in, Shows}
use Rattle.gnat_rows.specs.Lying.{Absent, OnlyIn}
use Rattle.gnat_rows.specs.Trees.{height}
use Rattle.gnat_filing.specs.Filed.{Ready}

module _ {E : Type 0} where
  -- a pivot's row, over a node in whose tree the sample of the row `at` may be filed
  pub record ReadyUnder (degree bucket : ℕ) (rows : List (Row E)) (pivot at : ℕ) (t : Tree E) (fs : List ℕ) : Type 0 where
    pub row : Row E
    pub there : slice_get rows pivot ≡ Some row
    pub ready : Ready degree bucket rows row.node at t fs
    pub apart : Absent pivot (at ∷ fs)

  abbrev pub FileableUnder : ℕ → ℕ → List (Row E) → ℕ → ℕ → Type 0
  FileableUnder degree bucket rows pivot at = (t : Tree E) × (fs : List ℕ) × ReadyUnder degree bucket rows pivot at t fs

  -- the node in the row is this branch
  abbrev pub HoldsBranch : List (Row E) → ℕ → Branch → Type 0
  HoldsBranch rows pivot b = HasRow rows pivot (λ r. r.node ≡ node.Branch b)

  -- The node in a pivot's row shows a tree, and of the rows in which it lies this holds. The pivot is as it was, and no other
  -- row but fs is changed.
  pub record LeavesUnderIn (Order : List ℕ → Type 0) (rows rows' : List (Row E)) (pivot : ℕ) (t : Tree E) (fs : List ℕ) : Type 0 where
    pub row : Row E
    pub there : slice_get rows pivot ≡ Some row
    pub row' : Row E
    pub there' : slice_get rows' pivot ≡ Some row'
    pub same_pivot : pivot_in row' ≡ pivot_in row
    pub lies : List ℕ
    pub shows : Shows rows' row'.node t lies
    pub same_rows : Order lies
    pub only : OnlyIn (pivot ∷ fs) rows rows'

  -- it lies in the rows fs, in another order
  abbrev pub LeavesUnder : List (Row E) → List (Row E) → ℕ → Tree E → List ℕ → Type 0
  LeavesUnder rows rows' pivot t fs = LeavesUnderIn (λ lies. Shuffle ℕ lies fs) rows rows' pivot t fs

module _ {E : Type 0} (dist : E → E → ℕ) (degree bucket : ℕ) where
  -- whatever tree was below the pivot, it is there with the sample of the row `at` filed
  abbrev pub FilesUnder : List (Row E) → List (Row E) → ℕ → ℕ → Type 0
  FilesUnder rows rows' pivot at =
      (t : Tree E) (fs : List ℕ) (row : Row E) → ReadyUnder degree bucket rows pivot at t fs → slice_get rows at ≡ Some row
      → LeavesUnder rows rows' pivot (grown dist degree bucket (sample_in row) t) (at ∷ fs)

  -- From one pivot's row to another, at least so many branches below: the sample may be filed there, and to file it there is
  -- all that is left to do, whatever rows it leaves.
  pub record Reached (steps : ℕ) (rows rows' : List (Row E)) (pivot pivot' at : ℕ) (t : Tree E) (fs : List ℕ) (row : Row E) : Type 0 where
    pub tree : Tree E
    pub lies : List ℕ
    pub ready : ReadyUnder degree bucket rows' pivot' at tree lies
    pub there : slice_get rows' at ≡ Some row
    pub lower : height tree + steps ≤ height t
    pub left : (later : List (Row E)) → LeavesUnder rows' later pivot' (grown dist degree bucket (sample_in row) tree) (at ∷ lies) → LeavesUnder rows later pivot (grown dist degree bucket (sample_in row) t) (at ∷ fs)

  abbrev pub Reaches : ℕ → List (Row E) → List (Row E) → ℕ → ℕ → ℕ → Type 0
  Reaches steps rows rows' pivot pivot' at =
      (t : Tree E) (fs : List ℕ) (row : Row E) → ReadyUnder degree bucket rows pivot at t fs → slice_get rows at ≡ Some row → Reached steps rows rows' pivot pivot' at t fs row

module _ {E : Type 0} where
  -- some tree in which it may be filed, of a setting that is not known here
  abbrev pub SomeFileableUnder : List (Row E) → ℕ → ℕ → Type 0
  SomeFileableUnder rows pivot at = (degree : ℕ) × (bucket : ℕ) × (1 ≤ degree) × FileableUnder degree bucket rows pivot at

  -- one branch further, whatever the setting
  abbrev pub GoesBelow : (E → E → ℕ) → List (Row E) → List (Row E) → ℕ → ℕ → ℕ → Type 0
  GoesBelow dist rows rows' pivot pivot' at = (degree bucket : ℕ) → 1 ≤ degree → Reaches dist degree bucket 1 rows rows' pivot pivot' at
