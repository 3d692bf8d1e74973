-- Dropping the sample of a row from below a node.
use Rattle.std.specs.Prelude.{◌≡◌, ℕ, ◌<◌, ◌≤◌, Bool, true, false, cond, not, List, ◌∷◌, length, Some, filter, ◌==◌, ◌≢◌, slice_index}
use Rattle.std.specs.List.{slice_get}
use Rattle.hits.specs.Samples.{Among}
use Rattle.gnat_theory.specs.Tree.{Tree, standing, members}
use Rattle.gnat_theory.specs.Dropping.{shrunk}
use Rattle.gnat_theory.specs.Ranges.{Placed}
use Rattle.gnat_theory.specs.Shapes.{Branching}
use Rattle.gnat_theory.specs.Shuffles.{Shuffle, Apart}
use Rattle.gnat_rows.specs.declared.Branch.{Branch}
use Rattle.gnat_rows.specs.declared.Leaf.{Leaf}
use Rattle.gnat_rows.specs.declared.Node.{Node}
use Rattle.gnat_rows.specs.declared.Row.{Row}
use Rattle.gnat_rows.specs.Shows.{sample_in, held, Shows}
use Rattle.gnat_rows.specs.Lying.{Distinct}
use Rattle.gnat_filing.specs.Filed.{LeavesIn}

-- the other rows, in their order
abbrev pub without_row : ℕ → List ℕ → List ℕ
without_row at is = filter (λ i. not (i == at)) is

-- a leaf without a row
pub record Shortened (l l' : Leaf) (at : ℕ) : Type 0 where
  pub rows : held l' ≡ without_row at (held l)
  pub count : l'.count ≤ l.count
  pub thirty_two : length l'.rows ≡ 32

-- whether the row is that of a pivot of the branch
abbrev pub IsPivot : Branch → ℕ → Bool → Type 0
IsPivot b at true = (k : ℕ) × (k < b.count) × (slice_index b.pivots k ≡ at)
IsPivot b at false = (k : ℕ) → k < b.count → slice_index b.pivots k ≢ at

module _ {E : Type 0} where
  -- the rows show the tree t from the node on, in fs, and the sample of the row `at` stands in it
  pub record Droppable (dist : E → E → ℕ) (degree : ℕ) (rows : List (Row E)) (node : Node) (at : ℕ) (t : Tree E) (fs : List ℕ) (row : Row E) : Type 0 where
    pub shows : Shows rows node t fs
    pub apart : Distinct fs
    pub there : slice_get rows at ≡ Some row
    pub lies : Among at fs
    pub stands : Among (sample_in row) (standing t)
    pub some : 1 ≤ degree
    pub branching : Branching degree t
    pub placed : Placed dist t
    pub numbers : Apart (members t)

  abbrev pub SomeDroppable : (E → E → ℕ) → List (Row E) → Node → ℕ → Type 0
  SomeDroppable dist rows node at = (degree : ℕ) × (t : Tree E) × (fs : List ℕ) × (row : Row E) × Droppable dist degree rows node at t fs row

  -- the rows show the tree, which lies in the rows fs, without `at` if that is freed; no other row is changed
  abbrev pub Drops : List (Row E) → List (Row E) → Node → Bool → ℕ → Tree E → List ℕ → Type 0
  Drops rows rows' node' freed at t fs = LeavesIn (λ lies. Shuffle ℕ (cond freed (at ∷ lies) lies) fs) rows rows' node' t fs

  abbrev pub DropsFrom : (E → E → ℕ) → List (Row E) → List (Row E) → Node → Node → Bool → ℕ → Type 0
  DropsFrom dist rows rows' node node' freed at =
      (degree : ℕ) (t : Tree E) (fs : List ℕ) (row : Row E) → Droppable dist degree rows node at t fs row → Drops rows rows' node' freed at (shrunk row.number t) fs
