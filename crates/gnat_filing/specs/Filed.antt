-- Filing a sample that stands in a row of its own below a node.
use Rattle.std.specs.Prelude.{◌≡◌, ℕ, ◌<◌, ◌≤◌, List, [], ◌∷◌, ◌++◌, length, Some}
use Rattle.std.specs.List.{slice_get}
use Rattle.hits.specs.Samples.{Sample}
use Rattle.gnat_theory.specs.Tree.{Tree}
use Rattle.gnat_theory.specs.Splitting.{grown}
use Rattle.gnat_theory.specs.Shapes.{Branching, Leaves}
use Rattle.gnat_theory.specs.Shuffles.{Shuffle}
use Rattle.gnat_rows.specs.declared.Leaf.{Leaf as LeafRecord}
use Rattle.gnat_rows.specs.declared.Node.{Node}
use Rattle.gnat_rows.specs.declared.Row.{Row}
use Rattle.gnat_rows.specs.Shows.{sample_in, held, HoldsSamples, Shows}
use Rattle.gnat_rows.specs.Lying.{Distinct, OnlyIn}

module _ {E : Type 0} where
  -- The rows show the tree t from the node on, in fs, and the row `at` is another. Its height needs no bound here: the rows in
  -- which it lies are apart, so it is no higher than there are rows.
  pub record Ready (degree bucket : ℕ) (rows : List (Row E)) (node : Node) (at : ℕ) (t : Tree E) (fs : List ℕ) : Type 0 where
    pub shows : Shows rows node t fs
    pub apart : Distinct (at ∷ fs)
    pub within : at < length rows
    pub branching : Branching degree t
    pub leaves : Leaves bucket t

  abbrev pub Fileable : ℕ → ℕ → List (Row E) → Node → ℕ → Type 0
  Fileable degree bucket rows node at = (t : Tree E) × (fs : List ℕ) × Ready degree bucket rows node at t fs

  -- the rows show a tree from the node on, and of the rows in which it lies this holds; no row but fs is changed
  pub record LeavesIn (Order : List ℕ → Type 0) (rows rows' : List (Row E)) (node' : Node) (t : Tree E) (fs : List ℕ) : Type 0 where
    pub lies : List ℕ
    pub shows : Shows rows' node' t lies
    pub same_rows : Order lies
    pub only : OnlyIn fs rows rows'

  -- it lies in the rows fs, in another order
  abbrev pub LeavesTree : List (Row E) → List (Row E) → Node → Tree E → List ℕ → Type 0
  LeavesTree rows rows' node' t fs = LeavesIn (λ lies. Shuffle ℕ lies fs) rows rows' node' t fs

  -- a leaf of at most so many rows and the row `at`, which hold the samples xs
  pub record ReadyLeaf (most : ℕ) (rows : List (Row E)) (l : LeafRecord) (at : ℕ) (xs : List (Sample E)) : Type 0 where
    pub thirty_two : length l.rows ≡ 32
    pub count : l.count ≤ most
    pub apart : Distinct (at ∷ held l)
    pub holds : HoldsSamples rows (held l ++ (at ∷ [])) xs

  abbrev pub LeafFileable : ℕ → List (Row E) → LeafRecord → ℕ → Type 0
  LeafFileable most rows l at = (xs : List (Sample E)) × ReadyLeaf most rows l at xs

  -- whatever samples the leaf and the row `at` held, the rows show what they become
  abbrev pub Becomes : (List (Sample E) → Tree E) → ℕ → List (Row E) → List (Row E) → LeafRecord → Node → ℕ → Type 0
  Becomes became most rows rows' l node' at = (xs : List (Sample E)) → ReadyLeaf most rows l at xs → LeavesTree rows rows' node' (became xs) (at ∷ held l)

module _ {E : Type 0} (dist : E → E → ℕ) (degree bucket : ℕ) where
  -- whatever tree the rows showed, they show it with the sample of the row `at` filed
  abbrev pub FilesIn : List (Row E) → List (Row E) → Node → Node → ℕ → Type 0
  FilesIn rows rows' node node' at =
      (t : Tree E) (fs : List ℕ) (row : Row E) → Ready degree bucket rows node at t fs → slice_get rows at ≡ Some row
      → LeavesTree rows rows' node' (grown dist degree bucket (sample_in row) t) (at ∷ fs)
