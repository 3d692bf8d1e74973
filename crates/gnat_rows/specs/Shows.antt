-- Which tree rows show, from a node on, and which rows it lies in.
use Rattle.std.specs.Prelude.{◌≡◌, ℕ, zero, suc, ◌≤◌, List, [], ◌∷◌, ◌++◌, length, map, take, Some, slice_index}
use Rattle.std.specs.List.{slice_get}
use Rattle.hits.specs.Samples.{Sample}
use Rattle.gnat_theory.specs.Tree.{Tree, Parts, Pivot, Range, pivots}
use Rattle.gnat_theory.specs.Tree.Tree.{leaf, branch}
use Rattle.gnat_theory.specs.Tree.Parts.{none, part}
use Rattle.gnat_rows.specs.declared.Leaf.{Leaf as LeafRecord}
use Rattle.gnat_rows.specs.declared.Branch.{Branch as BranchRecord}
use Rattle.gnat_rows.specs.declared.Node.{Node}
use Rattle.gnat_rows.specs.declared.Node.TheVariants as node
use Rattle.gnat_rows.specs.declared.Row.{Row}

abbrev pub sample_in : {E : Type 0} → Row E → Sample E
sample_in r = record { number = r.number; element = r.element }

abbrev pub pivot_in : {E : Type 0} → Row E → Pivot E
pivot_in r = record { number = r.number; element = r.element; marked = r.marked }

-- the rows of a leaf's samples
abbrev pub held : LeafRecord → List ℕ
held l = take l.count l.rows

-- low and high side by side, of the first n pivots
abbrev pub ranges : ℕ → List ℕ → List ℕ → List Range
ranges zero lows highs = []
ranges (suc n) [] highs = []
ranges (suc n) (l ∷ lows) [] = []
ranges (suc n) (l ∷ lows) (h ∷ highs) = record { low = l; high = h } ∷ ranges n lows highs

-- down a table, the number at j of each row
abbrev pub down : List (List ℕ) → ℕ → List ℕ
down table j = map (λ row. slice_index row j) table

-- the ranges of every pivot to the child j
abbrev pub column : BranchRecord → ℕ → List Range
column b j = ranges b.count (down b.low j) (down b.high j)

module _ {E : Type 0} (rows : List (Row E)) where
  -- these rows hold these samples, in order
  abbrev pub HoldsSamples : List ℕ → List (Sample E) → Type 0
  HoldsSamples [] [] = Unit {0}
  HoldsSamples [] (x ∷ xs) = ⊥
  HoldsSamples (i ∷ is) [] = ⊥
  HoldsSamples (i ∷ is) (x ∷ xs) = (r : Row E) × (slice_get rows i ≡ Some r) × (sample_in r ≡ x) × HoldsSamples is xs

  -- The node shows the tree, which lies in the rows fs: those of a leaf in order, and of a branch each pivot's and then
  -- those below it.
  abbrev mutual
    pub Shows : Node → Tree E → List ℕ → Type 0
    Shows n (leaf xs) fs = (l : LeafRecord) × (n ≡ node.Leaf l) × (length l.rows ≡ 32) × (l.count ≤ 32) × (held l ≡ fs) × HoldsSamples fs xs
    Shows n (branch ps) fs = (b : BranchRecord) × (n ≡ node.Branch b) × (b.count ≡ length (pivots ps)) × (b.count ≤ 8) × ShowsParts b 0 ps fs

    -- the parts from the j-th on
    pub ShowsParts : BranchRecord → ℕ → Parts E → List ℕ → Type 0
    ShowsParts b j none fs = fs ≡ []
    ShowsParts b j (part p col t rest) fs =
        (r : Row E) × (below : List ℕ) × (others : List ℕ) × (slice_get rows (slice_index b.pivots j) ≡ Some r) × (pivot_in r ≡ p) × (column b j ≡ col)
        × Shows r.node t below × ShowsParts b (suc j) rest others × (fs ≡ slice_index b.pivots j ∷ (below ++ others))
