-- The tree that rows show, as a function of them.
use Rattle.std.specs.Prelude.{◌≡◌, ℕ, zero, suc, ◌<◌, ◌≤◌, max, List, [], ◌∷◌, ◌++◌, length, Some, None, Option, slice_index}
use Rattle.std.specs.List.{slice_get, AllByRecursion}
use Rattle.hits.specs.Samples.{Sample}
use Rattle.gnat_theory.specs.Tree.{Tree, Parts, Range}
use Rattle.gnat_theory.specs.Tree.Tree.{leaf, branch}
use Rattle.gnat_theory.specs.Tree.Parts.{none, part}
use Rattle.gnat_rows.specs.declared.Branch.{Branch as BranchRecord}
use Rattle.gnat_rows.specs.declared.Node.{Node}
use Rattle.gnat_rows.specs.declared.Node.TheVariants as node
use Rattle.gnat_rows.specs.declared.Row.{Row}
use Rattle.gnat_rows.specs.Shows.{sample_in, pivot_in, held, column}

module _ {E : Type 0} where
  abbrev pub sample_on : Option (Row E) → List (Sample E) → List (Sample E)
  sample_on None xs = xs
  sample_on (Some r) xs = sample_in r ∷ xs

  -- the samples in these rows
  abbrev pub samples_at : List (Row E) → List ℕ → List (Sample E)
  samples_at rows [] = []
  samples_at rows (i ∷ is) = sample_on (slice_get rows i) (samples_at rows is)

  -- the part of a branch whose pivot is in this row
  abbrev pub part_on : (Node → Tree E) → Option (Row E) → List Range → Parts E → Parts E
  part_on below None col rest = rest
  part_on below (Some r) col rest = part (pivot_in r) col (below r.node) rest

  -- n parts of a branch, from the j-th on
  abbrev pub parts_by : (Node → Tree E) → List (Row E) → BranchRecord → ℕ → ℕ → Parts E
  parts_by below rows b zero j = none
  parts_by below rows b (suc n) j = part_on below (slice_get rows (slice_index b.pivots j)) (column b j) (parts_by below rows b n (suc j))

  -- the tree from a node on, fewer than n branches deep
  abbrev pub tree_of : ℕ → List (Row E) → Node → Tree E
  tree_of zero rows x = leaf []
  tree_of (suc n) rows (node.Leaf l) = leaf (samples_at rows (held l))
  tree_of (suc n) rows (node.Branch b) = branch (parts_by (tree_of n rows) rows b b.count 0)

  -- a pivot's row and those below it, before the others
  abbrev pub rows_on : (Node → List ℕ) → ℕ → Option (Row E) → List ℕ → List ℕ
  rows_on below i None others = others
  rows_on below i (Some r) others = i ∷ (below r.node ++ others)

  -- the rows of n parts of a branch, from the j-th on
  abbrev pub rows_by : (Node → List ℕ) → List (Row E) → BranchRecord → ℕ → ℕ → List ℕ
  rows_by below rows b zero j = []
  rows_by below rows b (suc n) j = rows_on below (slice_index b.pivots j) (slice_get rows (slice_index b.pivots j)) (rows_by below rows b n (suc j))

  -- the rows in which that tree lies
  abbrev pub rows_of : ℕ → List (Row E) → Node → List ℕ
  rows_of zero rows x = []
  rows_of (suc n) rows (node.Leaf l) = held l
  rows_of (suc n) rows (node.Branch b) = rows_by (rows_of n rows) rows b b.count 0

  -- there is a pivot's row, and this holds of its node
  abbrev pub IsBelow : (Node → Type 0) → Option (Row E) → Type 0
  IsBelow P None = ⊥
  IsBelow P (Some r) = P r.node

  -- n parts of a branch, from the j-th on
  abbrev pub AreBelow : (Node → Type 0) → List (Row E) → BranchRecord → ℕ → ℕ → Type 0
  AreBelow P rows b zero j = Unit {0}
  AreBelow P rows b (suc n) j = IsBelow P (slice_get rows (slice_index b.pivots j)) × AreBelow P rows b n (suc j)

  -- from the node on, the rows show a tree fewer than n branches deep
  abbrev pub IsShown : ℕ → List (Row E) → Node → Type 0
  IsShown zero rows x = ⊥
  IsShown (suc n) rows (node.Leaf l) = (length l.rows ≡ 32) × (l.count ≤ 32) × AllByRecursion (λ i. i < length rows) (held l)
  IsShown (suc n) rows (node.Branch b) = (b.count ≤ 8) × AreBelow (IsShown n rows) rows b b.count 0

  -- how many branches deep a tree is
  abbrev mutual
    pub height : Tree E → ℕ
    height (leaf xs) = 0
    height (branch ps) = suc (height_parts ps)

    pub height_parts : Parts E → ℕ
    height_parts none = 0
    height_parts (part p col t rest) = max (height t) (height_parts rest)
