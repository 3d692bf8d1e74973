-- The tree: leaves of samples, and branches of pivots with their children.
use Rattle.std.specs.Prelude.{ℕ, Bool, false, cond, List, [], ◌∷◌, ◌++◌}
use Rattle.hits.specs.Samples.{Sample}

-- a sample that divides a branch; dropped, it is marked: it still divides, but no longer stands
pub record Pivot (E : Type 0) : Type 0 where
  pub number : ℕ
  pub element : E
  pub marked : Bool

-- a low and a high that distances lie between
pub record Range : Type 0 where
  pub low : ℕ
  pub high : ℕ

-- A leaf lists its samples in the order filed. A part of a branch is a pivot, the ranges of every pivot of the branch
-- to this pivot's child, by pivot, and the child.
mutual
  pub data Tree (E : Type 0) : Type 0 where
    leaf : List (Sample E) → Tree E
    branch : Parts E → Tree E

  pub data Parts (E : Type 0) : Type 0 where
    none : Parts E
    part : Pivot E → List Range → Tree E → Parts E → Parts E

module _ {E : Type 0} where
  abbrev pub sample_of : Pivot E → Sample E
  sample_of p = record { number = p.number; element = p.element }

  -- a sample made a pivot
  abbrev pub fresh_pivot : Sample E → Pivot E
  fresh_pivot s = record { number = s.number; element = s.element; marked = false }

  -- a branch's pivots, marked or not
  abbrev pub pivots : Parts E → List (Sample E)
  pivots none = []
  pivots (part p column t rest) = sample_of p ∷ pivots rest

  -- the samples of a tree, where `of_pivot` says what a pivot counts for
  abbrev mutual
    pub gathered : (Pivot E → List (Sample E)) → Tree E → List (Sample E)
    gathered of_pivot (leaf xs) = xs
    gathered of_pivot (branch ps) = gathered_parts of_pivot ps

    pub gathered_parts : (Pivot E → List (Sample E)) → Parts E → List (Sample E)
    gathered_parts of_pivot none = []
    gathered_parts of_pivot (part p column t rest) = of_pivot p ++ (gathered of_pivot t ++ gathered_parts of_pivot rest)

  -- a pivot stands unless it is marked
  abbrev pub if_standing : Pivot E → List (Sample E)
  if_standing p = cond p.marked [] (sample_of p ∷ [])

  abbrev pub always : Pivot E → List (Sample E)
  always p = sample_of p ∷ []

  -- the samples that stand
  abbrev pub standing : Tree E → List (Sample E)
  standing t = gathered if_standing t

  -- the samples that stand and the marked pivots: each has its row
  abbrev pub members : Tree E → List (Sample E)
  members t = gathered always t

  -- the samples in leaves
  abbrev pub in_leaves : Tree E → List (Sample E)
  in_leaves t = gathered (λ p. []) t
