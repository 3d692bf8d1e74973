-- How large a tree is, and what shape it has.
use Rattle.std.specs.Prelude.{◌≡◌, ℕ, suc, ◌+◌, ◌≤◌, List, [], ◌∷◌, length}
use Rattle.gnat_theory.specs.Tree.{Tree, Parts, pivots}
use Rattle.gnat_theory.specs.Tree.Tree.{leaf, branch}
use Rattle.gnat_theory.specs.Tree.Parts.{none, part}

module _ {E : Type 0} where
  -- every branch has this many pivots
  abbrev mutual
    pub Branching : ℕ → Tree E → Type 0
    Branching degree (leaf xs) = Unit {0}
    Branching degree (branch ps) = (length (pivots ps) ≡ degree) × BranchingParts degree ps

    pub BranchingParts : ℕ → Parts E → Type 0
    BranchingParts degree none = Unit {0}
    BranchingParts degree (part p column t rest) = Branching degree t × BranchingParts degree rest

  -- no leaf has more samples
  abbrev mutual
    pub Leaves : ℕ → Tree E → Type 0
    Leaves most (leaf xs) = length xs ≤ most
    Leaves most (branch ps) = LeavesParts most ps

    pub LeavesParts : ℕ → Parts E → Type 0
    LeavesParts most none = Unit {0}
    LeavesParts most (part p column t rest) = Leaves most t × LeavesParts most rest

  -- how many pivots there are in all
  abbrev mutual
    pub pivot_count : Tree E → ℕ
    pivot_count (leaf xs) = 0
    pivot_count (branch ps) = part_count ps

    pub part_count : Parts E → ℕ
    part_count none = 0
    part_count (part p column t rest) = suc (pivot_count t) + part_count rest

  -- trees that are pending, and the pivots below them
  abbrev pub weight : List (Tree E) → ℕ
  weight [] = 0
  weight (t ∷ ts) = suc (pivot_count t) + weight ts
