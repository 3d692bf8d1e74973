-- Dropping a sample: out of its leaf, or marked where it is a pivot.
use Rattle.std.specs.Prelude.{ℕ, zero, suc, true, cond, ◌==◌}
use Rattle.hits.specs.Samples.{Sample}
use Rattle.index.specs.Meaning.{without}
use Rattle.gnat_theory.specs.Tree.{Tree, Parts, Pivot, pivots}
use Rattle.gnat_theory.specs.Tree.Tree.{leaf, branch}
use Rattle.gnat_theory.specs.Tree.Parts.{none, part}
use Rattle.gnat_theory.specs.Filing.{nearest, distances}

module _ {E : Type 0} where
  abbrev pub marked_at : ℕ → Pivot E → Pivot E
  marked_at n p = cond (p.number == n) (record { number = p.number; element = p.element; marked = true }) p

  abbrev mutual
    pub shrunk : ℕ → Tree E → Tree E
    shrunk n (leaf xs) = leaf (without n xs)
    shrunk n (branch ps) = branch (shrunk_parts n ps)

    pub shrunk_parts : ℕ → Parts E → Parts E
    shrunk_parts n none = none
    shrunk_parts n (part p column t rest) = part (marked_at n p) column (shrunk n t) (shrunk_parts n rest)

-- the same of a sample in a leaf, down to its nearest pivot at each branch as in filing
module _ {E : Type 0} (dist : E → E → ℕ) where
  abbrev mutual
    pub pruned : Sample E → Tree E → Tree E
    pruned s (leaf xs) = leaf (without s.number xs)
    pruned s (branch ps) = branch (pruned_under s (nearest (distances dist (pivots ps) s)) ps)

    pub pruned_under : Sample E → ℕ → Parts E → Parts E
    pruned_under s n none = none
    pruned_under s zero (part p column t rest) = part p column (pruned s t) rest
    pruned_under s (suc n) (part p column t rest) = part p column t (pruned_under s n rest)
