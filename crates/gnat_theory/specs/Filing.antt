-- Filing a sample: down to the nearest pivot at each branch, and into a leaf.
use Rattle.std.specs.Prelude.{ℕ, zero, suc, min, max, List, [], ◌∷◌, ◌++◌, nat_lt}
use Rattle.hits.specs.Samples.{Sample}
use Rattle.gnat_theory.specs.Tree.{Tree, Parts, Range, pivots}
use Rattle.gnat_theory.specs.Tree.Tree.{leaf, branch}
use Rattle.gnat_theory.specs.Tree.Parts.{none, part}
use Rattle.gnat_theory.specs.Choice.{first_place}

-- the place of the least distance, the earlier one if equal
abbrev pub nearest : List ℕ → ℕ
nearest ds = first_place nat_lt ds

-- each range widened to hold its pivot's distance
abbrev pub widened : List Range → List ℕ → List Range
widened [] ds = []
widened (r ∷ rs) [] = r ∷ rs
widened (r ∷ rs) (d ∷ ds) = record { low = min r.low d; high = max r.high d } ∷ widened rs ds

module _ {E : Type 0} (dist : E → E → ℕ) where
  -- the distance of each of these to a sample
  abbrev pub distances : List (Sample E) → Sample E → List ℕ
  distances [] s = []
  distances (p ∷ ps) s = dist p.element s.element ∷ distances ps s

  -- what a leaf with one more sample becomes is given by `became`
  module _ (became : List (Sample E) → Tree E) where
    abbrev mutual
      pub filed : Sample E → Tree E → Tree E
      filed s (leaf xs) = became (xs ++ (s ∷ []))
      filed s (branch ps) = branch (filed_under s (distances (pivots ps) s) (nearest (distances (pivots ps) s)) ps)

      -- under the pivot at this place; ds are the distances of the pivots to the sample
      pub filed_under : Sample E → List ℕ → ℕ → Parts E → Parts E
      filed_under s ds n none = none
      filed_under s ds zero (part p column t rest) = part p (widened column ds) (filed s t) rest
      filed_under s ds (suc n) (part p column t rest) = part p column t (filed_under s ds n rest)

    -- one by one
    abbrev pub filed_all : List (Sample E) → Tree E → Tree E
    filed_all [] t = t
    filed_all (s ∷ xs) t = filed_all xs (filed s t)
