-- Splitting a leaf that has become too large, and filing with it.
use Rattle.std.specs.Prelude.{ℕ, zero, suc, min, Bool, cond, ◌&&◌, ◌||◌, List, [], ◌∷◌, ◌++◌, length, ◌==◌, nat_le, nat_lt, slice_index_or}
use Rattle.hits.specs.Samples.{Sample}
use Rattle.gnat_theory.specs.Tree.{Tree, Parts, Range, fresh_pivot}
use Rattle.gnat_theory.specs.Tree.Tree.{leaf, branch}
use Rattle.gnat_theory.specs.Tree.Parts.{none, part}
use Rattle.gnat_theory.specs.Choice.{first_place, removed}
use Rattle.gnat_theory.specs.Filing.{distances, filed, filed_all}

abbrev pub least : ℕ → List ℕ → ℕ
least d [] = d
least d (x ∷ xs) = least (min d x) xs

-- the least of these, and 0 of none
abbrev pub least_of : List ℕ → ℕ
least_of [] = 0
least_of (d ∷ ds) = least d ds

-- the range of one distance
abbrev pub point : ℕ → Range
point d = record { low = d; high = d }

module _ {E : Type 0} (dist : E → E → ℕ) where
  -- the distance to the nearest of these pivots
  abbrev pub gap : List (Sample E) → Sample E → ℕ
  gap ps s = least_of (distances dist ps s)

  -- Of two samples, the next pivot is the one farther from its nearest pivot so far, the smaller number if equal. With no
  -- pivot so far all are equal, and the smallest number is the first.
  unfoldable pub farther : List (Sample E) → Sample E → Sample E → Bool
  farther ps x y = nat_lt (gap ps y) (gap ps x) || (gap ps y == gap ps x && nat_lt x.number y.number)

  -- n more pivots after these, and the samples that are left, in their order
  abbrev pub chosen : ℕ → List (Sample E) → List (Sample E) → List (Sample E) × List (Sample E)
  chosen zero ps xs = (ps, xs)
  chosen (suc n) ps [] = (ps, [])
  chosen (suc n) ps (x ∷ xs) =
      let j : ℕ = first_place (farther ps) (x ∷ xs) in chosen n (ps ++ (slice_index_or (x ∷ xs) j x ∷ [])) (removed j (x ∷ xs))

  -- the ranges of pivots to a child that has its own pivot alone
  abbrev pub points : List (Sample E) → Sample E → List Range
  points [] s = []
  points (p ∷ ps) s = point (dist p.element s.element) ∷ points ps s

  -- a branch of these pivots over empty leaves; ps are all its pivots
  abbrev pub bare : List (Sample E) → List (Sample E) → Parts E
  bare ps [] = none
  bare ps (s ∷ rest) = part (fresh_pivot s) (points ps s) (leaf []) (bare ps rest)

  -- the pivots are chosen, and the others filed below them
  abbrev pub split : ℕ → List (Sample E) → Tree E
  split degree xs = let c : List (Sample E) × List (Sample E) = chosen degree [] xs in filed_all dist leaf c.1 (branch (bare c.0 c.0))

  module _ (degree bucket : ℕ) where
    -- a leaf of more than `bucket` samples is split
    abbrev pub kept_or_split : List (Sample E) → Tree E
    kept_or_split xs = cond (nat_le (length xs) bucket) (leaf xs) (split degree xs)

    -- the tree with one more sample
    abbrev pub grown : Sample E → Tree E → Tree E
    grown s t = filed dist kept_or_split s t
