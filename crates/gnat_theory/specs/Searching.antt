-- Searching the tree for the hits of a query.
use Rattle.std.specs.Prelude.{ℕ, zero, suc, ◌+◌, Bool, false, cond, ◌||◌, List, [], ◌∷◌, ◌++◌, take, Some, None, Option, nat_le, nat_lt}
use Rattle.hits.specs.declared.Hit.{Hit}
use Rattle.hits.specs.Order.{put}
use Rattle.hits.specs.Samples.{Sample, hit_of}
use Rattle.gnat_theory.specs.Tree.{Tree, Parts, Pivot, Range, sample_of}
use Rattle.gnat_theory.specs.Tree.Tree.{leaf, branch}
use Rattle.gnat_theory.specs.Tree.Parts.{none, part}

-- what is wanted: how a hit is kept among those so far, and how far off a sample could still count; none: at any distance
pub record Want : Type 0 where
  pub keep : Hit → List Hit → List Hit
  pub reach : List Hit → Option ℕ

-- the distance of the k-th hit, from 1, if there are as many
abbrev pub kth : ℕ → List Hit → Option ℕ
kth zero hs = None
kth (suc k) [] = None
kth (suc zero) (h ∷ hs) = Some h.distance
kth (suc (suc k)) (h ∷ hs) = kth (suc k) hs

-- the k nearest
abbrev pub nearest_hits : ℕ → Want
nearest_hits k = record { keep = λ h hs. take k (put h hs); reach = λ hs. kth k hs }

-- all whose distance is at most r
abbrev pub hits_within : ℕ → Want
hits_within r = record { keep = λ h hs. cond (nat_le h.distance r) (put h hs) hs; reach = λ hs. Some r }

-- the hits so far, and how many distances were measured
pub record State : Type 0 where
  pub kept : List Hit
  pub measured : ℕ

abbrev pub start : State
start = record { kept = []; measured = 0 }

-- of a pivot that was struck itself nothing is known; of one measured, its distance and how far off a sample could then still count
pub data Sight : Type 0 where
  passed : Sight
  seen : ℕ → Option ℕ → Sight

-- low > d + R, or high < d − R
unfoldable pub outside : ℕ → ℕ → Range → Bool
outside d R r = nat_lt (d + R) r.low || nat_lt (r.high + R) d

abbrev pub strikes : Sight → Range → Bool
strikes passed r = false
strikes (seen d None) r = false
strikes (seen d (Some R)) r = outside d R r

-- a child is struck if one of the pivots so far strikes it by its range to the child
abbrev pub struck : List Sight → List Range → Bool
struck [] rs = false
struck (s ∷ ss) [] = false
struck (s ∷ ss) (r ∷ rs) = strikes s r || struck ss rs

-- a hit counted in
abbrev pub counted_in : Want → Hit → State → State
counted_in w h st = record { kept = w.keep h st.kept; measured = suc st.measured }

module _ {E : Type 0} (dist : E → E → ℕ) (q : E) (w : Want) where
  abbrev pub measure : Sample E → State → State
  measure s st = counted_in w (hit_of dist q s) st

  -- in order
  abbrev pub measure_all : List (Sample E) → State → State
  measure_all [] st = st
  measure_all (s ∷ xs) st = measure_all xs (measure s st)

  -- a marked pivot is measured, but is no hit
  abbrev pub measure_pivot : Pivot E → State → State
  measure_pivot p st = cond p.marked (record { kept = st.kept; measured = suc st.measured }) (measure (sample_of p) st)

  abbrev pub sight_of : Pivot E → State → Sight
  sight_of p st = seen (dist q p.element) (w.reach st.kept)

  -- a pivot that is not struck is measured, and then strikes by the hits so far, itself counted in
  abbrev pub look : Pivot E → List Range → List Sight → State → Sight × State
  look p column ss st = cond (struck ss column) (passed, st) (sight_of p (measure_pivot p st), measure_pivot p st)

  -- a branch's pivots in order, after those of which ss tells
  abbrev pub survey : Parts E → List Sight → State → List Sight × State
  survey none ss st = (ss, st)
  survey (part p column t rest) ss st = let r : Sight × State = look p column ss st in survey rest (ss ++ (r.0 ∷ [])) r.1

  abbrev mutual
    pub searched : Tree E → State → State
    searched (leaf xs) st = measure_all xs st
    searched (branch ps) st = let r : List Sight × State = survey ps [] st in searched_open ps r.0 r.1

    -- the children not struck, the last first
    pub searched_open : Parts E → List Sight → State → State
    searched_open none ss st = st
    searched_open (part p column t rest) ss st = let after : State = searched_open rest ss st in cond (struck ss column) after (searched t after)
