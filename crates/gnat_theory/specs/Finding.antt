-- What the search of a tree finds, and what it costs.
use Rattle.std.specs.Prelude.{◌≡◌, ℕ, suc, ◌<◌, ◌≤◌, true, List, [], ◌∷◌, ◌++◌, length, take, Some}
use Rattle.std.specs.List.{AllByRecursion}
use Rattle.hits.specs.Order.{inside}
use Rattle.hits.specs.Samples.{Sample, Among, hits}
use Rattle.gnat_theory.specs.Tree.{Tree, Parts, Range, sample_of, members}
use Rattle.gnat_theory.specs.Tree.Tree.{branch}
use Rattle.gnat_theory.specs.Tree.Parts.{none, part}
use Rattle.gnat_theory.specs.Searching.{Want, State, Sight, start, outside, struck, nearest_hits, hits_within, survey, searched}
use Rattle.gnat_theory.specs.Searching.Sight.{seen}
use Rattle.gnat_theory.specs.Pending.{turn, searched_all}
use Rattle.gnat_theory.specs.Ranges.{Holds, Ranged}
use Rattle.gnat_theory.specs.Shapes.{pivot_count, weight}
use Rattle.gnat_theory.specs.Keeping.{Files}

module _ {E : Type 0} (dist : E → E → ℕ) where
  -- a sample whose distance from a pivot lies in a range that is outside the reach R is farther than R
  abbrev pub OutsideIsBeyond : Type 0
  OutsideIsBeyond = (q : E) (p s : Sample E) (r : Range) (R : ℕ) → Holds dist p r s → outside (dist q p.element) R r ≡ true → R < dist q s.element

  -- the sample is farther than a reach that the search had at one of these pivots
  abbrev pub BeyondOneOf : E → List Sight → Sample E → Type 0
  BeyondOneOf q ss s = (d : ℕ) × (R : ℕ) × Among (seen d (Some R)) ss × (R < dist q s.element)

  -- of each part that is struck, the pivot and all that is below it
  abbrev pub StruckBeyond : E → List Sight → Parts E → Type 0
  StruckBeyond q ss none = Unit {0}
  StruckBeyond q ss (part p column t rest) = (struck ss column ≡ true → AllByRecursion (BeyondOneOf q ss) (sample_of p ∷ members t)) × StruckBeyond q ss rest

  -- a struck child holds no sample within the reach that the search had
  abbrev pub StruckOutOfReach : Type 0
  StruckOutOfReach = (q : E) (w : Want) (ps : Parts E) (st : State) → Ranged dist (branch ps) → StruckBeyond q (survey dist q w ps [] st).0 ps

  -- the search finds what a look at every standing sample finds, and measures no more than there are rows
  pub record Finds (xs : List (Sample E)) (t : Tree E) (q : E) : Type 0 where
    pub near : (k : ℕ) → (searched dist q (nearest_hits k) t start).kept ≡ take k (hits dist q xs)
    pub within : (r : ℕ) → (searched dist q (hits_within r) t start).kept ≡ inside r (hits dist q xs)
    pub work : (w : Want) → (searched dist q w t start).measured ≤ length (members t)

  abbrev pub SearchExact : Type 0
  SearchExact = (degree bucket : ℕ) (xs : List (Sample E)) (t : Tree E) (q : E) → Files dist degree bucket xs t → Finds xs t q

  -- The search by a list of pending trees is the search: the last is taken, and what it leaves goes in its place. Pending
  -- trees and pivots below them are at first one more than the pivots of the tree, and fewer with every turn.
  pub record PendingBounded (q : E) (w : Want) : Type 0 where
    pub at_first : (t : Tree E) (st : State) → searched_all dist q w (t ∷ []) st ≡ searched dist q w t st
    pub at_last : (st : State) → searched_all dist q w [] st ≡ st
    pub a_turn : (ts : List (Tree E)) (t : Tree E) (st : State) → searched_all dist q w (ts ++ (t ∷ [])) st ≡ searched_all dist q w (ts ++ (turn dist q w t st).0) (turn dist q w t st).1
    pub falls : (ts : List (Tree E)) (t : Tree E) (st : State) → weight (ts ++ (turn dist q w t st).0) < weight (ts ++ (t ∷ []))
    pub places : (ts : List (Tree E)) → length ts ≤ weight ts
    pub whole : (t : Tree E) → weight (t ∷ []) ≡ suc (pivot_count t)

  abbrev pub AlwaysBounded : Type 0
  AlwaysBounded = (q : E) (w : Want) → PendingBounded q w
