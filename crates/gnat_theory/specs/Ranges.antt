-- What holds of a tree's ranges, and where its samples lie.
use Rattle.std.specs.Prelude.{◌≡◌, ℕ, suc, ◌≤◌, List, [], ◌∷◌}
use Rattle.std.specs.List.{AllByRecursion}
use Rattle.hits.specs.Samples.{Sample, Among}
use Rattle.gnat_theory.specs.Tree.{Tree, Parts, Range, sample_of, pivots, members}
use Rattle.gnat_theory.specs.Tree.Tree.{leaf, branch}
use Rattle.gnat_theory.specs.Tree.Parts.{none, part}
use Rattle.gnat_theory.specs.Filing.{nearest, distances}

-- a fact about a child of a branch: of all pivots of the branch, the child's place, the ranges of all pivots to it, its
-- own pivot, and every sample and pivot below it
abbrev pub ChildFact : Type 0 → Type 1
ChildFact E = List (Sample E) → ℕ → List Range → Sample E → List (Sample E) → Type 0

-- the fact holds of every child of every branch
module _ {E : Type 0} (F : ChildFact E) where
  abbrev mutual
    pub Throughout : Tree E → Type 0
    Throughout (leaf xs) = Unit {0}
    Throughout (branch ps) = ThroughoutParts (pivots ps) 0 ps

    pub ThroughoutParts : List (Sample E) → ℕ → Parts E → Type 0
    ThroughoutParts all j none = Unit {0}
    ThroughoutParts all j (part p column t rest) = F all j column (sample_of p) (members t) × Throughout t × ThroughoutParts all (suc j) rest

module _ {E : Type 0} (dist : E → E → ℕ) where
  -- the distance of the pivot p to the sample s lies in the range
  abbrev pub Holds : Sample E → Range → Sample E → Type 0
  Holds p r s = (r.low ≤ dist p.element s.element) × (dist p.element s.element ≤ r.high)

  -- each pivot's range holds its distances to all these samples
  abbrev pub Fits : List (Sample E) → List Range → List (Sample E) → Type 0
  Fits [] [] xs = Unit {0}
  Fits [] (r ∷ rs) xs = ⊥
  Fits (p ∷ ps) [] xs = ⊥
  Fits (p ∷ ps) (r ∷ rs) xs = AllByRecursion (Holds p r) xs × Fits ps rs xs

  -- one of these samples is at this distance from the pivot p
  abbrev pub Attained : Sample E → ℕ → List (Sample E) → Type 0
  Attained p d xs = (s : Sample E) × Among s xs × (dist p.element s.element ≡ d)

  -- each pivot's range has a low and a high that are distances to some of these samples
  abbrev pub Tight : List (Sample E) → List Range → List (Sample E) → Type 0
  Tight [] [] xs = Unit {0}
  Tight [] (r ∷ rs) xs = ⊥
  Tight (p ∷ ps) [] xs = ⊥
  Tight (p ∷ ps) (r ∷ rs) xs = (Attained p r.low xs × Attained p r.high xs) × Tight ps rs xs

  abbrev pub RangesFit : ChildFact E
  RangesFit all j column p xs = Fits all column (p ∷ xs)

  abbrev pub RangesTight : ChildFact E
  RangesTight all j column p xs = Tight all column (p ∷ xs)

  -- the child's own pivot is the nearest to all below it, the earlier one if equal
  abbrev pub OwnNearest : ChildFact E
  OwnNearest all j column p xs = AllByRecursion (λ s. nearest (distances dist all s) ≡ j) xs

  -- every range holds the distances that it speaks of
  abbrev pub Ranged : Tree E → Type 0
  Ranged t = Throughout RangesFit t

  -- no range could be narrower
  abbrev pub Narrow : Tree E → Type 0
  Narrow t = Throughout RangesTight t

  -- every sample is under its nearest pivot
  abbrev pub Placed : Tree E → Type 0
  Placed t = Throughout OwnNearest t
