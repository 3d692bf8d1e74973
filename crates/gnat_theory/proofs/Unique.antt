-- Facts of trees and of lists that hold in one way only. Assumes nothing.
use Rattle.std.proofs.Common.{◌≡◌, ℕ, suc, ◌≤◌, List, [], ◌∷◌, length}
use Rattle.std.specs.Coded.{×_prop, Π_prop, Unit-prop}
use Rattle.std.specs.List.{AllByRecursion, AllByRecursion-prop}
use Rattle.std.proofs.Props.{props}
use Rattle.hits.specs.Samples.{Sample}
use Rattle.gnat_theory.specs.Tree.{Tree, Parts, Range, sample_of, pivots, members}
use Rattle.gnat_theory.specs.Tree.Tree.{leaf, branch}
use Rattle.gnat_theory.specs.Tree.Parts.{none, part}
use Rattle.gnat_theory.specs.Filing.{nearest, distances}
use Rattle.gnat_theory.specs.Ranges.{ChildFact, Throughout, ThroughoutParts, Holds, Fits, RangesFit, OwnNearest, Ranged, Placed}
use Rattle.gnat_theory.specs.Shapes.{Branching, BranchingParts, Leaves, LeavesParts}
use Rattle.gnat_theory.specs.Shuffles.{Apart, times, SameTimes}

pub same_times_once : (ms ns : List ℕ) → IsProp (SameTimes ms ns)
same_times_once ms ns = hlevel props

module _ {E : Type 0} where
  pub apart_once : (xs : List (Sample E)) → IsProp (Apart xs)
  apart_once [] = Unit-prop
  apart_once (x ∷ xs) = ×_prop (AllByRecursion-prop (λ y. x.number ≡ y.number → ⊥) (λ y. hlevel props) xs) (apart_once xs)

  mutual
    pub branching_once : (degree : ℕ) (t : Tree E) → IsProp (Branching degree t)
    branching_once degree (leaf xs) = Unit-prop
    branching_once degree (branch ps) = ×_prop (hlevel props) (branching_parts_once degree ps)

    branching_parts_once : (degree : ℕ) (ps : Parts E) → IsProp (BranchingParts degree ps)
    branching_parts_once degree none = Unit-prop
    branching_parts_once degree (part p column t rest) = ×_prop (branching_once degree t) (branching_parts_once degree rest)

  mutual
    pub leaves_once : (most : ℕ) (t : Tree E) → IsProp (Leaves most t)
    leaves_once most (leaf xs) = hlevel props
    leaves_once most (branch ps) = leaves_parts_once most ps

    leaves_parts_once : (most : ℕ) (ps : Parts E) → IsProp (LeavesParts most ps)
    leaves_parts_once most none = Unit-prop
    leaves_parts_once most (part p column t rest) = ×_prop (leaves_once most t) (leaves_parts_once most rest)

  module _ (F : ChildFact E) (each : (all : List (Sample E)) (j : ℕ) (column : List Range) (p : Sample E) (xs : List (Sample E)) → IsProp (F all j column p xs)) where
    mutual
      pub throughout_once : (t : Tree E) → IsProp (Throughout F t)
      throughout_once (leaf xs) = Unit-prop
      throughout_once (branch ps) = throughout_parts_once (pivots ps) 0 ps

      throughout_parts_once : (all : List (Sample E)) (j : ℕ) (ps : Parts E) → IsProp (ThroughoutParts F all j ps)
      throughout_parts_once all j none = Unit-prop
      throughout_parts_once all j (part p column t rest) =
          let own = each all j column (sample_of p) (members t) in
          let below = throughout_once t in
          let others = throughout_parts_once all (suc j) rest in
          λ x y i. (own x.0 y.0 i, below x.1 y.1 i, others x.2 y.2 i)

  module _ (dist : E → E → ℕ) where
    fits_once : (ps : List (Sample E)) (rs : List Range) (xs : List (Sample E)) → IsProp (Fits dist ps rs xs)
    fits_once [] [] xs = Unit-prop
    fits_once [] (r ∷ rs) xs = λ a b. absurd a
    fits_once (p ∷ ps) [] xs = λ a b. absurd a
    fits_once (p ∷ ps) (r ∷ rs) xs = ×_prop (AllByRecursion-prop (Holds dist p r) (λ s. hlevel props) xs) (fits_once ps rs xs)

    pub ranged_once : (t : Tree E) → IsProp (Ranged dist t)
    ranged_once t = throughout_once (RangesFit dist) (λ all j column p xs. fits_once all column (p ∷ xs)) t

    pub placed_once : (t : Tree E) → IsProp (Placed dist t)
    placed_once t = throughout_once (OwnNearest dist) (λ all j column p xs. AllByRecursion-prop (λ s. nearest (distances dist all s) ≡ j) (λ s. hlevel props) xs) t
