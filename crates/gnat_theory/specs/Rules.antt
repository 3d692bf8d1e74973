-- The rules by which filing and splitting choose, as relations.
use Rattle.std.specs.Prelude.{◌≡◌, ℕ, suc, ◌+◌, ◌*◌, ◌<◌, ◌≤◌, ◌⊎◌, List, [], ◌∷◌, ◌++◌, length, filter, nat_eq, slice_index}
use Rattle.std.specs.List.{AllByRecursion}
use Rattle.hits.specs.Samples.{Sample}
use Rattle.gnat_theory.specs.Tree.{Tree, Parts, pivots, in_leaves}
use Rattle.gnat_theory.specs.Tree.Tree.{leaf, branch}
use Rattle.gnat_theory.specs.Tree.Parts.{none, part}
use Rattle.gnat_theory.specs.Filing.{nearest, distances}
use Rattle.gnat_theory.specs.Splitting.{gap, split}
use Rattle.gnat_theory.specs.Ranges.{Ranged, Narrow}
use Rattle.gnat_theory.specs.Shapes.{Leaves}

-- n is the place of the least of these, the first where several are equal
pub record FirstLeast (ds : List ℕ) (n : ℕ) : Type 0 where
  pub there : n < length ds
  pub least : (k : ℕ) → k < length ds → slice_index ds n ≤ slice_index ds k
  pub first : (k : ℕ) → k < n → slice_index ds n < slice_index ds k

-- x taken out of a list leaves the rest, in its order
abbrev pub TakenOut : {X : Type 0} → X → List X → List X → Type 0
TakenOut {X} x xs rest = (front : List X) × (back : List X) × (xs ≡ front ++ (x ∷ back)) × (rest ≡ front ++ back)

module _ {E : Type 0} (dist : E → E → ℕ) where
  -- after the pivots ps, s is no better a pivot than p: nearer to its nearest pivot, or as near and of no smaller number
  abbrev pub NoBetter : List (Sample E) → Sample E → Sample E → Type 0
  NoBetter ps p s = (gap dist ps s < gap dist ps p) ⊎ ((gap dist ps s ≡ gap dist ps p) × (p.number ≤ s.number))

  -- the samples whose nearest of these pivots is the one at place j, the earlier one if equal, in their order
  abbrev pub nearest_to : List (Sample E) → ℕ → List (Sample E) → List (Sample E)
  nearest_to all j xs = filter (λ s. nat_eq (nearest (distances dist all s)) j) xs

  -- the child at each place, from j on, is a leaf that lists those nearest to its pivot
  abbrev pub Lists : List (Sample E) → ℕ → Parts E → List (Sample E) → Type 0
  Lists all j none xs = Unit {0}
  Lists all j (part p column t rest) xs = (t ≡ leaf (nearest_to all j xs)) × Lists all (suc j) rest xs

  -- After the pivots ps, `more` are taken out of xs one after the other, none of those left ever better, and the others stay.
  abbrev pub Chooses : List (Sample E) → List (Sample E) → List (Sample E) → List (Sample E) → Type 0
  Chooses ps [] xs others = xs ≡ others
  Chooses ps (p ∷ more) xs others = (rest : List (Sample E)) × TakenOut p xs rest × AllByRecursion (NoBetter ps p) rest × Chooses (ps ++ (p ∷ [])) more rest others

  -- What a split leaves: `degree` pivots chosen by the rule, the others in leaves under their nearest pivot, in their
  -- order, and ranges that hold all distances and could not be narrower.
  pub record SplitByRule (degree : ℕ) (xs : List (Sample E)) (t : Tree E) : Type 0 where
    pub parts : Parts E
    pub others : List (Sample E)
    pub is : t ≡ branch parts
    pub count : length (pivots parts) ≡ degree
    pub chosen : Chooses [] (pivots parts) xs others
    pub lists : Lists (pivots parts) 0 parts others
    pub ranged : Ranged dist (branch parts)
    pub narrow : Narrow dist (branch parts)
    -- so many are left for the leaves, and no leaf has more
    pub small : Leaves (length others) (branch parts)
    pub left : degree + length others ≡ length xs

  -- a leaf with samples enough splits by the rule
  abbrev pub Splits : Type 0
  Splits = (degree : ℕ) (xs : List (Sample E)) → 1 ≤ degree → degree ≤ length xs → SplitByRule degree xs (split dist degree xs)

  -- where the bucket is at least twice the degree, a split leaves more samples in leaves than it takes as pivots
  abbrev pub SplitsRoomily : Type 0
  SplitsRoomily = (degree bucket : ℕ) (xs : List (Sample E)) → 1 ≤ degree → 2 * degree ≤ bucket → length xs ≡ suc bucket → degree < length (in_leaves (split dist degree xs))

-- of some distances the nearest is the first of the least
abbrev pub NearestFirst : Type 0
NearestFirst = (ds : List ℕ) → 0 < length ds → FirstLeast ds (nearest ds)
