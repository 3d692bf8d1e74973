-- The tree of an index, and what keeps it so.
use Rattle.std.specs.Prelude.{◌≡◌, ℕ, ◌+◌, ◌<◌, ◌≤◌, List, [], ◌∷◌, ◌++◌, length}
use Rattle.hits.specs.Samples.{Sample}
use Rattle.index.specs.Meaning.{without}
use Rattle.gnat_theory.specs.Tree.{Tree, standing, members, in_leaves}
use Rattle.gnat_theory.specs.Tree.Tree.{leaf}
use Rattle.gnat_theory.specs.Splitting.{grown}
use Rattle.gnat_theory.specs.Rebuilding.{rebuilt, extended}
use Rattle.gnat_theory.specs.Dropping.{shrunk, pruned}
use Rattle.gnat_theory.specs.Ranges.{Ranged, Narrow, Placed}
use Rattle.gnat_theory.specs.Shapes.{Branching, Leaves, pivot_count}
use Rattle.gnat_theory.specs.Shuffles.{Shuffle, Apart}
use Rattle.hits.specs.Samples.{Among}

module _ {E : Type 0} (dist : E → E → ℕ) where
  -- The tree of an index whose standing samples are xs: just these stand in it, each once; every branch has `degree`
  -- pivots and no leaf more than `bucket` samples; every range holds the distances that it speaks of; every sample is
  -- under its nearest pivot.
  pub record Files (degree bucket : ℕ) (xs : List (Sample E)) (t : Tree E) : Type 0 where
    pub stands : Shuffle (Sample E) (standing t) xs
    pub branching : Branching degree t
    pub leaves : Leaves bucket t
    pub ranged : Ranged dist t
    pub placed : Placed dist t

  module _ (degree bucket : ℕ) where
    -- filing: one more sample stands, and one more row is in use
    pub record Grows (xs : List (Sample E)) (s : Sample E) (t : Tree E) : Type 0 where
      pub files : Files degree bucket (xs ++ (s ∷ [])) (grown dist degree bucket s t)
      pub rows : Shuffle (Sample E) (members (grown dist degree bucket s t)) (s ∷ members t)

    -- dropping: the sample stands no more, and a row becomes free if it was in a leaf
    pub record Shrinks (xs : List (Sample E)) (n : ℕ) (t : Tree E) : Type 0 where
      pub files : Files degree bucket (without n xs) (shrunk n t)
      pub pivots_stay : pivot_count (shrunk n t) ≡ pivot_count t
      pub leaves_lose : in_leaves (shrunk n t) ≡ without n (in_leaves t)
      pub no_more_rows : length (members (shrunk n t)) ≤ length (members t)

    -- rebuilding: the same samples stand, rows are in use for these alone, and no range could be narrower
    pub record Rebuilds (xs : List (Sample E)) : Type 0 where
      pub files : Files degree bucket xs (rebuilt dist degree bucket xs)
      pub rows : Shuffle (Sample E) (members (rebuilt dist degree bucket xs)) xs
      pub narrow : Narrow dist (rebuilt dist degree bucket xs)

    -- adding where fewer stand than there are rows: the rows suffice
    pub record Extends (rows : ℕ) (xs : List (Sample E)) (s : Sample E) (t : Tree E) : Type 0 where
      pub files : Files degree bucket (xs ++ (s ∷ [])) (extended dist degree bucket rows xs s t)
      pub suffice : length (members (extended dist degree bucket rows xs s t)) ≤ rows

    -- the tree is kept from the empty leaf on
    pub record KeepsTree : Type 0 where
      pub at_first : Files degree bucket [] (leaf [])
      pub by_filing : (xs : List (Sample E)) (s : Sample E) (t : Tree E) → Files degree bucket xs t → Grows xs s t
      pub by_dropping : (xs : List (Sample E)) (n : ℕ) (t : Tree E) → Files degree bucket xs t → Shrinks xs n t
      pub by_rebuilding : (xs : List (Sample E)) → Rebuilds xs
      pub by_adding : (rows : ℕ) (xs : List (Sample E)) (s : Sample E) (t : Tree E) → Files degree bucket xs t → length (members t) ≤ rows → length xs < rows → Extends rows xs s t

  -- for every setting
  abbrev pub AlwaysKeepsTree : Type 0
  AlwaysKeepsTree = (degree bucket : ℕ) → 1 ≤ degree → degree ≤ bucket → KeepsTree degree bucket

  -- rows are pivots and samples in leaves
  abbrev pub RowsCounted : Type 0
  RowsCounted = (t : Tree E) → length (members t) ≡ pivot_count t + length (in_leaves t)

  -- a sample in a leaf is dropped on the way down to its nearest pivots
  abbrev pub PrunedIsShrunk : Type 0
  PrunedIsShrunk = (s : Sample E) (t : Tree E) → Placed dist t → Apart (standing t) → Among s (in_leaves t) → pruned dist s t ≡ shrunk s.number t
