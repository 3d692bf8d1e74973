-- What a search does at the nodes that it visits.
use Rattle.std.specs.Prelude.{◌≡◌, ℕ, zero, suc, ◌+◌, ◌-◌, ◌^◌, ◌<◌, ◌≤◌, min, Bool, false, cond, List, [], ◌∷◌, ◌++◌, length, slice_index, slice_index_or, Some}
use Rattle.std.specs.List.{slice_get}
use Rattle.hits.specs.declared.Hit.{Hit}
use Rattle.hits.specs.Samples.{Sample}
use Rattle.gnat_theory.specs.Tree.{Tree, Parts, pivots}
use Rattle.gnat_theory.specs.Searching.{State, Sight, start, struck, measure_all, survey, searched}
use Rattle.gnat_theory.specs.Pending.{turn}
use Rattle.gnat_theory.specs.Shapes.{pivot_count}
use Rattle.gnat_rows.specs.declared.Leaf.{Leaf as LeafRecord}
use Rattle.gnat_rows.specs.declared.Branch.{Branch as BranchRecord}
use Rattle.gnat_rows.specs.declared.Node.{Node}
use Rattle.gnat_rows.specs.declared.Row.{Row}
use Rattle.gnat_rows.specs.Shows.{HoldsSamples, Shows, ShowsParts, held, column}
use Rattle.gnat_search.specs.declared.Aim.{Aim}
use Rattle.gnat_search.specs.declared.striking.Band.{Band}
use Rattle.gnat_search.specs.declared.found.Found.{Found}
use Rattle.gnat_search.specs.Wants.{want, Kept, Steps}

-- the ends of the distances from a pivot at which a sample could count, within R of a query at the distance d; what is
-- beyond 32 bits is beyond all ranges
pub record IsAround (d R : ℕ) (band : Band) : Type 0 where
  pub from : band.from ≡ d - R
  pub to : band.to ≡ min (d + R) (2 ^ 32 - 1)

-- which children the pivots seen strike
abbrev pub Flags : BranchRecord → List Bool → List Sight → Type 0
Flags b flags ss = (j : ℕ) → j < b.count → slice_index_or flags j false ≡ struck ss (column b j)

-- after i pivots, one more strikes
abbrev pub StruckMore : BranchRecord → ℕ → Sight → List Bool → List Bool → Type 0
StruckMore b i s before after = (ss : List Sight) → length ss ≡ i → Flags b before ss → Flags b after (ss ++ (s ∷ []))

-- the rows of n children from the j-th on, without the struck ones
abbrev pub open_rows : List ℕ → List Bool → ℕ → ℕ → List ℕ
open_rows rows flags j zero = []
open_rows rows flags j (suc n) = cond (slice_index_or flags j false) (open_rows rows flags (suc j) n) (slice_index rows j ∷ open_rows rows flags (suc j) n)

module _ {E : Type 0} (rows : List (Row E)) where
  -- the leaf holds samples
  abbrev pub LeafShown : LeafRecord → Type 0
  LeafShown l = (xs : List (Sample E)) × (length l.rows ≡ 32) × (l.count ≤ 32) × HoldsSamples rows (held l) xs

  -- the branch has parts
  abbrev pub BranchShown : BranchRecord → Type 0
  BranchShown b = (ps : Parts E) × (fs : List ℕ) × (b.count ≡ length (pivots ps)) × (b.count ≤ 8) × ShowsParts rows b 0 ps fs

  -- the nodes in these rows show these trees
  abbrev pub Waiting : List ℕ → List (Tree E) → Type 0
  Waiting [] [] = Unit {0}
  Waiting [] (t ∷ ts) = ⊥
  Waiting (i ∷ is) [] = ⊥
  Waiting (i ∷ is) (t ∷ ts) = (r : Row E) × (fs : List ℕ) × (slice_get rows i ≡ Some r) × Shows rows r.node t fs × Waiting is ts

  -- the node shows a tree with at most so many pivots
  abbrev pub Searchable : ℕ → Node → Type 0
  Searchable most n = (t : Tree E) × (fs : List ℕ) × Shows rows n t fs × (pivot_count t ≤ most)

  -- in order, the distances from q to the leaf's samples
  abbrev pub LeafDistances : (E → E → ℕ) → E → LeafRecord → List ℕ → Type 0
  LeafDistances dist q l ds = (k : ℕ) → k < l.count → (r : Row E) → slice_get rows (slice_index l.rows k) ≡ Some r → slice_index ds k ≡ dist q r.element

  module _ (dist : E → E → ℕ) (q : E) (aim : Aim) where
    -- the samples that the leaf holds were measured
    abbrev pub LeafMeasured : LeafRecord → List Hit → List Hit → Found → Found → Type 0
    LeafMeasured l before after p r = (xs : List (Sample E)) → HoldsSamples rows (held l) xs → Steps (measure_all dist q (want aim (length before)) xs) before after p r

    -- the pivots of the branch were looked at, and its children struck
    abbrev pub BranchSurveyed : BranchRecord → List Hit → List Hit → Found → Found → List Bool → Type 0
    BranchSurveyed b before after p r flags =
        (ps : Parts E) (fs : List ℕ) → b.count ≡ length (pivots ps) → ShowsParts rows b 0 ps fs → (old : List Hit) (st : State) → Kept old before p st
        → Kept old after r (survey dist q (want aim (length before)) ps [] st).1 × Flags b flags (survey dist q (want aim (length before)) ps [] st).0

    -- One turn of the search was made with the tree shown: the rows of the trees that it puts on the list stand behind
    -- those that were pending.
    abbrev pub Visited : Node → List Hit → List Hit → Found → Found → List ℕ → List ℕ → Type 0
    Visited n before after p r is js =
        (t : Tree E) (fs : List ℕ) → Shows rows n t fs → (old : List Hit) (st : State) → Kept old before p st
        → Kept old after r (turn dist q (want aim (length before)) t st).1 × ((ks : List ℕ) × (js ≡ is ++ ks) × Waiting ks (turn dist q (want aim (length before)) t st).0)

    -- The list, `old` before, holds what the search of the tree shown keeps, as much of it as has a place there, and all
    -- is counted.
    abbrev pub Searched : Node → List Hit → List Hit → Found → Type 0
    Searched n old new r = (t : Tree E) (fs : List ℕ) → Shows rows n t fs → Kept old new r (searched dist q (want aim (length old)) t start)
