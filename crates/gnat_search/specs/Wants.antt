-- What is wanted of a search, and how the caller's list and the counts stand for its state.
use Rattle.std.specs.Prelude.{◌≡◌, ℕ, ◌+◌, ◌^◌, ◌<◌, ◌≤◌, min, List, length, take}
use Rattle.hits.specs.declared.Hit.{Hit}
use Rattle.hits.specs.Order.{Sorted}
use Rattle.hits.specs.Lists.{over}
use Rattle.hits.specs.Samples.{Sample}
use Rattle.gnat_theory.specs.Searching.{Want, State, nearest_hits, hits_within, measure, measure_pivot}
use Rattle.gnat_theory.specs.Tree.{Pivot}
use Rattle.gnat_search.specs.declared.Aim.{Aim}
use Rattle.gnat_search.specs.declared.Aim.TheVariants.{Nearest, Within}
use Rattle.gnat_search.specs.declared.found.Found.{Found}

-- with k places in the list
abbrev pub want : Aim → ℕ → Want
want Nearest k = nearest_hits k
want (Within r) k = hits_within r

-- Room and Counted are of the counts and of how many more a call may measure. That is no one value, so neither is a fact
-- of `Found`.
-- n more can be measured
abbrev pub Room : Found → ℕ → Type 0
Room p n = p.measured + n < 2 ^ 32

-- at most n more were measured
abbrev pub Counted : Found → Found → ℕ → Type 0
Counted p r n = r.measured ≤ p.measured + n

-- The list, which was `old` when the search began, and the counts stand for this state: as many of the hits kept as the
-- list has places stand in it, in order.
pub record Kept (old list : List Hit) (p : Found) (st : State) : Type 0 where
  pub finds : p.found ≡ length st.kept
  pub holds : p.held ≡ min (length old) (length st.kept)
  pub measures : p.measured ≡ st.measured
  pub writes : list ≡ over (take (length old) st.kept) old
  pub sorted : Sorted st.kept

-- whatever state list and counts stood for, they then stand for the next
abbrev pub Steps : (State → State) → List Hit → List Hit → Found → Found → Type 0
Steps next before after p r = (old : List Hit) (st : State) → Kept old before p st → Kept old after r (next st)

-- a sample at this distance from the query, measured
abbrev pub SampleCounted : {E : Type 0} → (E → E → ℕ) → ℕ → Sample E → Aim → List Hit → List Hit → Found → Found → Type 0
SampleCounted {E} dist distance sample aim before after p r = (q : E) → distance ≡ dist q sample.element → Steps (measure dist q (want aim (length before)) sample) before after p r

-- a pivot at this distance from the query, measured
abbrev pub PivotCounted : {E : Type 0} → (E → E → ℕ) → ℕ → Pivot E → Aim → List Hit → List Hit → Found → Found → Type 0
PivotCounted {E} dist distance pivot aim before after p r = (q : E) → distance ≡ dist q pivot.element → Steps (measure_pivot dist q (want aim (length before)) pivot) before after p r
