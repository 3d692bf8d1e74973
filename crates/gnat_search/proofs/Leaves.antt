-- The samples of a leaf, one by one. Assumes nothing.
use Rattle.std.proofs.Common.{◌≡◌, ℕ, zero, suc, ◌+◌, ◌<◌, ◌≤◌, List, [], ◌∷◌, ◌++◌, length, get_or, take, Some, sym, ap, ◌∙◌, arith}
use Rattle.std.specs.List.{slice_get}
use Rattle.std.proofs.lemmas.List.{take_more, take_all}
use Rattle.hits.specs.Samples.{Sample}
use Rattle.gnat_theory.specs.Searching.{Want, State, measure, measure_all}
use Rattle.gnat_theory.proofs.Steps.{measure_push}
use Rattle.gnat_rows.specs.declared.Leaf.{Leaf}
use Rattle.gnat_rows.specs.declared.Row.{Row}
use Rattle.gnat_rows.specs.Shows.{HoldsSamples, sample_in, held}
use Rattle.gnat_search.specs.Nodes.{LeafShown}
use Rattle.std.proofs.lemmas.Option.{slice_get_within}
use Rattle.gnat_rows.proofs.Changes.{same_row}
use Rattle.gnat_rows.proofs.Showing.{holds_length}

module _ {E : Type 0} (rows : List (Row E)) where
  -- the row at the place i, and its sample
  pub holds_at : (is : List ℕ) (xs : List (Sample E)) (i : ℕ) → HoldsSamples rows is xs → i < length is
      → (r : Row E) × (slice_get rows (get_or is i 0) ≡ Some r) × (get_or xs i (sample_in r) ≡ sample_in r)
  holds_at [] xs i h l = absurd (omega arith)
  holds_at (j ∷ is) [] i h l = absurd h
  holds_at (j ∷ is) (x ∷ xs) zero h l = (h.0, h.1, sym h.2)
  holds_at (j ∷ is) (x ∷ xs) (suc i) h l = holds_at is xs i h.3 (omega arith)

  module _ (dist : E → E → ℕ) (q : E) (w : Want) (is : List ℕ) (xs : List (Sample E)) (h : HoldsSamples rows is xs) where
    -- one sample more
    pub one_more : (i : ℕ) (row : Row E) (st : State) → i < length is → slice_get rows (get_or is i 0) ≡ Some row
        → measure_all dist q w (take (i + 1) xs) st ≡ measure dist q w (sample_in row) (measure_all dist q w (take i xs) st)
    one_more i row st k n =
        let at = holds_at is xs i h k in
        let same : at.0 ≡ row = same_row rows (get_or is i 0) at.0 row at.1 n in
        let one : get_or xs i (sample_in at.0) ≡ sample_in row = at.2 ∙ ap sample_in same in
        ap (λ z. measure_all dist q w z st) (take_more xs i (sample_in at.0) (omega (arith, holds_length rows is xs h)) ∙ ap (λ z. take i xs ++ (z ∷ [])) one)
        ∙ measure_push dist q w (take i xs) (sample_in row) st

    pub all_of : (i : ℕ) → length is ≤ i → take i xs ≡ xs
    all_of i k = take_all i xs (omega (arith, holds_length rows is xs h))

-- the row of the leaf's sample i is there
pub held_there : {E : Type 0} (rows : List (Row E)) (l : Leaf) (i : ℕ) → LeafShown rows l → i < length (held l) → get_or (held l) i 0 < length rows
held_there rows l i shown k = let at = holds_at rows (held l) shown.0 i shown.3 k in slice_get_within rows (get_or (held l) i 0) at.0 at.1
