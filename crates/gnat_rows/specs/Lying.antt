-- Rows that are apart, and what a change leaves as it was.
use Rattle.std.specs.Prelude.{◌≡◌, ℕ, List, [], ◌∷◌, Some, ◌≢◌}
use Rattle.std.specs.List.{slice_get, AllByRecursion}
use Rattle.gnat_rows.specs.declared.Row.{Row}
use Rattle.gnat_rows.specs.Rows.{HasRow}
use Rattle.gnat_rows.specs.Shows.{sample_in}

-- i is none of these
abbrev pub Absent : ℕ → List ℕ → Type 0
Absent i fs = AllByRecursion (λ j. i ≢ j) fs

-- no two of these are one
abbrev pub Distinct : List ℕ → Type 0
Distinct [] = Unit {0}
Distinct (i ∷ fs) = Absent i fs × Distinct fs

-- every row keeps its sample and its place, and one that is none of fs keeps all
pub record OnlyIn {E : Type 0} (fs : List ℕ) (rows rows' : List (Row E)) : Type 0 where
  pub samples : (i : ℕ) (r : Row E) → slice_get rows i ≡ Some r → HasRow rows' i (λ r'. (sample_in r' ≡ sample_in r) × (r'.place ≡ r.place))
  pub others : (i : ℕ) → Absent i fs → slice_get rows' i ≡ slice_get rows i
