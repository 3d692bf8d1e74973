-- The samples that rows hold.
use Rattle.std.specs.Prelude.{◌≡◌, ℕ, ◌<◌, List, map, length, Some, None, Option}
use Rattle.std.specs.List.{HoldsAt}
use Rattle.hits.specs.Samples.{Sample}
use Rattle.index.specs.Meaning.{element_at}
use Rattle.scan.specs.declared.rows.Row.{Row}

abbrev pub sample_of : {E : Type 0} → Row E → Sample E
sample_of row = record { number = row.number; element = row.element }

abbrev pub samples : {E : Type 0} → List (Row E) → List (Sample E)
samples rows = map sample_of rows

-- where the row with this number is: nowhere, if no sample stands under it
abbrev pub Found : {E : Type 0} → ℕ → List (Row E) → Option ℕ → Type 0
Found n rows None = element_at n (samples rows) ≡ None
Found n rows (Some i) = (i < length rows) × HoldsAt (λ row. row.number ≡ n) rows i
