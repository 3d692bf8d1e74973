-- The list that the place fields of rows make, and what is found by it.
use Rattle.std.specs.Prelude.{◌≡◌, ℕ, zero, suc, ◌<◌, List, [], ◌∷◌, map, take, Some, None, Option, slice_index, slice_set}
use Rattle.std.specs.List.{AllByRecursion}
use Rattle.index.specs.Meaning.{element_at}
use Rattle.gnat_rows.specs.declared.Row.{Row}
use Rattle.gnat_rows.specs.Rows.{HasRow}
use Rattle.gnat_rows.specs.Trees.{samples_at}

-- all are below n
abbrev pub Within : List ℕ → ℕ → Type 0
Within is n = AllByRecursion (λ i. i < n) is

-- 0, 1, 2 and so on, n of them, over what a list held
abbrev pub counted_from : ℕ → ℕ → List ℕ → List ℕ
counted_from i zero ps = ps
counted_from i (suc n) [] = []
counted_from i (suc n) (p ∷ ps) = i ∷ counted_from (suc i) n ps

abbrev pub counted : ℕ → List ℕ → List ℕ
counted n ps = counted_from 0 n ps

abbrev pub swapped : ℕ → ℕ → List ℕ → List ℕ
swapped i j ps = slice_set (slice_set ps i (slice_index ps j)) j (slice_index ps i)

module _ {E : Type 0} where
  abbrev pub places : List (Row E) → List ℕ
  places rows = map (λ r. r.place) rows

  abbrev pub at_place : ℕ → Row E → Row E
  at_place p r = record { element = r.element; number = r.number; marked = r.marked; place = p; node = r.node }

  -- the rows with these places
  abbrev pub placed : List ℕ → List (Row E) → List (Row E)
  placed [] rows = rows
  placed (p ∷ ps) [] = []
  placed (p ∷ ps) (r ∷ rows) = at_place p r ∷ placed ps rows

  -- where a number is listed: nowhere, if no sample stands under it
  abbrev pub Listed : List (Row E) → ℕ → ℕ → Option ℕ → Type 0
  Listed rows standing n None = element_at n (samples_at rows (take standing (places rows))) ≡ None
  Listed rows standing n (Some i) = (i < standing) × HasRow rows (slice_index (places rows) i) (λ r. r.number ≡ n)
