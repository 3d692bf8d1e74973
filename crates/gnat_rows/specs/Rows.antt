-- Reading and writing one row of a list.
use Rattle.std.specs.Prelude.{◌≡◌, ℕ, zero, suc, Bool, false, List, [], ◌∷◌, replicate, Some}
use Rattle.std.specs.List.{slice_get}
use Rattle.gnat_rows.specs.declared.Node.{Node}
use Rattle.gnat_rows.specs.declared.Node.TheVariants as node
use Rattle.gnat_rows.specs.declared.Row.{Row}

-- a leaf with no sample
abbrev pub empty : Node
empty = node.Leaf (record { count = 0; rows = replicate 32 0 })

abbrev pub vacant_row : {E : Type 0} → E → Row E
vacant_row e = record { element = e; number = 0; marked = false; place = 0; node = empty }

-- there is such a row, and this holds of it
abbrev pub HasRow : {E : Type 0} → List (Row E) → ℕ → (Row E → Type 0) → Type 0
HasRow {E} rows i P = (row : Row E) × (slice_get rows i ≡ Some row) × P row

-- the list with a function applied to the row at i
abbrev pub changed : {E : Type 0} → ℕ → (Row E → Row E) → List (Row E) → List (Row E)
changed i f [] = []
changed zero f (r ∷ rs) = f r ∷ rs
changed (suc i) f (r ∷ rs) = r ∷ changed i f rs

module _ {E : Type 0} where
  abbrev pub with_sample : ℕ → ℕ → E → List (Row E) → List (Row E)
  with_sample i number element = changed i (λ r. record { element = element; number = number; marked = false; place = r.place; node = r.node })

  abbrev pub with_marked : ℕ → Bool → List (Row E) → List (Row E)
  with_marked i marked = changed i (λ r. record { element = r.element; number = r.number; marked = marked; place = r.place; node = r.node })

  abbrev pub with_place : ℕ → ℕ → List (Row E) → List (Row E)
  with_place i place = changed i (λ r. record { element = r.element; number = r.number; marked = r.marked; place = place; node = r.node })

  abbrev pub with_node : ℕ → Node → List (Row E) → List (Row E)
  with_node i node = changed i (λ r. record { element = r.element; number = r.number; marked = r.marked; place = r.place; node = node })
