-- A row that is changed, and the others. Assumes nothing.
use Rattle.std.proofs.Common.{◌≡◌, ℕ, zero, suc, ◌<◌, List, [], ◌∷◌, length, get_or, set, Some, refl, ap, arith}
use Rattle.std.specs.List.{slice_get}
use Rattle.gnat_rows.specs.declared.Row.{Row}
use Rattle.gnat_rows.specs.Rows.{changed}

module _ {E : Type 0} where
  pub changed_is_set : (rows : List (Row E)) (i : ℕ) (d : Row E) (f : Row E → Row E) → i < length rows → set rows i (f (get_or rows i d)) ≡ changed i f rows
  changed_is_set [] i d f l = absurd (omega arith)
  changed_is_set (r ∷ rs) zero d f l = refl
  changed_is_set (r ∷ rs) (suc i) d f l = ap (λ z. r ∷ z) (changed_is_set rs i d f (omega arith))

  pub length_changed : (rows : List (Row E)) (i : ℕ) (f : Row E → Row E) → length (changed i f rows) ≡ length rows
  length_changed [] i f = refl
  length_changed (r ∷ rs) zero f = refl
  length_changed (r ∷ rs) (suc i) f = ap suc (length_changed rs i f)

  -- the row that is changed
  pub nth_changed : (rows : List (Row E)) (i : ℕ) (f : Row E → Row E) (r : Row E) → slice_get rows i ≡ Some r → slice_get (changed i f rows) i ≡ Some (f r)
  nth_changed [] i f r e = let z : ◌≡◌ {A = ℕ} 0 1 = cc in absurd (omega arith)
  nth_changed (x ∷ xs) zero f r e = let s : x ≡ r = cc in ap (λ z. Some (f z)) s
  nth_changed (x ∷ xs) (suc i) f r e = nth_changed xs i f r e

  -- the others stay
  pub nth_unchanged : (rows : List (Row E)) (i j : ℕ) (f : Row E → Row E) → (j ≡ i → ⊥) → slice_get (changed i f rows) j ≡ slice_get rows j
  nth_unchanged [] i j f n = refl
  nth_unchanged (x ∷ xs) zero zero f n = absurd (n refl)
  nth_unchanged (x ∷ xs) zero (suc j) f n = refl
  nth_unchanged (x ∷ xs) (suc i) zero f n = refl
  nth_unchanged (x ∷ xs) (suc i) (suc j) f n = nth_unchanged xs i j f (λ e. n (ap suc e))

  -- a row that is within the list is there
  pub nth_there : (rows : List (Row E)) (i : ℕ) → i < length rows → (r : Row E) × (slice_get rows i ≡ Some r)
  nth_there [] i l = absurd (omega arith)
  nth_there (x ∷ xs) zero l = (x, refl)
  nth_there (x ∷ xs) (suc i) l = nth_there xs i (omega arith)

  -- two readings of one row
  pub same_row : (rows : List (Row E)) (i : ℕ) (r r' : Row E) → slice_get rows i ≡ Some r → slice_get rows i ≡ Some r' → r ≡ r'
  same_row rows i r r' p q = cc
