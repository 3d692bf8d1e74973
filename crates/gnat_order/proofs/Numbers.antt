-- The numbers of the samples that are listed. Assumes nothing.
use Rattle.std.proofs.Common.{◌≡◌, ℕ, zero, suc, ◌+◌, ◌<◌, ◌≤◌, cond, List, [], ◌∷◌, length, get_or, take, Some, None, sym, refl, ap, ◌∙◌, subst, ⊎_elim, arith, ne_eqb}
use Rattle.std.specs.List.{slice_get}
use Rattle.std.proofs.ByRecursion.{All-weaker}
use Rattle.std.proofs.lemmas.List.{length-map, length-take-le, get_or-take}
use Rattle.std.proofs.lemmas.Bool.{cases_lt}
use Rattle.hits.specs.Samples.{Sample, Rising, numbers_of}
use Rattle.index.specs.Meaning.{element_at}
use Rattle.gnat_rows.specs.declared.Row.{Row}
use Rattle.gnat_rows.specs.Rows.{HasRow}
use Rattle.gnat_rows.proofs.Changes.{nth_there}
use Rattle.gnat_order.specs.Order.{Within, places}
use Rattle.gnat_rows.specs.Trees.{sample_on, samples_at}

module _ {E : Type 0} where
  -- as many samples as rows that are listed
  pub length_samples_at : (rows : List (Row E)) (is : List ℕ) → Within is (length rows) → length (samples_at rows is) ≡ length is
  length_samples_at rows [] w = refl
  length_samples_at rows (i ∷ is) w =
      let r = nth_there rows i w.0 in
      ap (λ o. length (sample_on o (samples_at rows is))) r.1 ∙ ap suc (length_samples_at rows is w.1)

  -- the k-th number is that of the k-th row
  pub number_listed : (rows : List (Row E)) (is : List ℕ) → Within is (length rows) → (k : ℕ) → k < length is → (r : Row E) → slice_get rows (get_or is k 0) ≡ Some r → get_or (numbers_of (samples_at rows is)) k 0 ≡ r.number
  number_listed rows [] w k l r e = absurd (omega arith)
  number_listed rows (i ∷ is) w zero l r e = ap (λ o. get_or (numbers_of (sample_on o (samples_at rows is))) 0 0) e
  number_listed rows (i ∷ is) w (suc k) l r e =
      let x = nth_there rows i w.0 in
      ap (λ o. get_or (numbers_of (sample_on o (samples_at rows is))) (suc k) 0) x.1 ∙ number_listed rows is w.1 k (omega arith) r e

  above : (low high : ℕ) (xs : List (Sample E)) (i : ℕ) → Rising low high xs → i < length xs → low < get_or (numbers_of xs) i 0
  above low high [] i r l = absurd (omega arith)
  above low high (x ∷ xs) zero r l = r.0
  above low high (x ∷ xs) (suc i) r l = omega (arith, r.0, above x.number high xs i r.2 (omega arith))

  -- numbers rise from place to place
  pub rising_order : (low high : ℕ) (xs : List (Sample E)) (i j : ℕ) → Rising low high xs → i < j → j < length xs → get_or (numbers_of xs) i 0 < get_or (numbers_of xs) j 0
  rising_order low high [] i j r a b = absurd (omega arith)
  rising_order low high (x ∷ xs) i zero r a b = absurd (omega arith)
  rising_order low high (x ∷ xs) zero (suc j) r a b = above x.number high xs j r.2 (omega arith)
  rising_order low high (x ∷ xs) (suc i) (suc j) r a b = rising_order x.number high xs i j r.2 (omega arith) (omega arith)

  -- a number that no place has is no sample's
  pub number_nowhere : (n : ℕ) (xs : List (Sample E)) → ((k : ℕ) → k < length xs → get_or (numbers_of xs) k 0 ≡ n → ⊥) → element_at n xs ≡ None
  number_nowhere n [] f = refl
  number_nowhere n (x ∷ xs) f =
      ap (λ t. cond t (Some x.element) (element_at n xs)) (ne_eqb x.number n (λ e. f 0 (omega arith) e))
      ∙ number_nowhere n xs (λ k l e. f (suc k) (omega arith) e)

within_at : (is : List ℕ) (n k : ℕ) → Within is n → k < length is → get_or is k 0 < n
within_at [] n k w l = absurd (omega arith)
within_at (i ∷ is) n zero w l = w.0
within_at (i ∷ is) n (suc k) w l = within_at is n k w.1 (omega arith)

-- the search for a number among the first `standing` that are listed
module _ {E : Type 0} (rows : List (Row E)) (standing n : ℕ) (fits : standing ≤ length rows) (within : Within (take standing (places rows)) (length rows)) (rise : Rising 0 65535 (samples_at rows (take standing (places rows)))) where
  abbrev pub listed_numbers : List ℕ
  listed_numbers = numbers_of (samples_at rows (take standing (places rows)))

  taken : length (take standing (places rows)) ≡ standing
  taken = length-take-le standing (places rows) (omega (arith, length-map rows (λ (r : Row E). r.place)))

  long : length (samples_at rows (take standing (places rows))) ≡ standing
  long = length_samples_at rows (take standing (places rows)) within ∙ taken

  same_place : (k : ℕ) → k < standing → get_or (take standing (places rows)) k 0 ≡ get_or (places rows) k 0
  same_place k l = get_or-take standing (places rows) k 0 l

  -- what reading the number at k asks
  pub may_read : (k : ℕ) → k < standing → (k < length rows) × (get_or (places rows) k 0 < length rows)
  may_read k l = (omega arith, subst (λ i. i < length rows) (same_place k l) (within_at (take standing (places rows)) (length rows) k within (omega (arith, taken))))

  -- what it gives
  pub was_read : (k r : ℕ) → k < standing → HasRow rows (get_or (places rows) k 0) (λ row. r ≡ row.number) → r ≡ get_or listed_numbers k 0
  was_read k r l h = h.2 ∙ sym (number_listed rows (take standing (places rows)) within k (omega (arith, taken)) h.0 (ap (slice_get rows) (same_place k l) ∙ h.1))

  -- the number at `middle` is smaller: so are those before it
  pub smaller_before : (middle r : ℕ) → middle < standing → r ≡ get_or listed_numbers middle 0 → r < n → (k : ℕ) → k < middle + 1 → get_or listed_numbers k 0 < n
  smaller_before middle r l e h k j = ⊎_elim
      (λ b. omega (arith, rising_order 0 65535 (samples_at rows (take standing (places rows))) k middle rise b (omega (arith, long))))
      (λ b. let same : k ≡ middle = omega arith in omega (arith, ap (λ i. get_or listed_numbers i 0) same))
      (cases_lt k middle)

  -- it is not: nor are those behind it
  pub larger_behind : (middle r : ℕ) → r ≡ get_or listed_numbers middle 0 → n ≤ r → (k : ℕ) → middle ≤ k → k < standing → n ≤ get_or listed_numbers k 0
  larger_behind middle r e h k j l = ⊎_elim
      (λ b. omega (arith, rising_order 0 65535 (samples_at rows (take standing (places rows))) middle k rise b (omega (arith, long))))
      (λ b. let same : k ≡ middle = omega arith in omega (arith, ap (λ i. get_or listed_numbers i 0) same))
      (cases_lt middle k)

  -- all before `low` are smaller, and from there on larger
  pub not_listed : (low : ℕ) → ((k : ℕ) → k < low → get_or listed_numbers k 0 < n) → ((k : ℕ) → low ≤ k → k < standing → n < get_or listed_numbers k 0) → element_at n (samples_at rows (take standing (places rows))) ≡ None
  not_listed low before behind = number_nowhere n (samples_at rows (take standing (places rows)))
      (λ k l e. ⊎_elim (λ b. omega (arith, before k b)) (λ b. omega (arith, behind k b (omega (arith, long)))) (cases_lt k low))

  -- the first that is not smaller is not the one sought: so those from there on are larger
  pub larger_from : (low r : ℕ) → r ≡ get_or listed_numbers low 0 → n ≤ r → (r ≡ n → ⊥) → (k : ℕ) → low ≤ k → k < standing → n < get_or listed_numbers k 0
  larger_from low r e h other k j l = ⊎_elim
      (λ b. omega (arith, rising_order 0 65535 (samples_at rows (take standing (places rows))) low k rise b (omega (arith, long))))
      (λ b. let same : k ≡ low = omega arith in let more : n < r = omega arith in omega (arith, ap (λ i. get_or listed_numbers i 0) same))
      (cases_lt low k)

pub within_take : (k n : ℕ) (is : List ℕ) → Within is n → Within (take k is) n
within_take zero n is w = tt
within_take (suc k) n [] w = tt
within_take (suc k) n (i ∷ is) w = (w.0, within_take k n is w.1)

pub within_wider : (n m : ℕ) (is : List ℕ) → n ≤ m → Within is n → Within is m
within_wider n m is l w = All-weaker (λ i. i < n) (λ i. i < m) (λ i k. omega arith) is w
