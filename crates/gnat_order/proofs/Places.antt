-- Writing the places of rows. Assumes nothing.
use Rattle.std.proofs.Common.{◌≡◌, ℕ, zero, suc, ◌+◌, ◌-◌, ◌<◌, ◌≤◌, List, [], ◌∷◌, ◌++◌, length, get_or, take, drop, set, Some, sym, refl, ap, ◌∙◌, subst, arith, length-append, length-drop, length-take, drop-cons, take-suc}
use Rattle.std.specs.List.{slice_get}
use Rattle.std.proofs.lemmas.List.{append_assoc, set_at, get_or-drop, get_or-append_right, take-append-drop}
use Rattle.gnat_rows.specs.declared.Row.{Row}
use Rattle.gnat_rows.specs.Rows.{with_place}
use Rattle.gnat_rows.specs.Lying.{Absent, Distinct}
use Rattle.gnat_order.specs.Order.{Within, places, at_place, placed, counted_from}

module _ {E : Type 0} where
  -- the place that a row has
  pub place_of : (rows : List (Row E)) (i : ℕ) (r : Row E) → slice_get rows i ≡ Some r → get_or (places rows) i 0 ≡ r.place
  place_of [] i r e = let z : ◌≡◌ {A = ℕ} 0 1 = cc in absurd (omega arith)
  place_of (x ∷ xs) zero r e = let s : x ≡ r = cc in ap (λ y. y.place) s
  place_of (x ∷ xs) (suc i) r e = place_of xs i r e

  pub placed_own : (rows : List (Row E)) → placed (places rows) rows ≡ rows
  placed_own [] = refl
  placed_own (r ∷ rs) = ap (λ z. r ∷ z) (placed_own rs)

  pub places_placed : (ps : List ℕ) (rows : List (Row E)) → length ps ≡ length rows → places (placed ps rows) ≡ ps
  places_placed [] [] e = refl
  places_placed [] (r ∷ rs) e = absurd (omega arith)
  places_placed (p ∷ ps) [] e = absurd (omega arith)
  places_placed (p ∷ ps) (r ∷ rs) e = ap (λ z. p ∷ z) (places_placed ps rs (omega arith))

  pub length_placed : (ps : List ℕ) (rows : List (Row E)) → length (placed ps rows) ≡ length rows
  length_placed [] rows = refl
  length_placed (p ∷ ps) [] = refl
  length_placed (p ∷ ps) (r ∷ rs) = ap suc (length_placed ps rs)

  placed_again : (ps : List ℕ) (rows : List (Row E)) (i p : ℕ) → length ps ≡ length rows → with_place i p (placed ps rows) ≡ placed (set ps i p) rows
  placed_again [] [] i p e = refl
  placed_again [] (r ∷ rs) i p e = absurd (omega arith)
  placed_again (q ∷ ps) [] i p e = absurd (omega arith)
  placed_again (q ∷ ps) (r ∷ rs) zero p e = refl
  placed_again (q ∷ ps) (r ∷ rs) (suc i) p e = ap (λ z. at_place q r ∷ z) (placed_again ps rs i p (omega arith))

  -- one more place is written, after others
  pub put_next : (rows was new : List (Row E)) (ps : List ℕ) (i p : ℕ) → length ps ≡ length rows → was ≡ placed ps rows → new ≡ with_place i p was → new ≡ placed (set ps i p) rows
  put_next rows was new ps i p l e f = f ∙ (ap (with_place i p) e ∙ placed_again ps rows i p l)

module _ {E : Type 0} where
  -- the rows behind the first n, which alone are listed by their own numbers, stay
  pub counted_front : (a n : ℕ) (rows : List (Row E)) → placed (counted_from a n (places (take n rows))) (take n rows) ++ drop n rows ≡ placed (counted_from a n (places rows)) rows
  counted_front a zero rows = sym (placed_own rows)
  counted_front a (suc n) [] = refl
  counted_front a (suc n) (r ∷ rs) = ap (λ z. at_place a r ∷ z) (counted_front (suc a) n rs)

-- one more row listed by its own number
pub counted_more : (a n : ℕ) (ps : List ℕ) → n < length ps → set (counted_from a n ps) n (a + n) ≡ counted_from a (suc n) ps
counted_more a n [] l = absurd (omega arith)
counted_more a zero (p ∷ ps) l = ap (λ z. z ∷ ps) (omega arith)
counted_more a (suc n) (p ∷ ps) l =
    let e : a + suc n ≡ suc a + n = omega arith in
    ap (λ z. a ∷ z) (ap (λ k. set (counted_from (suc a) n ps) n k) e ∙ counted_more (suc a) n ps (omega arith))

pub length_counted : (a n : ℕ) (ps : List ℕ) → length (counted_from a n ps) ≡ length ps
length_counted a zero ps = refl
length_counted a (suc n) [] = refl
length_counted a (suc n) (p ∷ ps) = ap suc (length_counted (suc a) n ps)

-- the list while those behind `at` move one place down, up to i
abbrev pub sliding : ℕ → ℕ → List ℕ → List ℕ
sliding at i ps = take at ps ++ (take (i - at) (drop (suc at) ps) ++ drop i ps)

module _ (at i : ℕ) (ps : List ℕ) (low : at ≤ i) (high : i < length ps) where
  front : List ℕ
  front = take at ps ++ take (i - at) (drop (suc at) ps)

  front_length : length front ≡ i
  unfolding front
  front_length = simp (length-append, length-take, length-drop) (omega arith)

  split_there : sliding at i ps ≡ front ++ (get_or ps i 0 ∷ drop (suc i) ps)
  unfolding front
  split_there = sym (append_assoc (take at ps) (take (i - at) (drop (suc at) ps)) (drop i ps)) ∙ ap (λ z. (take at ps ++ take (i - at) (drop (suc at) ps)) ++ z) (drop-cons ps i 0 high)

  -- what is written at i
  pub slid_write : (x : ℕ) → set (sliding at i ps) i x ≡ take at ps ++ (take (i - at) (drop (suc at) ps) ++ (x ∷ drop (suc i) ps))
  unfolding front
  slid_write x = ap (λ z. set z i x) split_there ∙ (set_at front (get_or ps i 0) (drop (suc i) ps) x i front_length ∙ append_assoc (take at ps) (take (i - at) (drop (suc at) ps)) (x ∷ drop (suc i) ps))

  -- what is read behind it
  pub slid_read : get_or (sliding at i ps) (i + 1) 0 ≡ get_or ps (i + 1) 0
  slid_read =
      let one : i + 1 - i ≡ 1 = omega arith in
      ap (λ z. get_or z (i + 1) 0) split_there
      ∙ (get_or-append_right front (get_or ps i 0 ∷ drop (suc i) ps) i (i + 1) 0 front_length (omega arith)
      ∙ (ap (λ k. get_or (get_or ps i 0 ∷ drop (suc i) ps) k 0) one
      ∙ (get_or-drop (suc i) ps 0 0 ∙ ap (λ k. get_or ps k 0) (omega arith))))

  -- one more has moved
  pub slid_more : suc i < length ps → set (sliding at i ps) i (get_or ps (i + 1) 0) ≡ sliding at (i + 1) ps
  slid_more more =
      let next : i + 1 - at ≡ suc (i - at) = omega arith in
      let here : suc at + (i - at) ≡ i + 1 = omega arith in
      let after : i + 1 ≡ suc i = omega arith in
      let wide : i - at < length (drop (suc at) ps) = simp length-drop (omega arith) in
      let grown : take (i + 1 - at) (drop (suc at) ps) ≡ take (i - at) (drop (suc at) ps) ++ (get_or ps (i + 1) 0 ∷ []) =
      ap (λ k. take k (drop (suc at) ps)) next ∙ (take-suc (drop (suc at) ps) (i - at) 0 wide ∙ ap (λ z. take (i - at) (drop (suc at) ps) ++ (z ∷ [])) (get_or-drop (suc at) ps (i - at) 0 ∙ ap (λ k. get_or ps k 0) here)) in
      slid_write (get_or ps (i + 1) 0)
      ∙ ap (λ z. take at ps ++ z) (sym (ap (λ z. z ++ drop (i + 1) ps) grown ∙ (append_assoc (take (i - at) (drop (suc at) ps)) (get_or ps (i + 1) 0 ∷ []) (drop (i + 1) ps) ∙ ap (λ k. take (i - at) (drop (suc at) ps) ++ (get_or ps (i + 1) 0 ∷ drop k ps)) after)))

pub slid_none : (at : ℕ) (ps : List ℕ) → sliding at at ps ≡ ps
slid_none at ps = let z : at - at ≡ 0 = omega arith in ap (λ k. take at ps ++ (take k (drop (suc at) ps) ++ drop at ps)) z ∙ take-append-drop at ps

pub length_slid : (at i : ℕ) (ps : List ℕ) → at ≤ i → i < length ps → length (sliding at i ps) ≡ length ps
length_slid at i ps a b = simp (length-append, length-take, length-drop) (omega arith)

-- the rows listed by their own numbers are all below their count
pub counted_within : (a n : ℕ) (ps : List ℕ) → n ≤ length ps → Within (take n (counted_from a n ps)) (a + n)
counted_within a zero ps l = tt
counted_within a (suc n) [] l = absurd (omega arith)
counted_within a (suc n) (p ∷ ps) l =
    let e : suc a + n ≡ a + suc n = omega arith in
    (omega arith, subst (Within (take n (counted_from (suc a) n ps))) e (counted_within (suc a) n ps (omega arith)))

counted_above : (a b n : ℕ) (ps : List ℕ) → b < a → Absent b (take n (counted_from a n ps))
counted_above a b zero ps l = tt
counted_above a b (suc n) [] l = tt
counted_above a b (suc n) (p ∷ ps) l = ((λ e. omega arith), counted_above (suc a) b n ps (omega arith))

-- and each is listed once
pub counted_distinct : (a n : ℕ) (ps : List ℕ) → Distinct (take n (counted_from a n ps))
counted_distinct a zero ps = tt
counted_distinct a (suc n) [] = tt
counted_distinct a (suc n) (p ∷ ps) = (counted_above (suc a) a n ps (omega arith), counted_distinct (suc a) n ps)
