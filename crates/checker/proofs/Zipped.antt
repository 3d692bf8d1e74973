-- A test of two lists or three side by side is a test place by place. Assumes nothing.
use Rattle.std.proofs.Common.{◌≡◌, ℕ, zero, suc, ◌+◌, ◌<◌, Bool, ◌&&◌, ◌||◌, List, [], ◌∷◌, length, get_or, sym, refl, ap, ◌∙◌, arith}
use Rattle.std.specs.List.{list_all, list_any, range_with_len, zip}

module _ (p : ℕ → Bool) where
  all_moved : (a n : ℕ) → list_all p (range_with_len (a + 1) n) ≡ list_all (λ i. p (suc i)) (range_with_len a n)
  all_moved a zero = refl
  all_moved a (suc n) = (let next : a + 1 ≡ suc a = omega arith in λ i. p (next i) && all_moved (a + 1) n i)

  any_moved : (a n : ℕ) → list_any p (range_with_len (a + 1) n) ≡ list_any (λ i. p (suc i)) (range_with_len a n)
  any_moved a zero = refl
  any_moved a (suc n) = (let next : a + 1 ≡ suc a = omega arith in λ i. p (next i) || any_moved (a + 1) n i)

module _ {X Y : Type 0} (f : X → Y → Bool) (d : X) (e : Y) where
  pub all_zipped : (n : ℕ) (xs : List X) (ys : List Y) → length xs ≡ n → length ys ≡ n → list_all (λ p. f p.0 p.1) (zip xs ys) ≡ list_all (λ i. f (get_or xs i d) (get_or ys i e)) (range_with_len 0 n)
  all_zipped zero [] ys h k = refl
  all_zipped zero (x ∷ xs) ys h k = absurd (omega (arith, h))
  all_zipped (suc n) [] ys h k = absurd (omega (arith, h))
  all_zipped (suc n) (x ∷ xs) [] h k = absurd (omega (arith, k))
  all_zipped (suc n) (x ∷ xs) (y ∷ ys) h k = ap (λ t. f x y && t) (all_zipped n xs ys (omega (arith, h)) (omega (arith, k)) ∙ sym (all_moved (λ i. f (get_or (x ∷ xs) i d) (get_or (y ∷ ys) i e)) 0 n))

  pub any_zipped : (n : ℕ) (xs : List X) (ys : List Y) → length xs ≡ n → length ys ≡ n → list_any (λ p. f p.0 p.1) (zip xs ys) ≡ list_any (λ i. f (get_or xs i d) (get_or ys i e)) (range_with_len 0 n)
  any_zipped zero [] ys h k = refl
  any_zipped zero (x ∷ xs) ys h k = absurd (omega (arith, h))
  any_zipped (suc n) [] ys h k = absurd (omega (arith, h))
  any_zipped (suc n) (x ∷ xs) [] h k = absurd (omega (arith, k))
  any_zipped (suc n) (x ∷ xs) (y ∷ ys) h k = ap (λ t. f x y || t) (any_zipped n xs ys (omega (arith, h)) (omega (arith, k)) ∙ sym (any_moved (λ i. f (get_or (x ∷ xs) i d) (get_or (y ∷ ys) i e)) 0 n))

module _ {X Y Z : Type 0} (f : X → Y → Z → Bool) (c : X) (d : Y) (e : Z) where
  pub any_zipped_three : (n : ℕ) (xs : List X) (ys : List Y) (zs : List Z) → length xs ≡ n → length ys ≡ n → length zs ≡ n → list_any (λ p. f p.0 p.1.0 p.1.1) (zip xs (zip ys zs)) ≡ list_any (λ i. f (get_or xs i c) (get_or ys i d) (get_or zs i e)) (range_with_len 0 n)
  any_zipped_three zero [] ys zs h k l = refl
  any_zipped_three zero (x ∷ xs) ys zs h k l = absurd (omega (arith, h))
  any_zipped_three (suc n) [] ys zs h k l = absurd (omega (arith, h))
  any_zipped_three (suc n) (x ∷ xs) [] zs h k l = absurd (omega (arith, k))
  any_zipped_three (suc n) (x ∷ xs) (y ∷ ys) [] h k l = absurd (omega (arith, l))
  any_zipped_three (suc n) (x ∷ xs) (y ∷ ys) (z ∷ zs) h k l = ap (λ t. f x y z || t) (any_zipped_three n xs ys zs (omega (arith, h)) (omega (arith, k)) (omega (arith, l)) ∙ sym (any_moved (λ i. f (get_or (x ∷ xs) i c) (get_or (y ∷ ys) i d) (get_or (z ∷ zs) i e)) 0 n))
