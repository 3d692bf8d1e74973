-- Lists of samples by rising number. Assumes nothing.
use Rattle.std.proofs.Common.{◌≡◌, ℕ, zero, ◌<◌, ◌≤◌, false, cond, eqb, List, [], ◌∷◌, ◌++◌, refl, ap, ◌∙◌, arith, ne_eqb, suc, length, take}
use Rattle.std.proofs.lemmas.Bool.{cond_both}
use Rattle.hits.specs.Samples.{Sample, Rising}
use Rattle.index.specs.Meaning.{without}

module _ {E : Type 0} where
  -- with wider bounds
  pub rising_wider : (low high down up : ℕ) (xs : List (Sample E)) → down ≤ low → high ≤ up → Rising low high xs → Rising down up xs
  rising_wider low high down up [] a b r = tt
  rising_wider low high down up (x ∷ xs) a b r = (omega (arith, r.0), omega (arith, r.1), rising_wider x.number high x.number up xs (omega arith) b r.2)

  -- one more at the end, of a higher number
  pub rising_push : (low high up : ℕ) (xs : List (Sample E)) (s : Sample E) → low ≤ high → high < s.number → s.number ≤ up → Rising low high xs → Rising low up (xs ++ (s ∷ []))
  rising_push low high up [] s a b c r = (omega arith, c, tt)
  rising_push low high up (x ∷ xs) s a b c r = (r.0, omega (arith, r.1), rising_push x.number high up xs s r.1 b c r.2)

  pub rising_take : (low high n : ℕ) (xs : List (Sample E)) → Rising low high xs → Rising low high (take n xs)
  rising_take low high zero xs r = tt
  rising_take low high (suc n) [] r = tt
  rising_take low high (suc n) (x ∷ xs) r = (r.0, r.1, rising_take x.number high n xs r.2)

  pub rising_without : (n low high : ℕ) (xs : List (Sample E)) → Rising low high xs → Rising low high (without n xs)
  rising_without n low high [] r = tt
  rising_without n low high (x ∷ xs) r = cond_both (eqb x.number n) (without n xs) (x ∷ without n xs) (Rising low high)
      (λ e. rising_wider x.number high low high (without n xs) (omega (arith, r.0)) (omega arith) (rising_without n x.number high xs r.2))
      (λ e. (r.0, r.1, rising_without n x.number high xs r.2))

  pub without_fewer : (n : ℕ) (xs : List (Sample E)) → length (without n xs) ≤ length xs
  without_fewer n [] = omega arith
  without_fewer n (x ∷ xs) =
      let ih : length (without n xs) ≤ length xs = without_fewer n xs in
      cond_both (eqb x.number n) (without n xs) (x ∷ without n xs) (λ z. length z ≤ suc (length xs)) (λ e. omega arith) (λ e. omega arith)

  -- a number below all is not among them
  pub without_below : (n low high : ℕ) (xs : List (Sample E)) → n ≤ low → Rising low high xs → without n xs ≡ xs
  without_below n low high [] a r = refl
  without_below n low high (x ∷ xs) a r =
      let other : eqb x.number n ≡ false = ne_eqb x.number n (λ e. omega (arith, r.0)) in
      ap (λ t. cond t (without n xs) (x ∷ without n xs)) other ∙ ap (λ z. x ∷ z) (without_below n x.number high xs (omega (arith, r.0)) r.2)
