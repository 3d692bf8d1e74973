-- Finding a row, and the samples without one. Assumes nothing.
use Rattle.std.proofs.Common.{◌≡◌, ℕ, zero, suc, ◌<◌, ◌≤◌, cond, List, [], ◌∷◌, ◌++◌, length, get_or, take, drop, Some, None, Option, true, false, ◌==◌, ltb, ltb-false, refl, sym, ap, ◌∙◌, arith, eq-eqb, ne_eqb}
use Rattle.std.proofs.lemmas.List.{get_or_default}
use Rattle.std.proofs.lemmas.Bool.{cond_both}
use Rattle.std.proofs.lemmas.Bool.Decides.{nat_tests}
use Rattle.std.proofs.lemmas.List.Quantifiers.{position-Some}
use Rattle.std.proofs.lemmas.List.Sums.{fails_before_first}
use Rattle.std.proofs.lemmas.Option.{none-some}
use Rattle.std.specs.List.{HoldsAt, position, position_or_len}
use Rattle.hits.specs.Samples.{Rising}
use Rattle.index.specs.Meaning.{element_at, without}
use Rattle.index.proofs.Standing.{without_below}
use Rattle.scan.specs.declared.rows.Row.{Row}
use Rattle.scan.specs.Rows.{sample_of, samples, Found}

module _ {E : Type 0} (n : ℕ) where
  none_at : (rows : List (Row E)) → ((k : ℕ) (d : Row E) → k < length rows → ((get_or rows k d).number == n) ≡ false) → element_at n (samples rows) ≡ None
  none_at [] other = refl
  none_at (x ∷ xs) other = ap (λ t. cond t (Some x.element) (element_at n (samples xs))) (other 0 x (omega arith)) ∙ none_at xs (λ k d l. other (suc k) d (omega arith))

  -- where the first row of a number is, if there is one
  pub found_first : (rows : List (Row E)) (place : Option ℕ) → place ≡ position (λ row. row.number == n) rows → Found n rows place
  found_first rows None e =
      let first = position_or_len (λ row. row.number == n) rows in
      let beyond : length rows ≤ first =
      cond_both (ltb first (length rows)) (Some first) None (λ z. None ≡ z → length rows ≤ first) (λ t f. absurd (none-some first f)) (λ t f. ltb-false first (length rows) t) e in
      none_at rows (λ k d l. fails_before_first (λ row. row.number == n) rows k d (omega (arith, beyond)))
  found_first [] (Some i) e = absurd (none-some i (sym e))
  found_first (x ∷ xs) (Some i) e = ((position-Some (λ row. row.number == n) (x ∷ xs) i x (sym e)).0, λ d. same _ (position-Some (λ row. row.number == n) (x ∷ xs) i d (sym e)).1)
    where
      same : (m : ℕ) → (m == n) ≡ true → m ≡ n
      same m t = grind (arith, nat_tests)

module _ {E : Type 0} where
  above : (low high : ℕ) (rows : List (Row E)) (i : ℕ) (d : Row E) → i < length rows → Rising low high (samples rows) → low < (get_or rows i d).number
  above low high [] i d l r = absurd (omega arith)
  above low high (x ∷ xs) zero d l r = r.0
  above low high (x ∷ xs) (suc i) d l r = omega (arith, r.0, above x.number high xs i d (omega arith) r.2)

  -- the element that stands under a row's number is the row's
  pub element_here : (n low high : ℕ) (rows : List (Row E)) (i : ℕ) (e : E) → i < length rows → Rising low high (samples rows) → HoldsAt (λ row. row.number ≡ n) rows i → HoldsAt (λ row. e ≡ row.element) rows i → element_at n (samples rows) ≡ Some e
  element_here n low high [] i e l r p q = absurd (omega arith)
  element_here n low high (x ∷ xs) zero e l r p q = ap (λ t. cond t (Some x.element) (element_at n (samples xs))) (eq-eqb x.number n (p x)) ∙ ap Some (sym (q x))
  element_here n low high (x ∷ xs) (suc i) e l r p q =
      let up = above x.number high xs i x (omega arith) r.2 in
      ap (λ t. cond t (Some x.element) (element_at n (samples xs))) (ne_eqb x.number n (λ f. omega (arith, p x))) ∙ element_here n x.number high xs i e (omega arith) r.2 p q

  -- some element stands under a row's number
  pub stands_here : (n low high : ℕ) (rows : List (Row E)) (i : ℕ) → i < length rows → Rising low high (samples rows) → HoldsAt (λ row. row.number ≡ n) rows i → (e : E) × (element_at n (samples rows) ≡ Some e)
  stands_here n low high [] i l r p = absurd (omega arith)
  stands_here n low high (x ∷ xs) i l r p =
      let row = get_or (x ∷ xs) i x in
      (row.element, element_here n low high (x ∷ xs) i row.element l r p (λ d. ap (λ z. z.element) (get_or_default (x ∷ xs) i x d l)))

  -- without that row, the samples without that number
  pub taken_out : (n low high : ℕ) (rows : List (Row E)) (i : ℕ) → i < length rows → Rising low high (samples rows) → HoldsAt (λ row. row.number ≡ n) rows i → samples (take i rows ++ drop (suc i) rows) ≡ without n (samples rows)
  taken_out n low high [] i l r p = absurd (omega arith)
  taken_out n low high (x ∷ xs) zero l r p =
      sym (ap (λ t. cond t (without n (samples xs)) (sample_of x ∷ without n (samples xs))) (eq-eqb x.number n (p x)) ∙ without_below n x.number high (samples xs) (omega (arith, p x)) r.2)
  taken_out n low high (x ∷ xs) (suc i) l r p =
      let up = above x.number high xs i x (omega arith) r.2 in
      ap (λ z. sample_of x ∷ z) (taken_out n x.number high xs i (omega arith) r.2 p)
      ∙ sym (ap (λ t. cond t (without n (samples xs)) (sample_of x ∷ without n (samples xs))) (ne_eqb x.number n (λ f. omega (arith, p x))))
