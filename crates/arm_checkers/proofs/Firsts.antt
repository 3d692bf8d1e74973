-- The first of some steps at which something is true. Assumes nothing.
use Rattle.std.proofs.Common.{◌≡◌, ℕ, zero, suc, ◌+◌, ◌-◌, ◌<◌, ◌≤◌, Bool, true, false, not, ◌&&◌, cond, List, [], ◌∷◌, None, Some, sym, refl, ap, ◌∙◌, subst, ⊎_elim, arith}
use Rattle.std.specs.Prelude.{is_none}
use Rattle.std.specs.List.{find, range_with_len, list_all}
use Rattle.std.proofs.lemmas.Bool.{cases_lt}
use Rattle.arm_checkers.specs.First.{first_from}

-- what it says of a step that it is the first
pub record IsFirst (p : ℕ → Bool) (from last t : ℕ) : Type 0 where
  pub begun : from ≤ t
  pub ended : t ≤ last
  pub here : p t ≡ true
  pub before : (s : ℕ) → from ≤ s → s < t → p s ≡ false

module _ (p : ℕ → Bool) where
  find_none : (n a : ℕ) → ((s : ℕ) → a ≤ s → s < a + n → p s ≡ false) → find p (range_with_len a n) ≡ None
  find_none zero a each = refl
  find_none (suc n) a each =
      ap (λ b. cond b (Some a) (find p (range_with_len (a + 1) n))) (each a (omega arith) (omega arith))
      ∙ find_none n (a + 1) (λ s l h. each s (omega arith) (omega arith))

  find_some : (n a t : ℕ) → a ≤ t → t < a + n → p t ≡ true → ((s : ℕ) → a ≤ s → s < t → p s ≡ false) → find p (range_with_len a n) ≡ Some t
  find_some zero a t l h here before = absurd (omega arith)
  find_some (suc n) a t l h here before = ⊎_elim
      (λ less.
      ap (λ b. cond b (Some a) (find p (range_with_len (a + 1) n))) (before a (omega arith) less)
      ∙ find_some n (a + 1) t (omega arith) (omega arith) here (λ s g k. before s (omega arith) k))
      (λ no_less.
      let same : t ≡ a = omega arith in
      ap (λ b. cond b (Some a) (find p (range_with_len (a + 1) n))) (ap p (sym same) ∙ here) ∙ ap Some (sym same))
      (cases_lt a t)

  found_none : (n a : ℕ) → find p (range_with_len a n) ≡ None → (s : ℕ) → a ≤ s → s < a + n → p s ≡ false
  found_none zero a e s l h = absurd (omega arith)
  found_none (suc n) a e s l h = elim (p a) as (λ b. p a ≡ b → cond b (Some a) (find p (range_with_len (a + 1) n)) ≡ None → p s ≡ false) [
    | true ↦ λ now taken. cc
    | false ↦ λ now rest. ⊎_elim
        (λ less. found_none n (a + 1) rest s (omega arith) (omega arith))
        (λ no_less. let same : s ≡ a = omega arith in ap p same ∙ now)
        (cases_lt a s)
  ] refl e

  found_some : (n a t : ℕ) → find p (range_with_len a n) ≡ Some t → (a ≤ t) × (t < a + n) × (p t ≡ true) × ((s : ℕ) → a ≤ s → s < t → p s ≡ false)
  found_some zero a t e = cc
  found_some (suc n) a t e = elim (p a) as (λ b. p a ≡ b → cond b (Some a) (find p (range_with_len (a + 1) n)) ≡ Some t → (a ≤ t) × (t < a + suc n) × (p t ≡ true) × ((s : ℕ) → a ≤ s → s < t → p s ≡ false)) [
    | true ↦ λ now taken.
        let same : a ≡ t = cc in
        (omega arith, omega arith, subst (λ x. p x ≡ true) same now, λ s l h. absurd (omega arith))
    | false ↦ λ now rest.
        let r = found_some n (a + 1) t rest in (
          omega arith,
          omega arith,
          r.2,
          λ s l h. ⊎_elim
              (λ less. r.3 s (omega arith) h)
              (λ no_less. let same : s ≡ a = omega arith in ap p same ∙ now)
              (cases_lt a s),
        )
  ] refl e

  -- none
  pub first_none : (from last : ℕ) → ((s : ℕ) → from ≤ s → s ≤ last → p s ≡ false) → first_from p from last ≡ None
  unfolding first_from
  first_none from last each = find_none (suc last - from) from (λ s l h. each s l (omega arith))

  pub none_each : (from last : ℕ) → first_from p from last ≡ None → (s : ℕ) → from ≤ s → s ≤ last → p s ≡ false
  unfolding first_from
  none_each from last e s l h = found_none (suc last - from) from e s l (omega arith)

  -- one
  pub first_some : (from last t : ℕ) → from ≤ t → t ≤ last → p t ≡ true → ((s : ℕ) → from ≤ s → s < t → p s ≡ false) → first_from p from last ≡ Some t
  unfolding first_from
  first_some from last t l h here before = find_some (suc last - from) from t l (omega arith) here before

  pub some_first : (from last t : ℕ) → first_from p from last ≡ Some t → IsFirst p from last t
  unfolding first_from
  some_first from last t e =
      let r = found_some (suc last - from) from t e in
      record { begun = r.0; ended = omega arith; here = r.2; before = r.3 }

-- two tests that agree
find_same : (p q : ℕ → Bool) → ((s : ℕ) → p s ≡ q s) → (xs : List ℕ) → find p xs ≡ find q xs
find_same p q same [] = refl
find_same p q same (x ∷ xs) = ap (λ b. cond b (Some x) (find p xs)) (same x) ∙ ap (λ r. cond (q x) (Some x) r) (find_same p q same xs)

pub first_same : (p q : ℕ → Bool) (from last : ℕ) → ((s : ℕ) → p s ≡ q s) → first_from p from last ≡ first_from q from last
unfolding first_from
first_same p q from last same = find_same p q same (range_with_len from (suc last - from))

none_found : (p : ℕ → Bool) (xs : List ℕ) → is_none (find p xs) ≡ list_all (λ x. not (p x)) xs
none_found p [] = refl
none_found p (x ∷ xs) = elim (p x) as (λ b. is_none (cond b (Some x) (find p xs)) ≡ (not b && list_all (λ y. not (p y)) xs)) [ true ↦ refl | false ↦ none_found p xs ]

-- none of the steps from 0 on
pub none_all : (p : ℕ → Bool) (last : ℕ) → is_none (first_from p 0 last) ≡ list_all (λ t. not (p t)) (range_with_len 0 (last + 1))
unfolding first_from
none_all p last = none_found p (range_with_len 0 (suc last - 0)) ∙ ap (λ n. list_all (λ t. not (p t)) (range_with_len 0 n)) (omega arith)
