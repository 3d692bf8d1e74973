-- The number that a word of digits writes. Assumes nothing.
use Rattle.std.proofs.Common.{◌≡◌, ℕ, ◌+◌, ◌-◌, ◌*◌, ◌<◌, ◌≤◌, true, false, cond, not, ◌&&◌, ◌||◌, eqb, ltb, leb, ◌⊎◌, List, [], ◌∷◌, length, get_or, drop, Some, None, Option, IfOk, sym, refl, ap, ◌∙◌, ⊎_elim, arith, eq-eqb, ne_eqb}
use Rattle.std.proofs.lemmas.Bool.{leb-true, and_parts, and_from, and_left, and_right, le-leb, lt-leb, lt-ltb, le-ltb, or_left, or_right, or_from, not_from_true, not_from_false}
use Rattle.std.proofs.lemmas.List.{at_drop_more, at_drop_all}
use Rattle.std.specs.Option.{ok_or}
use Rattle.std.specs.Str.Parse.{digits_value, digits_value_after}
use Rattle.std.specs.Char.{digit_value}
use Rattle.level_theory.specs.Words.{letter, digit, all_bytes, plain, number_word}

pub digit_range : (b : ℕ) → digit b ≡ true → (48 ≤ b) × (b ≤ 57)
digit_range b e = let h = and_parts (leb 48 b) (leb b 57) e in (leb-true 48 b h.0, leb-true b 57 h.1)

pub digit_value_lem : (b : ℕ) → 48 ≤ b → b ≤ 57 → digit_value b ≡ b - 48
digit_value_lem b l h = let p : ltb b 48 ≡ false = le-ltb b 48 l in let q : ltb b 58 ≡ true = lt-ltb b 58 (omega arith) in rw (p, q)

pub grows : (n : ℕ) (cs : List ℕ) → n ≤ digits_value_after 10 n cs
grows n [] = omega arith
grows n (c ∷ cs) = omega (arith, grows (n * 10 + digit_value c) cs)

module _ (w : List ℕ) (i : ℕ) (h : i < length w) where
  pub this_digit : all_bytes digit (drop i w) ≡ true → (48 ≤ get_or w i 0) × (get_or w i 0 ≤ 57)
  this_digit a = digit_range (get_or w i 0) (and_parts (digit (get_or w i 0)) (all_bytes digit (drop (i + 1) w)) (sym (at_drop_more (all_bytes digit) w i 0 h) ∙ a)).0

  pub next_digits : all_bytes digit (drop i w) ≡ true → all_bytes digit (drop (i + 1) w) ≡ true
  next_digits a = (and_parts (digit (get_or w i 0)) (all_bytes digit (drop (i + 1) w)) (sym (at_drop_more (all_bytes digit) w i 0 h) ∙ a)).1

  pub next_value : (n : ℕ) → all_bytes digit (drop i w) ≡ true → digits_value_after 10 n (drop i w) ≡ digits_value_after 10 (n * 10 + (get_or w i 0 - 48)) (drop (i + 1) w)
  next_value n a =
      let d = this_digit a in
      at_drop_more (digits_value_after 10 n) w i 0 h ∙ ap (λ v. digits_value_after 10 (n * 10 + v) (drop (i + 1) w)) (digit_value_lem (get_or w i 0) d.0 d.1)

pub last_value : (w : List ℕ) (i n : ℕ) → length w ≤ i → digits_value_after 10 n (drop i w) ≡ n
last_value w i n h = at_drop_all (digits_value_after 10 n) w i h

pub zero_leads : (limit : ℕ) (w : List ℕ) → 1 < length w → get_or w 0 0 ≡ 48 → None ≡ number_word limit w
unfolding number_word
zero_leads limit w l z =
    let one : eqb (length w) 1 ≡ false = ne_eqb (length w) 1 (λ e. omega arith) in
    let led : eqb (get_or w 0 0) 48 ≡ true = eq-eqb (get_or w 0 0) 48 z in
    let bad : (eqb (length w) 1 || not (eqb (get_or w 0 0) 48)) ≡ false = or_from (eqb (length w) 1) (not (eqb (get_or w 0 0) 48)) one (not_from_true (eqb (get_or w 0 0) 48) led) in
    let worse : (all_bytes digit w && (eqb (length w) 1 || not (eqb (get_or w 0 0) 48))) ≡ false = and_right (all_bytes digit w) (eqb (length w) 1 || not (eqb (get_or w 0 0) 48)) bad in
    let not_plain : plain w ≡ false = and_right (ltb 0 (length w)) (all_bytes digit w && (eqb (length w) 1 || not (eqb (get_or w 0 0) 48))) worse in
    sym (ap (λ t. cond t (Some (digits_value 10 w)) None) (and_left (plain w) (leb (digits_value 10 w) limit) not_plain))

pub too_large : (limit : ℕ) (w : List ℕ) → limit < digits_value 10 w → None ≡ number_word limit w
unfolding number_word
too_large limit w h = sym (ap (λ t. cond t (Some (digits_value 10 w)) None) (and_right (plain w) (leb (digits_value 10 w) limit) (lt-leb (digits_value 10 w) limit h)))

pub not_digits : (limit : ℕ) (w : List ℕ) → all_bytes digit w ≡ false → number_word limit w ≡ None
unfolding number_word
not_digits limit w a =
    let one = and_left (all_bytes digit w) (eqb (length w) 1 || not (eqb (get_or w 0 0) 48)) a in
    let two = and_right (ltb 0 (length w)) (all_bytes digit w && (eqb (length w) 1 || not (eqb (get_or w 0 0) 48))) one in
    ap (λ t. cond t (Some (digits_value 10 w)) None) (and_left (plain w) (leb (digits_value 10 w) limit) two)

pub no_bytes : (limit : ℕ) → number_word limit [] ≡ None
unfolding number_word
no_bytes limit = refl

letter_no_digit : (b : ℕ) → letter b ≡ true → digit b ≡ false
letter_no_digit b e =
    let h = leb-true 97 b (and_parts (leb 97 b) (leb b 122) e).0 in
    and_right (leb 48 b) (leb b 57) (lt-leb b 57 (omega arith))

pub letters_no_digits : (b : ℕ) (bs : List ℕ) → all_bytes letter (b ∷ bs) ≡ true → all_bytes digit (b ∷ bs) ≡ false
letters_no_digits b bs e = and_left (digit b) (all_bytes digit bs) (letter_no_digit b (and_parts (letter b) (all_bytes letter bs) e).0)

-- digits that write a number of at most the limit
pub writes : (limit : ℕ) (w : List ℕ) → 0 < length w → all_bytes digit w ≡ true → ((length w ≤ 1) ⊎ (get_or w 0 0 ≡ 48 → ⊥)) → digits_value 10 w ≤ limit → Some (digits_value 10 w) ≡ number_word limit w
unfolding number_word
writes limit w l a z h =
    let lead : (eqb (length w) 1 || not (eqb (get_or w 0 0) 48)) ≡ true = ⊎_elim (λ s. or_left (eqb (length w) 1) (not (eqb (get_or w 0 0) 48)) (eq-eqb (length w) 1 (omega arith))) (λ n. or_right (eqb (length w) 1) (not (eqb (get_or w 0 0) 48)) (not_from_false (eqb (get_or w 0 0) 48) (ne_eqb (get_or w 0 0) 48 n))) z in
    let rest = and_from (all_bytes digit w) (eqb (length w) 1 || not (eqb (get_or w 0 0) 48)) a lead in
    let fine : plain w ≡ true = and_from (ltb 0 (length w)) (all_bytes digit w && (eqb (length w) 1 || not (eqb (get_or w 0 0) 48))) (lt-ltb 0 (length w) l) rest in
    sym (ap (λ t. cond t (Some (digits_value 10 w)) None) (and_from (plain w) (leb (digits_value 10 w) limit) fine (le-leb (digits_value 10 w) limit h)))

pub number_most : (limit : ℕ) (w : List ℕ) (n : ℕ) → Some n ≡ number_word limit w → n ≤ limit
unfolding number_word
number_most limit w n e = elim (plain w && leb (digits_value 10 w) limit) as (λ t. (plain w && leb (digits_value 10 w) limit) ≡ t → Some n ≡ cond t (Some (digits_value 10 w)) None → n ≤ limit) [
  | true ↦ λ t f. let same : n ≡ digits_value 10 w = cc in let h = leb-true (digits_value 10 w) limit (and_parts (plain w) (leb (digits_value 10 w) limit) t).1 in omega arith
  | false ↦ λ t f. let z : ◌≡◌ {A = ℕ} 0 1 = cc in absurd (omega arith)
] refl e

pub number_fits : {E : Type 0} (limit : ℕ) (w : List ℕ) (o : Option ℕ) (e : E) → o ≡ number_word limit w → IfOk (ok_or o e) (λ n. n ≤ limit)
number_fits limit w None e h = tt
number_fits limit w (Some n) e h = number_most limit w n h
