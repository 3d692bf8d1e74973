-- A word is a number exactly if it is how that number is written.
use Rattle.std.proofs.Common.{◌≡◌, ℕ, ◌^◌, ◌<◌, ◌≤◌, Bool, true, false, cond, not, ◌&&◌, ◌||◌, eqb, ltb, leb, ◌⊎◌, List, length, get_or, Some, None, decimal, sym, refl, ap, ◌∙◌, inl, inr, arith, rules, ltb-true, lt-ltb, eq-eqb, ne_eqb, eqb-true, le-leb, leb-true}
use Rattle.std.proofs.lemmas.Bool.{cases_lt}
use Rattle.std.specs.Str.Parse.{digits_value}
use Rattle.std.proofs.lemmas.Str.Parse.{IsNumeralModel, numerals_by_value}
use Rattle.std.proofs.lemmas.Fmt.{decimal-digits_value, digits_value-decimal, digits_decimal, decimal_nonempty, first_decimal, decimal_digit}
use Rattle.level_theory.specs.Words.{digit, all_bytes, plain, number_word}

pub own : IsNumeralModel (λ ds. all_bytes digit ds ≡ true) (digits_value 10)
own = numerals_by_value _ (search rules)

pub and_both : (a b : Bool) → (a && b) ≡ true → (a ≡ true) × (b ≡ true)
and_both true b e = (refl, e)
and_both false b e = absurd (let z : ◌≡◌ {A = ℕ} 0 1 = cc in omega arith)

pub or_right : (a b : Bool) → b ≡ true → (a || b) ≡ true
or_right true b e = refl
or_right false b e = e

-- no needless leading zero
lead : (n : ℕ) → n < 2 ^ 64 → (eqb (length (decimal n)) 1 || not (eqb (get_or (decimal n) 0 0) 48)) ≡ true
lead n small = go (cases_lt 0 n)
  where
    go : (0 < n) ⊎ (n ≤ 0) → (eqb (length (decimal n)) 1 || not (eqb (get_or (decimal n) 0 0) 48)) ≡ true
    go (inl h) = or_right (eqb (length (decimal n)) 1) _ (ap not (ne_eqb (get_or (decimal n) 0 0) 48 (λ e. let f = first_decimal n h small in omega arith)))
    go (inr h) = rw (ap (λ ds. eqb (length ds) 1) (decimal_digit n (omega arith))) refl

pub plain_decimal : (n : ℕ) → n < 2 ^ 64 → plain (decimal n) ≡ true
plain_decimal n small = rw (lt-ltb 0 (length (decimal n)) (decimal_nonempty n small), digits_decimal own n small, lead n small) refl

pub number_right : (limit n : ℕ) → limit < 2 ^ 64 → n ≤ limit → number_word limit (decimal n) ≡ Some n
unfolding number_word
number_right limit n small h =
    let v : digits_value 10 (decimal n) ≡ n = digits_value-decimal own n (omega arith) in
    rw (plain_decimal n (omega arith), v, le-leb n limit h) refl

cond_some : (t : Bool) (v n : ℕ) → cond t (Some v) None ≡ Some n → (t ≡ true) × (v ≡ n)
cond_some true v n e = (refl, cc)
cond_some false v n e = absurd (let z : ◌≡◌ {A = ℕ} 0 1 = cc in omega arith)

alone : (w : List ℕ) → (eqb (length w) 1 || not (eqb (get_or w 0 0) 48)) ≡ true → get_or w 0 0 ≡ 48 → length w ≡ 1
alone w h e = go (eqb (length w) 1) refl
  where
    go : (t : Bool) → eqb (length w) 1 ≡ t → length w ≡ 1
    go true f = eqb-true (length w) 1 f
    go false f = absurd (let k : (false || not true) ≡ true = rw (f, eq-eqb (get_or w 0 0) 48 e) at h in let z : ◌≡◌ {A = ℕ} 0 1 = cc in omega arith)

pub number_is : (limit n : ℕ) (w : List ℕ) → limit < 2 ^ 64 → number_word limit w ≡ Some n → (w ≡ decimal n) × (n ≤ limit)
unfolding number_word
number_is limit n w small e =
    let c = cond_some (plain w && leb (digits_value 10 w) limit) (digits_value 10 w) n e in
    let p = and_both (plain w) (leb (digits_value 10 w) limit) c.0 in
    let q = and_both (ltb 0 (length w)) (all_bytes digit w && (eqb (length w) 1 || not (eqb (get_or w 0 0) 48))) p.0 in
    let r = and_both (all_bytes digit w) (eqb (length w) 1 || not (eqb (get_or w 0 0) 48)) q.1 in
    let least : digits_value 10 w ≤ limit = leb-true (digits_value 10 w) limit p.1 in
    let same : digits_value 10 w ≡ n = c.1 in
    (sym (decimal-digits_value own w r.0 (ltb-true 0 (length w) q.0) (alone w r.1) (omega arith)) ∙ ap decimal same, omega arith)
