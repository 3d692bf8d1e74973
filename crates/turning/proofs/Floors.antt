-- How much of a turn is done at a step, on the way and on the way back. Assumes nothing.
use Rattle.std.proofs.Common.{◌≡◌, ℕ, zero, suc, ◌+◌, ◌-◌, ◌*◌, ◌/◌, ◌<◌, ◌≤◌, ℤ, pos, negsuc, ◌+ℤ◌, ◌*ℤ◌, neg_ℤ, sym, refl, ap, ◌∙◌, subst, mod-lt, suc-mul, mul_comm, div-lt_iff_lt-mul, add-mul, lt_of_mul-lt-mul_right, mul-le-mul_left, div-add-mod', zero-mul, mul-add, arith}
use native.Mathlib.Nat.{zero-div, div-eq_of_eq-mul_left, div-le_of_le-mul}
use Rattle.std.proofs.lemmas.Int.{ints}
use Rattle.turning.specs.Circle.{floor, RoundsDown}
use Rattle.turning.specs.Motions.{turned}

-- the quotients of two numbers that together are k times n
shares : (a m k n : ℕ) → 0 < n → m + suc a ≡ k * n → k ≡ m / n + suc (a / n)
shares a m k n h e =
    let da = div-add-mod' a n in
    let dm = div-add-mod' m n in
    let ra = mod-lt a h in
    let rm = mod-lt m h in
    let s2 = add-mul (m / n) (a / n) n in
    let s3 = add-mul (m / n + a / n) 2 n in
    let low : m / n + a / n < k = lt_of_mul-lt-mul_right n (omega arith) in
    let high : k < m / n + a / n + 2 = lt_of_mul-lt-mul_right n (omega arith) in
    omega arith

floor_neg : (j m k n : ℕ) → 0 < n → m + j ≡ k * n → floor (neg_ℤ (pos j)) n +ℤ pos k ≡ pos (m / n)
unfolding floor
floor_neg zero m k n h e =
    let q : m / n ≡ k = div-eq_of_eq-mul_left h (omega arith) in
    ap pos (omega (arith, zero-div n))
floor_neg (suc a) m k n h e = let b = shares a m k n h e in omega (arith, ints)

pub neg_times : (p j : ℕ) → neg_ℤ (pos p) *ℤ pos j ≡ neg_ℤ (pos (p * j))
neg_times zero j = let z = zero-mul j in rw z refl
neg_times (suc p) j = refl

both_parts : (p t n : ℕ) → t ≤ n → p * t + p * (n - t) ≡ p * n
both_parts p t n l = let e : t + (n - t) ≡ n = omega arith in sym (mul-add p t (n - t)) ∙ ap (λ x. p * x) e

floor_back : (d : ℤ) (n t : ℕ) → 0 < n → t ≤ n → floor (neg_ℤ d *ℤ pos (n - t)) n +ℤ d ≡ floor (d *ℤ pos t) n
unfolding floor
floor_back (pos p) n t h l =
    ap (λ z. floor z n +ℤ pos p) (neg_times p (n - t)) ∙ floor_neg (p * (n - t)) (p * t) p n h (both_parts p t n l)
floor_back (negsuc q) n t h l =
    let e : suc q * (n - t) + suc q * t ≡ suc q * n = omega (arith, both_parts (suc q) t n l) in
    let f = floor_neg (suc q * t) (suc q * (n - t)) (suc q) n h e in
    omega (arith, ints)

floor_down : (z : ℤ) (n : ℕ) → 0 < n → RoundsDown z n (floor z n)
unfolding floor
floor_down (pos a) n h =
    let whole = div-add-mod' a n in
    let rest = mod-lt a h in
    let next = add-mul (a / n) 1 n in
    (omega (arith, ints), omega (arith, ints))
floor_down (negsuc a) n h =
    let whole = div-add-mod' a n in
    let rest = mod-lt a h in
    let next = suc-mul (a / n) n in
    let above : negsuc (a / n) +ℤ pos 1 ≡ neg_ℤ (pos (a / n)) = omega (arith, ints) in
    let times : (negsuc (a / n) +ℤ pos 1) *ℤ pos n ≡ neg_ℤ (pos (a / n * n)) = ap (λ q. q *ℤ pos n) above ∙ neg_times (a / n) n in
    (omega (arith, ints), rw times (omega (arith, ints)))

pub rounds_down : (z q : ℤ) (n : ℕ) → 0 < n → q ≡ floor z n → RoundsDown z n q
rounds_down z q n h e = subst (RoundsDown z n) (sym e) (floor_down z n h)

-- what the way back has done at the step before the end that the way is after the start, and the whole turn
pub turned_back : (d : ℤ) (n t : ℕ) → 0 < n → t ≤ n → turned (neg_ℤ d) n (n - t) +ℤ d ≡ turned d n t
unfolding turned
turned_back d zero t h l = absurd (omega arith)
turned_back d (suc n) t h l = floor_back d (suc n) t h l

part_under : (p n t : ℕ) → 0 < n → t ≤ n → (p * t) / n ≤ p
part_under p n t h l = div-le_of_le-mul n (omega (arith, mul-le-mul_left p l, mul_comm p n))

-- a negative quotient that is no lower than -p
down_under : (j p n : ℕ) → 0 < n → j ≤ p * n → (k : ℕ) × (k ≤ p) × (floor (neg_ℤ (pos j)) n ≡ neg_ℤ (pos k))
unfolding floor
down_under zero p n h l = (0, omega arith, ap pos (zero-div n))
down_under (suc a) p n h l = let less : a / n < p = (div-lt_iff_lt-mul h).1 (omega arith) in (suc (a / n), omega arith, refl)

-- a turn upward is never overdone
pub turned_up : (p n t : ℕ) → t ≤ n → (k : ℕ) × (k ≤ p) × (turned (pos p) n t ≡ pos k)
unfolding turned floor
turned_up p zero t l = (0, omega arith, refl)
turned_up p (suc n) t l = ((p * t) / suc n, part_under p (suc n) t (omega arith) l, refl)

-- nor is one downward
pub turned_down : (p n t : ℕ) → t ≤ n → (k : ℕ) × (k ≤ p) × (turned (neg_ℤ (pos p)) n t ≡ neg_ℤ (pos k))
unfolding turned floor
turned_down p zero t l = (0, omega arith, refl)
turned_down p (suc n) t l =
    let low = down_under (p * t) p (suc n) (omega arith) (mul-le-mul_left p l) in
    (low.0, low.1, ap (λ z. floor z (suc n)) (neg_times p t) ∙ low.2)
