-- How much of a turn is done at a step, whichever way the joint goes. Assumes nothing.
use Rattle.std.proofs.Common.{◌≡◌, ℕ, zero, suc, ◌+◌, ◌-◌, ◌*◌, ◌/◌, ◌<◌, ◌≤◌, Bool, true, false, cond, pos, neg_ℤ, nat_abs, sym, refl, ap, ◌∙◌, ⊎_elim, mod-lt, add-mul, suc-mul, mul-le-mul, mul-le-mul_left, mul-add, zero-mul, lt_of_mul-lt-mul_right, div-add-mod', arith}
use native.Mathlib.Nat.{le-div_iff_mul-le, zero-div, div-lt_iff_lt-mul}
use Rattle.std.specs.Int.{div_ceil}
use Rattle.std.proofs.lemmas.Bool.{cases_lt}
use Rattle.turning.specs.Circle.{floor}
use Rattle.turning.specs.Motions.{turned}
use Rattle.turning.proofs.Floors.{neg_times}
use Rattle.arm_checkers.specs.Joints.{directed, short}

-- as a machine computes it
pub part : Bool → ℕ → ℕ → ℕ → ℕ
part upward size zero t = 0
part upward size (suc n) t = cond upward ((size * t) / suc n) (div_ceil (size * t) (suc n))

-- rounded up, of one more than a
ceil_next : (a n : ℕ) → 0 < n → div_ceil (suc a) n ≡ suc (a / n)
ceil_next a n h =
    let whole = div-add-mod' (suc a) n in
    let rest = mod-lt (suc a) h in
    let whole' = div-add-mod' a n in
    let rest' = mod-lt a h in
    let up = add-mul (a / n) 1 n in
    let up' = add-mul (suc a / n) 1 n in
    let up2 = add-mul (a / n) 2 n in
    let high : suc a / n < a / n + 2 = lt_of_mul-lt-mul_right n (omega arith) in
    let low : a / n < suc a / n + 1 = lt_of_mul-lt-mul_right n (omega arith) in
    ⊎_elim
    (λ more. let next : suc a / n ≡ a / n + 1 = omega arith in omega (arith, ap (λ q. q * n) next))
    (λ no_more. let same : suc a / n ≡ a / n = omega arith in omega (arith, ap (λ q. q * n) same))
    (cases_lt (a / n) (suc a / n))

ceil_zero : (n : ℕ) → div_ceil 0 n ≡ 0
ceil_zero n = let whole = div-add-mod' 0 n in omega (arith, zero-div n)

down_quotient : (a n : ℕ) → 0 < n → floor (neg_ℤ (pos a)) n ≡ neg_ℤ (pos (div_ceil a n))
unfolding floor
down_quotient zero n h = ap pos (zero-div n) ∙ ap (λ k. neg_ℤ (pos k)) (sym (ceil_zero n))
down_quotient (suc a) n h = ap (λ k. neg_ℤ (pos k)) (sym (ceil_next a n h))

pub turned_part : (upward : Bool) (size n t : ℕ) → turned (directed upward size) n t ≡ directed upward (part upward size n t)
unfolding turned floor part
turned_part true size zero t = refl
turned_part false size zero t = refl
turned_part true size (suc n) t = refl
turned_part false size (suc n) t = ap (λ z. floor z (suc n)) (neg_times size t) ∙ down_quotient (size * t) (suc n) (omega arith)

pub directed_size : (upward : Bool) (k : ℕ) → nat_abs (directed upward k) ≡ k
directed_size true k = refl
directed_size false zero = refl
directed_size false (suc k) = refl

-- of no product nothing is done
pub part_none : (upward : Bool) (size n t : ℕ) → size * t ≡ 0 → part upward size n t ≡ 0
unfolding part
part_none upward size zero t e = refl
part_none true size (suc n) t e = ap (λ x. x / suc n) e ∙ zero-div (suc n)
part_none false size (suc n) t e = ap (λ x. div_ceil x (suc n)) e ∙ ceil_zero (suc n)

-- nor where there are no steps
part_still : (upward : Bool) (size t : ℕ) → part upward size 0 t ≡ 0
unfolding part
part_still upward size t = refl

pub part_up : (size n t : ℕ) → 0 < n → part true size n t ≡ (size * t) / n
unfolding part
part_up size zero t h = absurd (omega arith)
part_up size (suc n) t h = refl

pub part_down : (size n t : ℕ) → 0 < n → part false size n t ≡ div_ceil (size * t) n
unfolding part
part_down size zero t h = absurd (omega arith)
part_down size (suc n) t h = refl

-- where something is done, there are steps
pub some_steps : (size n t : ℕ) → size ≤ n → (size * t ≡ 0 → ⊥) → 0 < n
some_steps zero n t l some = absurd (some (zero-mul t))
some_steps (suc size) n t l some = omega arith

ceil_reached : (x n k : ℕ) → 0 < n → (k - 1) * n < x → k ≤ div_ceil x n
ceil_reached zero n k h l = absurd (omega arith)
ceil_reached (suc a) n k h l = let q : k - 1 ≤ a / n = (le-div_iff_mul-le h).1 (omega arith) in omega (arith, ceil_next a n h)

ceil_unreached : (x n k : ℕ) → 0 < n → 0 < k → x ≤ (k - 1) * n → div_ceil x n < k
ceil_unreached zero n k h some l = omega (arith, ceil_zero n)
ceil_unreached (suc a) n k h some l = let q : a / n < k - 1 = (div-lt_iff_lt-mul h).1 (omega arith) in omega (arith, ceil_next a n h)

pub reached : (upward : Bool) (size n t k : ℕ) → 0 < n → 0 < k → short upward n k < size * t → k ≤ part upward size n t
reached true size n t k h some l = let q : k ≤ (size * t) / n = (le-div_iff_mul-le h).1 (omega arith) in omega (arith, part_up size n t h)
reached false size n t k h some l = let q = ceil_reached (size * t) n k h l in omega (arith, part_down size n t h)

pub unreached : (upward : Bool) (size n t k : ℕ) → 0 < n → 0 < k → size * t ≤ short upward n k → part upward size n t < k
unreached true size n t k h some l =
    let whole : 1 * 1 ≤ k * n = mul-le-mul some h in
    let q : (size * t) / n < k = (div-lt_iff_lt-mul h).1 (omega arith) in
    omega (arith, part_up size n t h)
unreached false size n t k h some l = let q = ceil_unreached (size * t) n k h some l in omega (arith, part_down size n t h)

-- one more takes as many steps' worth more
short_next : (upward : Bool) (n k : ℕ) → 0 < n → 0 < k → short upward n (k + 1) ≡ short upward n k + n
short_next true n k h some = let whole : 1 * 1 ≤ k * n = mul-le-mul some h in omega (arith, add-mul k 1 n)
short_next false n zero h some = absurd (omega arith)
short_next false n (suc k) h some =
    let back : suc k + 1 - 1 ≡ suc k = omega arith in
    let back' : suc k - 1 ≡ k = omega arith in
    omega (arith, suc-mul k n, ap (λ x. x * n) back, ap (λ x. x * n) back')

-- what is done never becomes less
pub part_grows : (upward : Bool) (size n s t : ℕ) → s ≤ t → part upward size n s ≤ part upward size n t
part_grows upward size zero s t l = omega (arith, part_still upward size s)
part_grows upward size (suc n) s t l =
    let k : ℕ = part upward size (suc n) t + 1 in
    let more = mul-le-mul_left size l in
    ⊎_elim
    (λ far. let above = reached upward size (suc n) t k (omega arith) (omega arith) (omega arith) in absurd (omega arith))
    (λ near. let below = unreached upward size (suc n) s k (omega arith) (omega arith) near in omega arith)
    (cases_lt (short upward (suc n) k) (size * s))

-- and by one at most from a step to the next
pub part_slow : (upward : Bool) (size n t : ℕ) → size ≤ n → part upward size n (t + 1) ≤ part upward size n t + 1
part_slow upward size zero t l = omega (arith, part_still upward size (t + 1))
part_slow upward size (suc n) t l =
    let k : ℕ = part upward size (suc n) t + 1 in
    let more = mul-add size t 1 in
    let next = short_next upward (suc n) k (omega arith) (omega arith) in
    ⊎_elim
    (λ far. let above = reached upward size (suc n) t k (omega arith) (omega arith) far in absurd (omega arith))
    (λ near. let below = unreached upward size (suc n) (t + 1) (k + 1) (omega arith) (omega arith) (omega arith) in omega arith)
    (cases_lt (short upward (suc n) k) (size * t))

-- the whole turn is never overdone
pub part_whole : (upward : Bool) (size n t : ℕ) → t ≤ n → part upward size n t ≤ size
part_whole upward size zero t l = omega (arith, part_still upward size t)
part_whole upward size (suc n) t l =
    let less = mul-le-mul_left size l in
    let next = short_of_whole upward size (suc n) (omega arith) in
    let below = unreached upward size (suc n) t (size + 1) (omega arith) (omega arith) (omega arith) in
    omega arith
  where
    short_of_whole : (upward : Bool) (size n : ℕ) → 0 < n → size * n ≤ short upward n (size + 1)
    short_of_whole true size n h = omega (arith, add-mul size 1 n)
    short_of_whole false size n h = let back : size + 1 - 1 ≡ size = omega arith in omega (arith, ap (λ x. x * n) back)
