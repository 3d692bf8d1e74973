-- The laws of one joint. Assumes nothing.
use Rattle.std.specs.Prelude.{◌≡◌, ℕ, suc, ◌+◌, ◌-◌, ◌%◌, ◌<◌, ◌≤◌, min, true, false, cond, pos, negsuc, ◌+ℤ◌, ◌-ℤ◌, nat_lt, unsigned_abs, refl}
use Rattle.std.proofs.Common.{ap, ◌∙◌, arith, ltb-true, ltb-false, ⊎_elim}
use Rattle.std.proofs.lemmas.Bool.{cases_lt}
use Rattle.std.proofs.lemmas.Int.{ints}
use Rattle.arm.specs.Turns.{turn_by, turn_of, swing_of}

-- an upward difference of n
up_size : (n : ℕ) → n < 4096 → unsigned_abs (turn_by (pos n)) ≡ min n (4096 - n)
unfolding turn_by
up_size n h = elim (nat_lt 2048 n) as (λ t. nat_lt 2048 n ≡ t → unsigned_abs (cond t (pos n -ℤ pos 4096) (pos n)) ≡ min n (4096 - n)) [
  | true ↦ λ e. let far = ltb-true 2048 n e in let z : pos n -ℤ pos 4096 ≡ negsuc (4095 - n) = omega (arith, ints) in ap unsigned_abs z ∙ omega arith
  | false ↦ λ e. omega (arith, ltb-false 2048 n e)
] refl

-- a downward difference of n + 1
down_size : (n : ℕ) → n < 4095 → unsigned_abs (turn_by (negsuc n)) ≡ min (suc n) (4095 - n)
unfolding turn_by
down_size n h = elim (nat_lt 2047 n) as (λ t. nat_lt 2047 n ≡ t → unsigned_abs (cond t (negsuc n +ℤ pos 4096) (negsuc n)) ≡ min (suc n) (4095 - n)) [
  | true ↦ λ e. let far = ltb-true 2047 n e in let z : negsuc n +ℤ pos 4096 ≡ pos (4095 - n) = omega (arith, ints) in ap unsigned_abs z ∙ omega arith
  | false ↦ λ e. omega (arith, ltb-false 2047 n e)
] refl

differ : (x y : ℕ) → x < 4096 → y < 4096 → unsigned_abs (turn_by (pos y -ℤ pos x)) ≡ min ((x - y) + (y - x)) (4096 - ((x - y) + (y - x)))
differ x y hx hy = ⊎_elim
    (λ l. let z : pos y -ℤ pos x ≡ negsuc (x - suc y) = omega (arith, ints) in ap (λ d. unsigned_abs (turn_by d)) z ∙ (down_size (x - suc y) (omega arith) ∙ omega arith))
    (λ l. let z : pos y -ℤ pos x ≡ pos (y - x) = omega (arith, ints) in ap (λ d. unsigned_abs (turn_by d)) z ∙ (up_size (y - x) (omega arith) ∙ omega arith))
    (cases_lt y x)

-- the size, without signs: the difference or what it lacks to a full turn, whichever is smaller
swing_is : (a b : ℕ) → swing_of a b ≡ min ((a % 4096 - b % 4096) + (b % 4096 - a % 4096)) (4096 - ((a % 4096 - b % 4096) + (b % 4096 - a % 4096)))
unfolding swing_of turn_of
swing_is a b = differ (a % 4096) (b % 4096) (omega arith) (omega arith)

pub swing_zero : (a : ℕ) → swing_of a a ≡ 0
swing_zero a = omega (arith, swing_is a a)

pub swing_symmetric : (a b : ℕ) → swing_of a b ≡ swing_of b a
swing_symmetric a b = omega (arith, swing_is a b, swing_is b a)

pub swing_triangle : (a b c : ℕ) → swing_of a c ≤ swing_of a b + swing_of b c
swing_triangle a b c = omega (arith, swing_is a b, swing_is b c, swing_is a c)

pub swing_bound : (a b : ℕ) → swing_of a b ≤ 2048
swing_bound a b = omega (arith, swing_is a b)
