-- The same numbers as a machine computes them, within 32 bits. Assumes nothing.
use Rattle.std.proofs.Common.{◌≡◌, ℕ, zero, suc, ◌*◌, ◌<◌, ◌≤◌, max, ℤ, pos, negsuc, ◌+ℤ◌, ◌*ℤ◌, neg_ℤ, nat_abs, refl, ◌∙◌, mul-le-mul, div-le_self, arith, w32, SFits, to_z, of_z}
use native.Mathlib.Nat.{max-zero}
use Rattle.std.specs.Int.{int_div_euclid, int_rem_euclid}
use Rattle.std.proofs.lemmas.Int.{ints, to_z-of_z}
use Rattle.turning.specs.Circle.{floor, wrap}
use Rattle.turning.specs.Motions.{turned}

pub floor_euclid : (z : ℤ) (n : ℕ) → int_div_euclid z (pos n) ≡ floor z n
unfolding floor
floor_euclid (pos a) n = refl
floor_euclid (negsuc a) n = refl

pub wrap_euclid : (z : ℤ) → int_rem_euclid z (pos 4096) ≡ pos (wrap z)
unfolding wrap
wrap_euclid (pos a) = refl
wrap_euclid (negsuc a) = refl

pub turned_none : (d : ℤ) (t : ℕ) → turned d 0 t ≡ pos 0
unfolding turned
turned_none d t = refl

pub turned_some : (d : ℤ) (n t : ℕ) → 0 < n → turned d n t ≡ floor (d *ℤ pos t) n
unfolding turned
turned_some d zero t h = absurd (omega arith)
turned_some d (suc n) t h = refl

floor_size : (z : ℤ) (n : ℕ) → nat_abs (floor z n) ≤ nat_abs z
unfolding floor
floor_size (pos a) n = div-le_self a n
floor_size (negsuc a) n = omega (arith, div-le_self a n)

neg_size : (j : ℕ) → nat_abs (neg_ℤ (pos j)) ≡ j
neg_size zero = refl
neg_size (suc j) = refl

product_size : (d : ℤ) (t : ℕ) → nat_abs d ≤ 2048 → t ≤ 65535 → nat_abs (d *ℤ pos t) ≤ 134215680
product_size (pos a) t small l = let m : a * t ≤ 2048 * 65535 = mul-le-mul small l in omega arith
product_size (negsuc a) t small l = let m : suc a * t ≤ 2048 * 65535 = mul-le-mul small l in omega (arith, neg_size (suc a * t))

pub size_fits : (z : ℤ) → nat_abs z ≤ 2147483647 → SFits w32 z
size_fits (pos a) h = record { sfits = omega arith }
size_fits (negsuc a) h = record { sfits = omega arith }

-- the product of a turn and a step, as a machine holds its parts
pub product_fits : (x y d : ℤ) (t : ℕ) → x ≡ d → y ≡ pos t → nat_abs d ≤ 2048 → t ≤ 65535 → SFits w32 (x *ℤ y)
product_fits x y d t ex ey small l = rw (ex, ey) (size_fits (d *ℤ pos t) (omega (arith, product_size d t small l)))

pub product_held : (x y d : ℤ) (t : ℕ) → x ≡ d → y ≡ pos t → nat_abs d ≤ 2048 → t ≤ 65535 → to_z w32 (of_z w32 (x *ℤ y)) ≡ d *ℤ pos t
product_held x y d t ex ey small l = to_z-of_z w32 (x *ℤ y) (product_fits x y d t ex ey small l) ∙ rw (ex, ey) refl

pub turned_size : (d : ℤ) (n t : ℕ) → nat_abs d ≤ 2048 → t ≤ 65535 → nat_abs (turned d n t) ≤ 134215680
unfolding turned
turned_size d zero t small l = omega arith
turned_size d (suc n) t small l = omega (arith, floor_size (d *ℤ pos t) (suc n), product_size d t small l)

within_sum : (a : ℕ) (z : ℤ) → a < 4096 → nat_abs z ≤ 134215680 → SFits w32 (pos a +ℤ z)
within_sum a (pos b) h small = record { sfits = omega arith }
within_sum a (negsuc b) h small = omega (arith, ints)

-- the sum of an angle and what is done of a turn, as a machine holds its parts
pub sum_fits : (x y d : ℤ) (a : ℕ) → x ≡ pos a → y ≡ d → a < 4096 → nat_abs d ≤ 134215680 → SFits w32 (x +ℤ y)
sum_fits x y d a ex ey h small = rw (ex, ey) (within_sum a d h small)

pub sum_held : (x y d : ℤ) (a : ℕ) → x ≡ pos a → y ≡ d → a < 4096 → nat_abs d ≤ 134215680 → to_z w32 (of_z w32 (x +ℤ y)) ≡ pos a +ℤ d
sum_held x y d a ex ey h small = to_z-of_z w32 (x +ℤ y) (sum_fits x y d a ex ey h small) ∙ rw (ex, ey) refl

max_right : (a b c : ℕ) → max (max a b) c ≡ max a (max b c)
max_right a b c = omega arith

pub greatest_six : (a b c d e f : ℕ) → max (max (max (max (max a b) c) d) e) f ≡ max a (max b (max c (max d (max e (max f 0)))))
greatest_six a b c d e f = simp (max_right, max-zero)
