-- Remainders round the circle, and the turn between two angles. Assumes nothing.
use Rattle.std.proofs.Common.{◌≡◌, ℕ, zero, suc, ◌+◌, ◌-◌, ◌%◌, ◌<◌, ◌≤◌, true, false, cond, ◌⊎◌, ℤ, pos, negsuc, ◌+ℤ◌, ◌-ℤ◌, neg_ℤ, sym, refl, ap, ◌∙◌, inl, inr, ⊎_elim, arith}
use lib.Signed.{lt_z}
use Rattle.std.proofs.lemmas.Int.{ints}
use Rattle.std.proofs.lemmas.Bool.{cases_lt}
use Rattle.arm.specs.Turns.{turn_by, turn_of}
use Rattle.turning.specs.Circle.{wrap, ahead}

pub wrap_pos : (a : ℕ) → wrap (pos a) ≡ a % 4096
unfolding wrap
wrap_pos a = refl

-- what is left of a division by a full turn is less than a full turn, so angles of poses are remainders
pub wrap_under : (z : ℤ) → wrap z < 4096
unfolding wrap
wrap_under (pos a) = omega arith
wrap_under (negsuc a) = omega arith

-- a full turn changes nothing
pub wrap_shift : (z : ℤ) → wrap (z +ℤ pos 4096) ≡ wrap z
unfolding wrap
wrap_shift (pos a) = omega arith
wrap_shift (negsuc a) = ⊎_elim
    (λ l. let z : negsuc a +ℤ pos 4096 ≡ pos (4095 - a) = omega (arith, ints) in ap wrap z ∙ omega arith)
    (λ l. let z : negsuc a +ℤ pos 4096 ≡ negsuc (a - 4096) = omega (arith, ints) in ap wrap z ∙ omega arith)
    (cases_lt a 4096)

-- an angle, and what is taken from it
pub wrap_less : (x k : ℕ) → k ≤ 4096 → wrap (pos x -ℤ pos k) ≡ (x + (4096 - k)) % 4096
wrap_less x k h =
    let z : (pos x -ℤ pos k) +ℤ pos 4096 ≡ pos (x + (4096 - k)) = omega (arith, ints) in
    sym (wrap_shift (pos x -ℤ pos k)) ∙ ap wrap z ∙ wrap_pos (x + (4096 - k))

-- without signs
pub ahead_is : (p q : ℕ) → ahead p q ≡ (q % 4096 + (4096 - p % 4096)) % 4096
unfolding ahead wrap
ahead_is p q = ⊎_elim
    (λ l. let z : pos q -ℤ pos p ≡ negsuc (p - suc q) = omega (arith, ints) in ap wrap z ∙ omega arith)
    (λ l. let z : pos q -ℤ pos p ≡ pos (q - p) = omega (arith, ints) in ap wrap z ∙ omega arith)
    (cases_lt q p)

by_neg : (d : ℤ) → turn_by (neg_ℤ d) ≡ neg_ℤ (turn_by d)
unfolding turn_by
by_neg (pos zero) = refl
by_neg (pos (suc a)) = grind (arith, ints)
by_neg (negsuc a) = grind (arith, ints)

-- the turn back is the turn, the other way round
pub turn_back : (a b : ℕ) → turn_of b a ≡ neg_ℤ (turn_of a b)
unfolding turn_of
turn_back a b =
    let z : pos (a % 4096) -ℤ pos (b % 4096) ≡ neg_ℤ (pos (b % 4096) -ℤ pos (a % 4096)) = omega (arith, ints) in
    ap turn_by z ∙ by_neg (pos (b % 4096) -ℤ pos (a % 4096))

-- a turn is the difference of the angles, or lacks a full turn of it, or has one too many
unfoldable pub Leads : ℕ → ℕ → ℤ → Type 0
Leads x y d = (d ≡ pos y -ℤ pos x) ⊎ ((d +ℤ pos 4096 ≡ pos y -ℤ pos x) ⊎ (d ≡ (pos y -ℤ pos x) +ℤ pos 4096))

by_leads : (x y : ℕ) → Leads x y (turn_by (pos y -ℤ pos x))
unfolding turn_by Leads
by_leads x y =
    let d : ℤ = pos y -ℤ pos x in
    elim (lt_z (pos 2048) d) as (λ p. Leads x y (cond p (d -ℤ pos 4096) (cond (lt_z d (negsuc 2047)) (d +ℤ pos 4096) d))) [
      | true ↦ inr (inl (omega (arith, ints)))
      | false ↦ elim (lt_z d (negsuc 2047)) as (λ q. Leads x y (cond q (d +ℤ pos 4096) d)) [ true ↦ inr (inr refl) | false ↦ inl refl ]
    ]

pub turn_leads : (a b : ℕ) → Leads (a % 4096) (b % 4096) (turn_of a b)
unfolding turn_of
turn_leads a b = by_leads (a % 4096) (b % 4096)
