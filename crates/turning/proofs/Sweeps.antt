-- A joint stays in the arc that it sweeps, and arcs that share an angle meet. Assumes nothing.
use Rattle.std.proofs.Common.{◌≡◌, ℕ, zero, suc, ◌+◌, ◌-◌, ◌%◌, ◌<◌, ◌≤◌, true, cond, ◌||◌, leb, ℤ, pos, negsuc, ◌+ℤ◌, neg_ℤ, nat_abs, sym, ap, ◌∙◌, inl, inr, ⊎_elim, arith}
use mathlib.Core.Bool.{or-true}
use lib.Signed.{le_z}
use Rattle.std.proofs.lemmas.Int.{ints}
use Rattle.std.proofs.lemmas.Bool.{leb-true, le-leb, cases_lt}
use Rattle.arm.specs.Turns.{turn_of, swing_of}
use Rattle.arm.specs.Swings.{swing_bound}
use Rattle.turning.specs.Circle.{wrap, ahead}
use Rattle.turning.specs.Motions.{turned, joint_at}
use Rattle.turning.specs.Arcs.{within, meeting, swept_from}
use Rattle.turning.proofs.Circles.{wrap_pos, wrap_less, ahead_is, turn_back, Leads, turn_leads}
use Rattle.turning.proofs.Floors.{turned_up, turned_down}

-- of two angles behind x, the farther one has the nearer one ahead, and no farther than x
between : (p q x : ℕ) → ahead p x ≤ ahead q x → ahead q p ≤ ahead q x
between p q x h = omega (arith, ahead_is p x, ahead_is q x, ahead_is q p)

-- arcs that share an angle meet
pub shared_meet : (p u q v x : ℕ) → within p u x ≡ true → within q v x ≡ true → meeting p u q v ≡ true
unfolding within meeting
shared_meet p u q v x left right =
    let near = leb-true (ahead p x) (u % 4096) left in
    let far = leb-true (ahead q x) (v % 4096) right in
    ⊎_elim
    (λ h. ap (λ t. within p u q || t) (le-leb (ahead q p) (v % 4096) (omega (arith, between p q x (omega arith)))) ∙ or-true (within p u q))
    (λ h. ap (λ t. t || within q v p) (le-leb (ahead p q) (u % 4096) (omega (arith, between q p x (omega arith)))))
    (cases_lt (ahead p x) (ahead q x))

start_back : (x y : ℕ) (d : ℤ) → x < 4096 → y < 4096 → Leads x y d → cond (le_z (pos 0) (neg_ℤ d)) y x ≡ cond (le_z (pos 0) d) x y
unfolding Leads
start_back x y (pos zero) hx hy (inl e) = omega (arith, ints)
start_back x y (pos zero) hx hy (inr (inl e)) = absurd (omega (arith, ints))
start_back x y (pos zero) hx hy (inr (inr e)) = absurd (omega (arith, ints))
start_back x y (pos (suc n)) hx hy leads = ap (λ t. cond t x y) (sym (le-leb 0 (suc n) (omega arith)))
start_back x y (negsuc n) hx hy leads = ap (λ t. cond t y x) (le-leb 0 (suc n) (omega arith))

-- the way back sweeps the same arc
pub swept_back : (a b : ℕ) → swept_from b a ≡ swept_from a b
unfolding swept_from
swept_back a b =
    ap (λ d. cond (le_z (pos 0) d) (b % 4096) (a % 4096)) (turn_back a b)
    ∙ start_back (a % 4096) (b % 4096) (turn_of a b) (omega arith) (omega arith) (turn_leads a b)

-- a turn downward leads from its lower end up to its start
lower : (x y p : ℕ) → x < 4096 → y < 4096 → suc p ≤ 2048 → Leads x y (negsuc p) → (y + suc p) % 4096 ≡ x
unfolding Leads
lower x y p hx hy small (inl e) = let z : y + suc p ≡ x = omega (arith, ints) in omega arith
lower x y p hx hy small (inr (inl e)) = let z : y + suc p ≡ x + 4096 = omega (arith, ints) in omega arith
lower x y p hx hy small (inr (inr e)) = absurd (omega (arith, ints))

-- what lies j ahead
ahead_by : (x j : ℕ) → x < 4096 → j < 4096 → ahead x ((x + j) % 4096) ≡ j
ahead_by x j hx hj = omega (arith, ahead_is x ((x + j) % 4096))

stays : (x y n t : ℕ) (d : ℤ) → x < 4096 → y < 4096 → nat_abs d ≤ 2048 → t ≤ n → Leads x y d → ahead (cond (le_z (pos 0) d) x y) (wrap (pos x +ℤ turned d n t)) ≤ nat_abs d
stays x y n t (pos p) hx hy small l leads =
    let up = turned_up p n t l in
    let at : wrap (pos x +ℤ turned (pos p) n t) ≡ (x + up.0) % 4096 = ap (λ z. wrap (pos x +ℤ z)) up.2 ∙ wrap_pos (x + up.0) in
    let less = up.1 in
    let from : cond (leb 0 p) x y ≡ x = ap (λ t. cond t x y) (le-leb 0 p (omega arith)) in
    rw (from, at) (omega (arith, ahead_by x up.0 hx (omega arith)))
stays x y n t (negsuc p) hx hy small l leads =
    let down = turned_down (suc p) n t l in
    let less = down.1 in
    let at : wrap (pos x +ℤ turned (negsuc p) n t) ≡ (x + (4096 - down.0)) % 4096 = ap (λ z. wrap (pos x +ℤ z)) down.2 ∙ wrap_less x down.0 (omega arith) in
    let same : (x + (4096 - down.0)) % 4096 ≡ (y + (suc p - down.0)) % 4096 = omega (arith, lower x y p hx hy small leads) in
    rw (at, same) (omega (arith, ahead_by y (suc p - down.0) hy (omega arith)))

-- a joint is never outside the arc that it sweeps
pub joint_swept : (a b n t : ℕ) → t ≤ n → within (swept_from a b) (swing_of a b) (joint_at a b n t) ≡ true
unfolding within swept_from swing_of joint_at
joint_swept a b n t l = le-leb _ _ (omega (arith, swing_bound a b, stays (a % 4096) (b % 4096) n t (turn_of a b) (omega arith) (omega arith) (swing_bound a b) l (turn_leads a b)))
