-- The way back is the way, reversed. Assumes nothing.
use Rattle.std.proofs.Common.{◌≡◌, ℕ, zero, suc, ◌+◌, ◌-◌, ◌%◌, ◌<◌, ◌≤◌, List, [], ◌∷◌, map, reverse, length, get_or, ℤ, pos, negsuc, ◌+ℤ◌, nat_abs, sym, refl, ap, ◌∙◌, inl, inr, arith}
use Rattle.std.proofs.lemmas.Int.{ints}
use Rattle.std.proofs.lemmas.List.{same_lists, get_or-reverse, length-reverse}
use Rattle.std.proofs.lemmas.List.FromFn.{length-map-range_with_len, get_or-map-range_with_len}
use Rattle.arm.specs.declared.Arm.{Arm}
use Rattle.arm.specs.Turns.{turn_of, swing_of}
use Rattle.arm.specs.Poses.{joint_swing}
use Rattle.arm.specs.Swings.{swing_symmetric}
use Rattle.turning.specs.Circle.{wrap}
use Rattle.turning.specs.Motions.{turned, joint_at, stands, joints, pose_at, greatest, steps_of, motion}
use Rattle.turning.proofs.Circles.{wrap_shift, turn_back, Leads, turn_leads}
use Rattle.turning.proofs.Floors.{turned_back}

-- x and y are the two angles, d the turn between them, done by f on the way and by g on the way back
meets_way : (x y : ℕ) (d f g : ℤ) → Leads x y d → g +ℤ d ≡ f → wrap (pos y +ℤ g) ≡ wrap (pos x +ℤ f)
unfolding Leads
meets_way x y d f g (inl e) h = let s : pos y +ℤ g ≡ pos x +ℤ f = omega (arith, ints) in ap wrap s
meets_way x y d f g (inr (inl e)) h = let s : pos y +ℤ g ≡ (pos x +ℤ f) +ℤ pos 4096 = omega (arith, ints) in ap wrap s ∙ wrap_shift (pos x +ℤ f)
meets_way x y d f g (inr (inr e)) h = let s : (pos y +ℤ g) +ℤ pos 4096 ≡ pos x +ℤ f = omega (arith, ints) in sym (wrap_shift (pos y +ℤ g)) ∙ ap wrap s

-- where nothing turns
still : (a b : ℕ) → swing_of a b ≤ 0 → turn_of a b ≡ pos 0
unfolding swing_of
still a b h = zeroed (turn_of a b) h
  where
    zeroed : (z : ℤ) → nat_abs z ≤ 0 → z ≡ pos 0
    zeroed (pos zero) h = refl
    zeroed (pos (suc n)) h = absurd (omega arith)
    zeroed (negsuc n) h = absurd (omega arith)

pub joint_back : (a b n t : ℕ) → swing_of a b ≤ n → t ≤ n → joint_at b a n (n - t) ≡ joint_at a b n t
unfolding joint_at turned
joint_back a b zero t s l = meets_way (a % 4096) (b % 4096) (turn_of a b) (pos 0) (pos 0) (turn_leads a b) (ap (λ z. pos 0 +ℤ z) (still a b s))
joint_back a b (suc n) t s l =
    ap (λ d. wrap (pos (b % 4096) +ℤ turned d (suc n) (suc n - t))) (turn_back a b)
    ∙ meets_way (a % 4096) (b % 4096) (turn_of a b) _ _ (turn_leads a b) (turned_back (turn_of a b) (suc n) t (omega arith) l)

-- a list made joint by joint
pub joints_same : {X : Type 0} (f g : ℕ → X) → ((i : ℕ) → i < 6 → f i ≡ g i) → map f joints ≡ map g joints
joints_same f g same = same_lists (map f joints) (map g joints) refl
    (λ k d h. get_or-map-range_with_len f 0 6 k k d h (omega arith) ∙ same k h ∙ sym (get_or-map-range_with_len g 0 6 k k d h (omega arith)))

pub steps_back : (e f : Arm) → steps_of f e ≡ steps_of e f
unfolding steps_of
steps_back e f = ap greatest (joints_same (λ i. joint_swing i f e) (λ i. joint_swing i e f) (λ i h. swing_symmetric _ _))

greatest_at : (xs : List ℕ) (i : ℕ) → i < length xs → get_or xs i 0 ≤ greatest xs
greatest_at [] i h = absurd (omega arith)
greatest_at (x ∷ xs) zero h = omega arith
greatest_at (x ∷ xs) (suc i) h = omega (arith, greatest_at xs i (omega arith))

-- no joint turns farther
pub swing_within : (e f : Arm) (i : ℕ) → i < 6 → joint_swing i e f ≤ steps_of e f
unfolding steps_of
swing_within e f i h =
    let swings : ℕ → ℕ = λ j. joint_swing j e f in
    omega (arith, greatest_at (map swings joints) i h, get_or-map-range_with_len swings 0 6 i i 0 h (omega arith))

pose_back : (e f : Arm) (n t : ℕ) → steps_of e f ≤ n → t ≤ n → pose_at f e n (n - t) ≡ pose_at e f n t
unfolding pose_at
pose_back e f n t s l = let same = joints_same (stands f e n (n - t)) (stands e f n t) (λ i h. joint_back _ _ n t (omega (arith, swing_within e f i h)) l) in ap (λ (angles : List ℕ). record { angles = angles }) same

motion_length : (e f : Arm) → length (motion e f) ≡ steps_of e f + 1
unfolding motion
motion_length e f = length-map-range_with_len (pose_at e f (steps_of e f)) 0 (steps_of e f + 1)

motion_at : (e f : Arm) (t : ℕ) (d : Arm) → t ≤ steps_of e f → get_or (motion e f) t d ≡ pose_at e f (steps_of e f) t
unfolding motion
motion_at e f t d h = get_or-map-range_with_len (pose_at e f (steps_of e f)) 0 (steps_of e f + 1) t t d (omega arith) (omega arith)

pub motion_back : (e f : Arm) → motion f e ≡ reverse (motion e f)
motion_back e f = same_lists _ _
    (motion_length f e ∙ ap (λ n. n + 1) (steps_back e f) ∙ sym (motion_length e f) ∙ sym (length-reverse (motion e f)))
    (λ k d h.
    let n : ℕ = steps_of e f in
    let low : k ≤ n = omega (arith, motion_length f e, steps_back e f) in
    let place : length (motion e f) - 1 - k ≡ n - k = omega (arith, motion_length e f) in
    let again : n - (n - k) ≡ k = omega arith in
    motion_at f e k d (omega (arith, steps_back e f))
    ∙ ap (λ m. pose_at f e m k) (steps_back e f)
    ∙ ap (λ j. pose_at f e n j) (sym again)
    ∙ pose_back e f n (n - k) (omega arith) (omega arith)
    ∙ sym (motion_at e f (n - k) d (omega arith))
    ∙ ap (λ j. get_or (motion e f) j d) (sym place)
    ∙ sym (get_or-reverse (motion e f) k d (omega (arith, motion_length e f))))
