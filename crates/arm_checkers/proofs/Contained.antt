-- Step passes all that Box passes. Assumes nothing.
use Rattle.std.proofs.Common.{◌≡◌, ℕ, ◌+◌, ◌<◌, ◌≤◌, Bool, true, false, not, List, sym, refl, ap, ◌∙◌, arith}
use Rattle.std.specs.List.{range_with_len}
use Rattle.std.proofs.lemmas.List.FromFn.{get_or-map-range_with_len}
use Rattle.std.proofs.lemmas.Bool.{both_ways}
use Rattle.arm.specs.declared.Arm.{Arm}
use Rattle.arm.specs.Turns.{swing_of}
use Rattle.checker.proofs.Seen.{every_map, every_weaker, below_each, below_every, below_none}
use Rattle.turning.specs.Arcs.{swept_from}
use Rattle.turning.specs.Motions.{stands, pose_at, steps_of, motion}
use Rattle.turning.proofs.Sweeps.{shared_meet, joint_swept}
use Rattle.walls.specs.declared.wall.Wall.{Wall}
use Rattle.walls.specs.Arcs.{in_arc, meet}
use Rattle.walls.specs.Walls.{angle_at, arc_at, joint_in, in_wall, joint_apart, apart}
use Rattle.arm_checkers.specs.Passes.{outside, step_passes, swept, swept_box, box_passes, BoxWithinStep}

module _ (w : Wall) (e f : Arm) (n t : ℕ) (low : t ≤ n) where
  -- an arc that has a joint's angle on the way meets the arc that the joint sweeps
  meets_swept : (i : ℕ) → i < 6 → joint_in w (pose_at e f n t) i ≡ true → not (joint_apart w (swept_box e f) i) ≡ true
  unfolding pose_at swept_box swept
  meets_swept i h inside =
      let angle : angle_at (pose_at e f n t) i ≡ stands e f n t i = get_or-map-range_with_len (stands e f n t) 0 6 i i 0 h (omega arith) in
      let arc : arc_at (swept_box e f) i ≡ swept (angle_at e i) (angle_at f i) = get_or-map-range_with_len (λ j. swept (angle_at e j) (angle_at f j)) 0 6 i i _ h (omega arith) in
      let here : in_arc (arc_at w i) (stands e f n t i) ≡ true = ap (in_arc (arc_at w i)) (sym angle) ∙ inside in
      ap (λ c. not (not (meet (arc_at w i) c))) arc
      ∙ ap (λ r. not (not r)) (shared_meet (arc_at w i).start (arc_at w i).extent (swept_from (angle_at e i) (angle_at f i)) (swing_of (angle_at e i) (angle_at f i)) (stands e f n t i) here (joint_swept (angle_at e i) (angle_at f i) n t low))

  -- a wall that a pose on the way is in is not apart from what is swept
  not_apart : in_wall w (pose_at e f n t) ≡ true → apart w (swept_box e f) ≡ false
  unfolding in_wall apart
  not_apart inside = below_none (joint_apart w (swept_box e f)) 6 6 (omega arith)
      (below_every (λ i. not (joint_apart w (swept_box e f) i)) 6 (λ i h. meets_swept i h (below_each (joint_in w (pose_at e f n t)) 6 i inside h)))

  -- and a wall that is apart has no pose on the way in it
  pub not_in : apart w (swept_box e f) ≡ true → not (in_wall w (pose_at e f n t)) ≡ true
  not_in free = turned (in_wall w (pose_at e f n t)) not_apart
    where
      turned : (b : Bool) → (b ≡ true → apart w (swept_box e f) ≡ false) → not b ≡ true
      turned true h = absurd (both_ways _ (h refl) free)
      turned false h = refl

pub box_within_step : (walls : List Wall) → BoxWithinStep walls
unfolding step_passes box_passes outside motion
box_within_step walls e f free =
    every_map (outside walls) (pose_at e f (steps_of e f)) (range_with_len 0 (steps_of e f + 1))
    ∙ below_every (λ t. outside walls (pose_at e f (steps_of e f) t)) (steps_of e f + 1)
    (λ t h. every_weaker (λ w. apart w (swept_box e f)) (λ w. not (in_wall w (pose_at e f (steps_of e f) t))) (λ w. not_in w e f (steps_of e f) t (omega arith)) walls free)
