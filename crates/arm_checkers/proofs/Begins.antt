-- What a look at the first pose of a motion tells, and one at what it sweeps. Assumes nothing.
use Rattle.std.proofs.Common.{◌≡◌, ℕ, zero, suc, ◌+◌, ◌%◌, Bool, false, true, not, List, ℤ, pos, negsuc, ◌+ℤ◌, sym, refl, ap, ◌∙◌, mul-zero, arith}
use Rattle.std.specs.Prelude.{is_none}
use mathlib.Core.Bool.{and-true}
use native.Mathlib.Nat.{zero-div}
use Rattle.std.specs.List.{list_all, range_with_len}
use Rattle.std.proofs.lemmas.Bool.{both_ways}
use Rattle.arm.specs.declared.Arm.{Arm}
use Rattle.arm.specs.Turns.{turn_of}
use Rattle.checker.proofs.Seen.{every_map, every_same, below_each}
use Rattle.turning.specs.Circle.{wrap, ahead, floor}
use Rattle.turning.specs.Arcs.{within}
use Rattle.turning.specs.Motions.{turned, joint_at, stands, joints, pose_at, steps_of, motion}
use Rattle.turning.proofs.Circles.{wrap_pos, ahead_is}
use Rattle.walls.specs.declared.wall.Wall.{Wall}
use Rattle.walls.specs.Arcs.{in_arc}
use Rattle.walls.specs.Walls.{angle_at, arc_at, joint_in, in_wall, apart}
use Rattle.arm_checkers.specs.Meetings.{first_met}
use Rattle.arm_checkers.specs.Passes.{outside, step_passes, swept_box}
use Rattle.arm_checkers.proofs.Firsts.{first_none}
use Rattle.arm_checkers.proofs.Contained.{not_in}

-- nothing of a turn is done at the start
none_yet : (d : ℤ) (n : ℕ) → turned d n 0 ≡ pos 0
unfolding turned floor
none_yet d zero = refl
none_yet (pos p) (suc n) = rw mul-zero (ap pos (zero-div (suc n)))
none_yet (negsuc p) (suc n) = rw mul-zero (ap pos (zero-div (suc n)))

-- so a joint is where it starts
joint_begins : (p u a b n : ℕ) → within p u (joint_at a b n 0) ≡ within p u a
unfolding within joint_at
joint_begins p u a b n =
    let here : wrap (pos (a % 4096) +ℤ turned (turn_of a b) n 0) ≡ a % 4096 % 4096 = ap (λ z. wrap (pos (a % 4096) +ℤ z)) (none_yet (turn_of a b) n) ∙ wrap_pos (a % 4096 + 0) ∙ omega arith in
    let same : ahead p (joint_at a b n 0) ≡ ahead p a = omega (arith, here, ahead_is p (joint_at a b n 0), ahead_is p a) in
    cc

module _ (e f : Arm) where
  wall_begins : (w : Wall) → in_wall w (pose_at e f (steps_of e f) 0) ≡ in_wall w e
  unfolding in_wall pose_at
  wall_begins w = every_same (λ i. in_arc (arc_at w i) (stands e f (steps_of e f) 0 i)) (joint_in w e) (λ i. joint_begins (arc_at w i).start (arc_at w i).extent (angle_at e i) (angle_at f i) (steps_of e f)) joints

  module _ (walls : List Wall) where
    abbrev free : ℕ → Bool
    free t = outside walls (pose_at e f (steps_of e f) t)

    begins : free 0 ≡ outside walls e
    unfolding outside
    begins = every_same (λ w. not (in_wall w (pose_at e f (steps_of e f) 0))) (λ w. not (in_wall w e)) (λ w. ap not (wall_begins w)) walls

    by_steps : step_passes walls e f ≡ list_all free (range_with_len 0 (steps_of e f + 1))
    unfolding step_passes motion
    by_steps = every_map (outside walls) (pose_at e f (steps_of e f)) (range_with_len 0 (steps_of e f + 1))

    -- a motion that begins in a wall does not pass
    pub begins_inside : outside walls e ≡ false → step_passes walls e f ≡ false
    begins_inside inside = elim (step_passes walls e f) as (λ b. step_passes walls e f ≡ b → b ≡ false) [
      | true ↦ λ passes. absurd (both_ways _ (begins ∙ inside) (below_each free (steps_of e f + 1) 0 (sym by_steps ∙ passes) (omega arith)))
      | false ↦ λ blocked. refl
    ] refl

    -- one that does not move passes if it begins outside
    pub still : steps_of e f ≡ 0 → step_passes walls e f ≡ outside walls e
    still none = by_steps ∙ ap (λ n. list_all free (range_with_len 0 (n + 1))) none ∙ and-true (free 0) ∙ begins

  -- a wall apart from what the joints sweep is never met
  pub apart_unmet : (w : Wall) → apart w (swept_box e f) ≡ true → is_none (first_met w e f) ≡ true
  unfolding first_met
  apart_unmet w clear = ap is_none (first_none _ 0 (steps_of e f) (λ t l h. outs (in_wall w (pose_at e f (steps_of e f) t)) (not_in w e f (steps_of e f) t h clear)))
    where
      outs : (b : Bool) → not b ≡ true → b ≡ false
      outs true h = sym h
      outs false h = refl
