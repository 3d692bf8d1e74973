-- A pose of a motion in a wall, joint by joint, and a motion in one of many walls. Assumes nothing.
use Rattle.std.proofs.Common.{◌≡◌, ℕ, ◌<◌, Bool, true, false, length, get_or, None, Some, sym, refl, ap, ◌∙◌, ⊎_elim}
use Rattle.std.proofs.lemmas.Bool.{cases_lt, both_ways}
use Rattle.std.proofs.lemmas.List.{get_or-map}
use Rattle.arm.specs.declared.Arm.{Arm}
use Rattle.checker.proofs.Seen.{below_each, below_every}
use Rattle.walls.specs.declared.wall.Wall.{Wall}
use Rattle.walls.specs.Arcs.{in_arc}
use Rattle.walls.specs.Walls.{arc_at, joint_in, in_wall}
use Rattle.arm_checkers.specs.declared.joint.Joint.{Joint}
use Rattle.arm_checkers.specs.declared.way.Way.{Way}
use Rattle.arm_checkers.specs.First.{first_from}
use Rattle.arm_checkers.specs.Joints.{joint_angle}
use Rattle.arm_checkers.specs.Meetings.{way_pose}
use Rattle.arm_checkers.proofs.Firsts.{IsFirst, first_none, none_each, some_first}

-- one joint outside its arc is enough
pub one_out : (w : Wall) (e : Arm) (i : ℕ) → i < 6 → joint_in w e i ≡ false → in_wall w e ≡ false
unfolding in_wall
one_out w e i h out = elim (in_wall w e) as (λ b. in_wall w e ≡ b → b ≡ false) [
  | true ↦ λ inside. absurd (both_ways _ out (below_each (joint_in w e) 6 i inside h))
  | false ↦ λ outside. refl
] refl

-- all six in theirs
pub all_in : (w : Wall) (e : Arm) → ((i : ℕ) → i < 6 → joint_in w e i ≡ true) → in_wall w e ≡ true
unfolding in_wall
all_in w e each = below_every (joint_in w e) 6 each

-- the joint at place i is asked from step t on, where the motion is not in the wall at an earlier step; d is any joint
module _ (way : Way) (w : Wall) (i t last : ℕ) (d : Joint) (low : i < length way.joints) (six : i < 6) (before : (s : ℕ) → s < t → in_wall w (way_pose way s) ≡ false) where
  abbrev in_its : ℕ → Bool
  in_its s = in_arc (arc_at w i) (joint_angle (get_or way.joints i d) s)

  alone : (s : ℕ) → joint_in w (way_pose way s) i ≡ in_its s
  unfolding way_pose
  alone s = ap (in_arc (arc_at w i)) (get_or-map (λ j. joint_angle j s) way.joints i d 0 low)

  out_at : (s : ℕ) → in_its s ≡ false → in_wall w (way_pose way s) ≡ false
  out_at s out = one_out w (way_pose way s) i six (alone s ∙ out)

  pub never_met : None ≡ first_from in_its t last → None ≡ first_from (λ s. in_wall w (way_pose way s)) 0 last
  never_met e = sym (first_none _ 0 last (λ s l h. ⊎_elim (before s) (λ g. out_at s (none_each _ t last (sym e) s g h)) (cases_lt s t)))

  module _ (next : ℕ) (e : Some next ≡ first_from in_its t last) where
    pub asked : IsFirst in_its t last next
    asked = some_first _ t last next (sym e)

    pub passed_over : (s : ℕ) → s < next → in_wall w (way_pose way s) ≡ false
    passed_over s h = ⊎_elim (before s) (λ g. out_at s (asked.before s g h)) (cases_lt s t)

    pub comes : joint_in w (way_pose way next) i ≡ true
    comes = alone next ∙ asked.here
