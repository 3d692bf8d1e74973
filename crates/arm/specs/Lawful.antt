-- The distance of two poses is lawful. Assumes nothing.
use Rattle.std.specs.Prelude.{◌≡◌, ℕ, ◌+◌, ◌≤◌}
use Rattle.std.proofs.Common.{arith}
use Rattle.metric.specs.Laws.{MetricLaws}
use Rattle.arm.specs.declared.Arm.{Arm}
use Rattle.arm.specs.Poses.{joint_swing, pose_distance}
use Rattle.arm.specs.Swings.{swing_zero, swing_symmetric, swing_triangle, swing_bound}

-- each law holds joint by joint
pub arm_lawful : MetricLaws 180224 pose_distance
arm_lawful = record {
  zero = λ e. omega (arith, swing_zero);
  symmetric = λ e f. omega (arith, turned e f 0, turned e f 1, turned e f 2, turned e f 3, turned e f 4, turned e f 5);
  triangle = λ e f g. omega (arith, over e f g 0, over e f g 1, over e f g 2, over e f g 3, over e f g 4, over e f g 5);
  bounded = λ e f. omega (arith, swing_bound);
  small = omega arith;
}
  where
    turned : (e f : Arm) (i : ℕ) → joint_swing i e f ≡ joint_swing i f e
    turned e f i = swing_symmetric _ _

    over : (e f g : Arm) (i : ℕ) → joint_swing i e g ≤ joint_swing i e f + joint_swing i f g
    over e f g i = swing_triangle _ _ _
