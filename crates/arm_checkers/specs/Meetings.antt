-- When a motion first is in a wall.
use Rattle.std.specs.Prelude.{ℕ, not, List, map, Option}
use Rattle.arm.specs.declared.Arm.{Arm}
use Rattle.turning.specs.Motions.{pose_at, steps_of}
use Rattle.walls.specs.declared.wall.Wall.{Wall}
use Rattle.walls.specs.Walls.{in_wall}
use Rattle.arm_checkers.specs.declared.way.Way.{Way}
use Rattle.arm_checkers.specs.First.{first_from}
use Rattle.arm_checkers.specs.Joints.{joint_angle}
use Rattle.arm_checkers.specs.Passes.{outside}

-- the pose of a motion at a step, its angles joint by joint
unfoldable pub way_pose : Way → ℕ → Arm
way_pose way t = record { angles = map (λ j. joint_angle j t) way.joints }

-- the first step at which the motion from e to f is in a wall
unfoldable pub first_met : Wall → Arm → Arm → Option ℕ
first_met w e f = first_from (λ t. in_wall w (pose_at e f (steps_of e f) t)) 0 (steps_of e f)

-- the first step at which it is in any of the walls
unfoldable pub first_met_of : List Wall → Arm → Arm → Option ℕ
first_met_of walls e f = first_from (λ t. not (outside walls (pose_at e f (steps_of e f) t))) 0 (steps_of e f)
