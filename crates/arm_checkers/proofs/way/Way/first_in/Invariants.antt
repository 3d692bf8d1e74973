use Rattle.std.proofs.Common.{◌≡◌, ℕ, ◌+◌, ◌-◌, ◌*◌, ◌<◌, ◌≤◌, true, false}
use Rattle.walls.specs.Walls.{joint_in, in_wall}
use Rattle.arm_checkers.specs.Meetings.{way_pose}
use Rattle.arm_checkers.proofs.way.Way.first_in.Given as goal

-- the motion is not in the wall at an earlier step, and the joints asked since this one was reached are in their arcs at it
abbrev pub invariant-loop-joint : goal.invariant-loop-joint
invariant-loop-joint l = record {
  in_time : l.t ≤ l.last;
  asked : l.joint ≤ 6;
  before : (s : ℕ) → s < l.t → in_wall l.wall (way_pose l.self s) ≡ false;
  here : (i : ℕ) → i < l.joint → joint_in l.wall (way_pose l.self l.t) i ≡ true;
}

-- the steps that are left count more than the joints that are
abbrev pub decreases-loop-joint : goal.decreases-loop-joint
decreases-loop-joint l = 7 * (l.last - l.t) + (6 - l.joint)
