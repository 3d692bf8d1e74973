use Rattle.std.proofs.Common.{◌≡◌, not, take}
use Rattle.arm_checkers.specs.First.{first_from}
use Rattle.arm_checkers.specs.Meetings.{way_pose}
use Rattle.arm_checkers.specs.Passes.{outside}
use Rattle.arm_checkers.proofs.meeting.first_in_walls.Given as goal

-- the first step at which a wall seen so far is met
abbrev pub invariant-loop-wall : goal.invariant-loop-wall
invariant-loop-wall l = l.first ≡ first_from (λ t. not (outside (take l.wall-index l.walls) (way_pose l.way t))) 0 l.way.steps
