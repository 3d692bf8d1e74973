use Rattle.std.proofs.Common.{◌≡◌, true, not, take}
use Rattle.std.specs.List.{list_all}
use Rattle.walls.specs.Walls.{in_wall}
use Rattle.arm_checkers.proofs.outside.is_outside.Given as goal

-- the pose is in no wall seen so far
abbrev pub invariant-loop-wall : goal.invariant-loop-wall
invariant-loop-wall l = list_all (λ w. not (in_wall w l.pose)) (take l.wall-index l.walls) ≡ true
