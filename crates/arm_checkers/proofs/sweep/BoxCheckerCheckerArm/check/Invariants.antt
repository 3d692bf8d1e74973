use Rattle.std.proofs.Common.{◌≡◌, true, take}
use Rattle.std.specs.List.{list_all}
use Rattle.walls.specs.Walls.{apart}
use Rattle.arm_checkers.proofs.sweep.BoxCheckerCheckerArm.check.Given as goal

-- each wall seen so far is apart from the swept arcs
abbrev pub invariant-loop-wall : goal.invariant-loop-wall
invariant-loop-wall l = list_all (λ w. apart w l.swept) (take l.wall-index l.self.walls.now) ≡ true
