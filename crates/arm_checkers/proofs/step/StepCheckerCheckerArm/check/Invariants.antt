use Rattle.std.proofs.Common.{◌≡◌, true, take}
use Rattle.std.specs.Prelude.{is_none}
use Rattle.std.specs.List.{list_all}
use Rattle.arm_checkers.specs.Meetings.{first_met}
use Rattle.arm_checkers.proofs.step.StepCheckerCheckerArm.check.Given as goal

-- no wall seen so far is met
abbrev pub invariant-loop-wall : goal.invariant-loop-wall
invariant-loop-wall l = list_all (λ w. is_none (first_met w l.a l.b)) (take l.wall-index l.self.walls.now) ≡ true
