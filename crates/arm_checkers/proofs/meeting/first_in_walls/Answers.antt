use Rattle.std.proofs.Common.{not, ap, ◌∙◌}
use Rattle.std.specs.Prelude.{is_none}
use Rattle.std.proofs.lemmas.List.{take_all}
use Rattle.arm_checkers.specs.First.{first_from}
use Rattle.arm_checkers.specs.Meetings.{way_pose}
use Rattle.arm_checkers.specs.Passes.{outside}
use Rattle.arm_checkers.proofs.Walls.{in_time, passes_all, way_met_of, wall_sooner, wall_no_sooner, no_walls}
use Rattle.arm_checkers.proofs.meeting.first_in_walls.Goals as goal
use Rattle.arm_checkers.proofs.meeting.first_in_walls.Goals.{in-Some, in_default}

pub loop-wall-init : goal.loop-wall-init
loop-wall-init c = no_walls c.new-way.result c.args.walls.now

pub first_in-requires : goal.first_in-requires
first_in-requires c = in_time _ c.new-way.result.steps c.unwrap_or-last.result c.loop-wall.first c.loop-wall.invariant c.unwrap_or-last.ensures

pub loop-wall-preserved : goal.loop-wall-preserved
loop-wall-preserved c = elim c.match-first_in.branch [
  | in-Some w ↦ w.first-is ∙ wall_sooner c.new-way.result c.args.walls.now c.loop-wall.wall-index _ c.loop-wall-test.true c.loop-wall.first c.unwrap_or-last.result c.loop-wall.invariant c.unwrap_or-last.ensures w.in-Some.t w.in-Some.ensures
  | in_default w ↦ w.first-is ∙ wall_no_sooner c.new-way.result c.args.walls.now c.loop-wall.wall-index _ c.loop-wall-test.true c.loop-wall.first c.unwrap_or-last.result c.loop-wall.invariant c.unwrap_or-last.ensures w.in_default.ensures
]

pub returns-clause-first : goal.returns-clause-first
returns-clause-first c =
    c.loop-wall.invariant
    ∙ ap (λ walls. first_from (λ t. not (outside walls (way_pose c.new-way.result t))) 0 c.new-way.result.steps) (take_all c.loop-wall.wall-index c.args.walls.now c.loop-wall-test.false)
    ∙ way_met_of c.args.from.now c.args.to.now c.new-way.result c.new-way.ensures.steps c.new-way.ensures.poses c.args.walls.now

pub returns-clause-passes : goal.returns-clause-passes
returns-clause-passes c = ap is_none (returns-clause-first c) ∙ passes_all c.args.from.now c.args.to.now c.args.walls.now
