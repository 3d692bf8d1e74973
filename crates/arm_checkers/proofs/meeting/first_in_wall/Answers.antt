use Rattle.std.proofs.Common.{◌∙◌}
use Rattle.arm_checkers.proofs.Walls.{way_met}
use Rattle.arm_checkers.proofs.meeting.first_in_wall.Goals as goal

pub returns : goal.returns
returns c = c.first_in.ensures ∙ way_met c.args.from.now c.args.to.now c.new-way.result c.new-way.ensures.steps c.new-way.ensures.poses c.args.wall.now
