use Rattle.std.proofs.Common.{sym}
use Rattle.arm_checkers.proofs.Contained.{box_within_step}
use Rattle.arm_checkers.proofs.verdicts.both.Goals as goal

pub returns-then-check : goal.returns-then-check
returns-then-check c = record {
  stepped = sym (box_within_step c.args.walls.now c.args.a.now c.args.b.now (sym c.if-check.ensures));
  boxed = c.if-check.ensures;
  within = box_within_step c.args.walls.now;
}

pub returns : goal.returns
returns c = record { stepped = c.check-2.ensures; boxed = c.if-check.ensures; within = box_within_step c.args.walls.now }
