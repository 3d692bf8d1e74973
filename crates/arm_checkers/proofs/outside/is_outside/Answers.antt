use Rattle.std.proofs.Common.{not, sym, ap}
use Rattle.checker.proofs.Seen.{seen_more, seen_all, seen_fault}
use Rattle.walls.specs.Walls.{in_wall}
use Rattle.arm_checkers.specs.Passes.{outside}
use Rattle.arm_checkers.proofs.outside.is_outside.Goals as goal

pub returns-then-contains : goal.returns-then-contains
unfolding outside
returns-then-contains c = sym (seen_fault (λ w. not (in_wall w c.args.pose.now)) c.args.walls.now c.loop-wall.wall-index _ c.loop-wall-test.true (ap not (sym c.if-contains.ensures)))

pub loop-wall-preserved : goal.loop-wall-preserved
loop-wall-preserved c = seen_more (λ w. not (in_wall w c.args.pose.now)) c.args.walls.now c.loop-wall.wall-index _ c.loop-wall-test.true c.loop-wall.invariant (ap not (sym c.if-contains.ensures))

pub returns : goal.returns
unfolding outside
returns c = sym (seen_all (λ w. not (in_wall w c.args.pose.now)) c.args.walls.now c.loop-wall.wall-index c.loop-wall-test.false c.loop-wall.invariant)
