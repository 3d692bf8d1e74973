use Rattle.std.proofs.Common.{sym}
use Rattle.checker.proofs.Seen.{seen_more, seen_all, seen_fault}
use Rattle.card_checker.specs.Passes.{clear, mix_passes}
use Rattle.card_checker.proofs.MixCheckerCheckerCard.check.Goals as goal

pub returns-then-not-is_clear : goal.returns-then-not-is_clear
unfolding mix_passes
returns-then-not-is_clear c = sym (seen_fault (λ w. clear w c.args.a.now c.args.b.now) c.args.self.now.walls.now c.loop-wall.wall-index _ c.loop-wall-test.true (sym c.if-not-is_clear.ensures))

pub loop-wall-preserved : goal.loop-wall-preserved
loop-wall-preserved c = seen_more (λ w. clear w c.args.a.now c.args.b.now) c.args.self.now.walls.now c.loop-wall.wall-index _ c.loop-wall-test.true c.loop-wall.invariant (sym c.if-not-is_clear.ensures)

pub returns : goal.returns
unfolding mix_passes
returns c = sym (seen_all (λ w. clear w c.args.a.now c.args.b.now) c.args.self.now.walls.now c.loop-wall.wall-index c.loop-wall-test.false c.loop-wall.invariant)
