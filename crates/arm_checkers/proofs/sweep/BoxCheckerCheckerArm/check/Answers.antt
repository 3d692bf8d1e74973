use Rattle.std.proofs.Common.{sym, ap, ◌∙◌}
use Rattle.std.specs.List.{list_all}
use Rattle.checker.proofs.Seen.{seen_more, seen_all, seen_fault}
use Rattle.walls.specs.Walls.{apart}
use Rattle.arm_checkers.specs.Passes.{box_passes}
use Rattle.arm_checkers.proofs.sweep.BoxCheckerCheckerArm.check.Goals as goal

pub returns-then-not-is_apart : goal.returns-then-not-is_apart
unfolding box_passes
returns-then-not-is_apart c =
    sym (seen_fault (λ w. apart w c.sweep-swept.result) c.args.self.now.walls.now c.loop-wall.wall-index _ c.loop-wall-test.true (sym c.if-not-is_apart.ensures))
    ∙ ap (λ v. list_all (λ w. apart w v) c.args.self.now.walls.now) c.sweep-swept.ensures

pub loop-wall-preserved : goal.loop-wall-preserved
loop-wall-preserved c = seen_more (λ w. apart w c.sweep-swept.result) c.args.self.now.walls.now c.loop-wall.wall-index _ c.loop-wall-test.true c.loop-wall.invariant (sym c.if-not-is_apart.ensures)

pub returns : goal.returns
unfolding box_passes
returns c =
    sym (seen_all (λ w. apart w c.sweep-swept.result) c.args.self.now.walls.now c.loop-wall.wall-index c.loop-wall-test.false c.loop-wall.invariant)
    ∙ ap (λ v. list_all (λ w. apart w v) c.args.self.now.walls.now) c.sweep-swept.ensures
