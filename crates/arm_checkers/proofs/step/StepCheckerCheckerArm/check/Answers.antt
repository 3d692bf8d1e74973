use Rattle.std.proofs.Common.{not, sym, ap, ◌∙◌}
use Rattle.std.specs.Prelude.{is_none}
use Rattle.checker.proofs.Seen.{seen_more, seen_all, seen_fault}
use Rattle.walls.specs.Walls.{apart}
use Rattle.arm_checkers.specs.Meetings.{first_met}
use Rattle.arm_checkers.proofs.Begins.{begins_inside, still, apart_unmet}
use Rattle.arm_checkers.proofs.Walls.{passes_each, way_met, some_or_none}
use Rattle.arm_checkers.proofs.step.StepCheckerCheckerArm.check.Goals as goal

pub returns-then-not-is_outside : goal.returns-then-not-is_outside
returns-then-not-is_outside c = sym (begins_inside c.args.a.now c.args.b.now c.args.self.now.walls.now (sym c.if-not-is_outside.ensures))

pub returns-then-steps-eq0 : goal.returns-then-steps-eq0
returns-then-steps-eq0 c = c.if-not-is_outside.ensures ∙ sym (still c.args.a.now c.args.b.now c.args.self.now.walls.now (sym c.steps.ensures.value ∙ c.if-steps-eq0.true))

pub loop-wall-preserved-then-is_apart : goal.loop-wall-preserved-then-is_apart
loop-wall-preserved-then-is_apart c = seen_more (λ w. is_none (first_met w c.args.a.now c.args.b.now)) c.args.self.now.walls.now c.loop-wall.wall-index _ c.loop-wall-test.true c.loop-wall.invariant (apart_unmet c.args.a.now c.args.b.now _ (ap (apart _) (sym c.sweep-swept.ensures) ∙ sym c.if-is_apart.ensures))

pub returns-then-is_some : goal.returns-then-is_some
returns-then-is_some c =
    let met = c.first_in.ensures ∙ way_met c.args.a.now c.args.b.now c.new-way.result c.new-way.ensures.steps c.new-way.ensures.poses _ in
    sym (passes_each c.args.a.now c.args.b.now c.args.self.now.walls.now
    ∙ seen_fault (λ w. is_none (first_met w c.args.a.now c.args.b.now)) c.args.self.now.walls.now c.loop-wall.wall-index _ c.loop-wall-test.true (ap is_none (sym met) ∙ some_or_none c.first_in.result ∙ ap not (sym c.if-is_some.ensures)))

pub loop-wall-preserved : goal.loop-wall-preserved
loop-wall-preserved c =
    let met = c.first_in.ensures ∙ way_met c.args.a.now c.args.b.now c.new-way.result c.new-way.ensures.steps c.new-way.ensures.poses _ in
    seen_more (λ w. is_none (first_met w c.args.a.now c.args.b.now)) c.args.self.now.walls.now c.loop-wall.wall-index _ c.loop-wall-test.true c.loop-wall.invariant (ap is_none (sym met) ∙ some_or_none c.first_in.result ∙ ap not (sym c.if-is_some.ensures))

pub returns : goal.returns
returns c = sym (passes_each c.args.a.now c.args.b.now c.args.self.now.walls.now ∙ seen_all (λ w. is_none (first_met w c.args.a.now c.args.b.now)) c.args.self.now.walls.now c.loop-wall.wall-index c.loop-wall-test.false c.loop-wall.invariant)
