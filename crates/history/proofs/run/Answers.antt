use Rattle.std.proofs.Common.{◌<◌, length, arith, length-set, rules}
use Rattle.history.proofs.Asking.{ran_none, ran_more, ran_all}
use Rattle.history.proofs.run.Goals as goal

pub offset_bounds-answers-i : goal.offset_bounds-answers-i
offset_bounds-answers-i g c = let h : c.loop-i.i < length c.args.answers.now = omega (arith, c.loop-i-test.true, c.requires) in search rules

pub loop-i-init : goal.loop-i-init
loop-i-init g c = (c.requires, ran_none g.I.Element.Metric.dist g.C.Checker.passes _ _)

pub loop-i-preserved : goal.loop-i-preserved
loop-i-preserved g c =
    let lt : c.loop-i.i < length c.loop-i.answers = omega (arith, c.loop-i-test.true, c.loop-i.invariant.0) in
    (simp length-set c.loop-i.invariant.0, ran_more g.I.Element.Metric.dist g.C.Checker.passes _ _ _ c.args.calls.now c.index-calls-i.result _ _ _ c.loop-i.answers c.ask.result c.loop-i.i c.loop-i-test.true lt c.index-calls-i.is c.loop-i.invariant.1 c.ask.ensures.does)

pub returns : goal.returns
returns g c = record { ran = ran_all g.I.Element.Metric.dist g.C.Checker.passes _ _ c.args.calls.now _ _ c.loop-i.answers c.loop-i.i c.loop-i-test.false (omega (arith, c.loop-i-test.false, c.loop-i.invariant.0)) c.loop-i.invariant.1 }
