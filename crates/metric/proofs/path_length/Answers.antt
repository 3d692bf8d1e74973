use Rattle.std.proofs.Common.{take, ap, ◌∙◌, arith}
use Rattle.std.specs.Slice.Iter.{windows_rest}
use Rattle.metric.proofs.Steps.{first_step, no_step, path_fits, measured_short}
use Rattle.metric.proofs.path_length.Goals as goal

pub overflow_add-total : goal.overflow_add-total
overflow_add-total g c =
    let dist = g.M.Metric.dist in
    let s = c.in-Some.ensures.steps in
    let step = first_step dist (windows_rest c.loop-step.step-iterator) c.in-Some.step.now c.index-step-0.result c.index-step-1.result (omega (arith, s.1.0, c.loop-step.invariant.2)) (s.1.1 ∙ ap (λ n. take n (windows_rest c.loop-step.step-iterator)) c.loop-step.invariant.2) c.index-step-0.is c.index-step-1.is in
    omega (arith, step, c.distance-total.ensures, c.loop-step.invariant.3, path_fits dist g.M.Metric.laws c.args.path.now c.if-path-gt1024.false)

pub returns : goal.returns
returns g c =
    let dist = g.M.Metric.dist in
    let path = c.args.path.now in
    let s = c.in-None.ensures.steps in
    let none = no_step dist (windows_rest c.loop-step.step-iterator) (omega (arith, s.1.0, c.loop-step.invariant.2)) in
    measured_short dist path c.loop-step.total c.if-path-gt1024.false (omega (arith, none, c.loop-step.invariant.3))
