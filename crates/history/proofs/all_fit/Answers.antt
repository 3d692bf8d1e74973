use Rattle.std.proofs.Common.{sym}
use Rattle.std.proofs.lemmas.Result.{err_from_is_err_and}
use Rattle.history.proofs.Fitting.{fitting_more, fitting_stops, fitting_all}
use Rattle.history.proofs.all_fit.Goals as goal

pub loop-call-preserved : goal.loop-call-preserved
loop-call-preserved g c = fitting_more c.args.hits c.args.numbers c.args.calls.now c.call-item.result c.loop-call.call-index c.loop-call-test.true c.call-item.is (sym c.in_ok-fits.ensures) c.loop-call.invariant

pub returns-in_err-fits : goal.returns-in_err-fits
returns-in_err-fits g c =
    let p = err_from_is_err_and c.from_residual.result c.from_residual.ensures.1 in
    rw (p.1, p.2) (sym (fitting_stops c.args.hits c.args.numbers c.args.calls.now c.call-item.result c.loop-call.call-index c.in_err-fits.field-0.0 c.loop-call-test.true c.call-item.is (sym c.in_err-fits.ensures) c.loop-call.invariant))

pub returns : goal.returns
returns g c = sym (fitting_all c.args.hits c.args.numbers c.args.calls.now c.loop-call.call-index c.loop-call-test.false c.loop-call.invariant)
