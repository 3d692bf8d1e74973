use Rattle.std.proofs.Common.{◌≡◌, take, Ok}
use Rattle.history.specs.Fitting.{fitting}
use Rattle.history.proofs.all_fit.Given as goal

abbrev pub invariant-loop-call : goal.invariant-loop-call
invariant-loop-call g l = fitting l.hits l.numbers (take l.call-index l.calls) ≡ Ok tt
