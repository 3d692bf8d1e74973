use Rattle.std.proofs.Common.{refl, ◌∙◌, arith}
use Rattle.std.proofs.lemmas.Result.{err_from_is_err_and}
use Rattle.level.specs.Readers.{shown_progress}
use Rattle.level.proofs.Files.{goes_on, stops}
use Rattle.level.proofs.reader.Reader.read_rest.Goals as goal

pub loop-line-init : goal.loop-line-init
loop-line-init g c = (omega arith, omega arith, refl, refl)

pub loop-line-preserved : goal.loop-line-preserved
loop-line-preserved g c = (
  omega (arith, c.loop-line.invariant.0),
  omega (arith, c.loop-line.invariant.1, c.in-Some.ensures.1),
  goes_on (shown_progress c.loop-line.self) c.loop-line.number c.loop-line.rest.now c.in-Some.line.now c.in-Some.behind.now c.in-Some.ensures.0 (shown_progress c.read_line.new.self) c.in_ok-read_line.ensures.told
      ∙ c.loop-line.invariant.2,
  c.in_ok-read_line.ensures.header ∙ c.loop-line.invariant.3,
)

pub returns-in_err-read_line-clause-told : goal.returns-in_err-read_line-clause-told
returns-in_err-read_line-clause-told g c =
    let p = err_from_is_err_and c.from_residual.result c.from_residual.ensures.1 in
    rw (p.1, p.2) (stops (shown_progress c.loop-line.self) c.loop-line.number c.loop-line.rest.now c.in-Some.line.now c.in-Some.behind.now c.in-Some.ensures.0 _ _ c.in_err-read_line.ensures.told ∙ c.loop-line.invariant.2)
