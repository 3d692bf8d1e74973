use Rattle.std.proofs.Common.{arith, rules}
use Rattle.play.proofs.Counting.{lines_within}
use Rattle.play.proofs.report.printed.Goals as goal

pub returns-in-Err-Output : goal.returns-in-Err-Output
returns-in-Err-Output c = record { value = search rules; within = omega (arith, c.lines_len.ensures, lines_within c.in-Err-Output.full.0 c.args.out.now) }
