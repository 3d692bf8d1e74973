use Rattle.std.proofs.Common.{◌≡◌, ◌+◌, drop}
use Rattle.printing.specs.Outputs.{lines_length}
use Rattle.play.proofs.report.lines_len.Given as goal

abbrev pub invariant-loop-i : goal.invariant-loop-i
invariant-loop-i l = lines_length l.lines l.out ≡ l.i + lines_length l.left (drop l.i l.out)
