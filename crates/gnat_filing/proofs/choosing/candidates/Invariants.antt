use Rattle.std.proofs.Common.{take}
use Rattle.gnat_filing.proofs.Candidates.{PutDown}
use Rattle.gnat_filing.proofs.choosing.candidates.Given as goal

abbrev pub invariant-loop-row : goal.invariant-loop-row
invariant-loop-row g l = PutDown l.rows (take l.row-index l.l.rows) l.cs.items
