use Rattle.gnat_filing.specs.Choosing.{rows_of}
use Rattle.gnat_filing.specs.Filling.{Fills}
use Rattle.gnat_filing.proofs.splitting.fill.Given as goal

abbrev pub invariant-loop-c : goal.invariant-loop-c
invariant-loop-c g l = Fills g.E.Metric.dist l.c-index l.initial.rows l.rows l.initial.b l.b (rows_of l.cs)
