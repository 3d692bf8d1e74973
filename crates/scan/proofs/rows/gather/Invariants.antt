use Rattle.scan.proofs.Gathering.{Gathered}
use Rattle.scan.proofs.rows.gather.Given as goal

abbrev pub invariant-loop-row : goal.invariant-loop-row
invariant-loop-row g l = Gathered g.E.Metric.dist l.q l.radius l.rows l.row-index l.found l.held l.list l.initial.list
