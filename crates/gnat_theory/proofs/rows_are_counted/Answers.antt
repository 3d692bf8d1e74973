use Rattle.gnat_theory.proofs.Theorems.{rows_counted}
use Rattle.gnat_theory.proofs.rows_are_counted.Goals as goal

pub returns : goal.returns
returns g c = rows_counted g.M.Metric.dist
