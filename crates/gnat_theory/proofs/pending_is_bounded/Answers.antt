use Rattle.gnat_theory.proofs.Theorems.{always_bounded}
use Rattle.gnat_theory.proofs.pending_is_bounded.Goals as goal

pub returns : goal.returns
returns g c = always_bounded g.M.Metric.dist
