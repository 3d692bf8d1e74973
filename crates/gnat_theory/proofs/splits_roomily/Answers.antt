use Rattle.gnat_theory.proofs.Theorems.{splits_roomily}
use Rattle.gnat_theory.proofs.splits_roomily.Goals as goal

pub returns : goal.returns
returns g c = splits_roomily g.M.Metric.dist
