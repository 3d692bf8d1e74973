use Rattle.gnat_theory.proofs.Theorems.{outside_is_beyond}
use Rattle.gnat_theory.proofs.outside_is_beyond.Goals as goal

pub returns : goal.returns
returns g c = outside_is_beyond g.M.Metric.GREATEST g.M.Metric.dist g.M.Metric.laws
