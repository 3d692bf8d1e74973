use Rattle.gnat_theory.proofs.Theorems.{search_exact}
use Rattle.gnat_theory.proofs.search_is_exact.Goals as goal

pub returns : goal.returns
returns g c = search_exact g.M.Metric.GREATEST g.M.Metric.dist g.M.Metric.laws
