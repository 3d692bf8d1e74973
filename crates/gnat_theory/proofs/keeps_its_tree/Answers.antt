use Rattle.gnat_theory.proofs.Theorems.{keeps_tree}
use Rattle.gnat_theory.proofs.keeps_its_tree.Goals as goal

pub returns : goal.returns
returns g c = keeps_tree g.M.Metric.dist
