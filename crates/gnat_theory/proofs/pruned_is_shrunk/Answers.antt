use Rattle.gnat_theory.proofs.Pruning.{pruned_is_shrunk}
use Rattle.gnat_theory.proofs.pruned_is_shrunk.Goals as goal

pub returns : goal.returns
returns g c = pruned_is_shrunk g.M.Metric.dist
