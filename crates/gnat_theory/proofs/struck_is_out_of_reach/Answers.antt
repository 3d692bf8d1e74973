use Rattle.gnat_theory.proofs.Reaching.{struck_out_of_reach}
use Rattle.gnat_theory.proofs.struck_is_out_of_reach.Goals as goal

pub returns : goal.returns
returns g c = struck_out_of_reach g.M.Metric.GREATEST g.M.Metric.dist g.M.Metric.laws
