use Rattle.gnat_theory.proofs.Listing.{split_by_rule}
use Rattle.gnat_theory.proofs.splits_by_the_rule.Goals as goal

pub returns : goal.returns
returns g c = split_by_rule g.M.Metric.dist
