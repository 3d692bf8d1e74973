use Rattle.std.proofs.Common.{arith}
use Rattle.std.proofs.lemmas.Bool.Decides.{nat_tests}
use Rattle.routing.specs.Ranks.{cheaper}
use Rattle.routing.proofs.cost.Cost.lowers.Goals as goal

pub returns : goal.returns
unfolding cheaper
returns c = grind (arith, nat_tests)
