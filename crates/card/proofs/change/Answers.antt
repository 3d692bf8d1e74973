use Rattle.std.proofs.Common.{arith}
use Rattle.std.proofs.lemmas.Bool.Decides.{nat_tests}
use Rattle.card.specs.Cards.{slot_cost}
use Rattle.card.proofs.change.Goals as goal

pub returns-then-from-to : goal.returns-then-from-to
unfolding slot_cost
returns-then-from-to c = grind (arith, nat_tests)

pub returns-else-from-to : goal.returns-else-from-to
unfolding slot_cost
returns-else-from-to c = grind (arith, nat_tests)
