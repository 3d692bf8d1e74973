use Rattle.std.proofs.Common.{arith}
use Rattle.std.proofs.lemmas.Bool.Decides.{nat_tests}
use Rattle.gnat_theory.specs.Searching.{outside}
use Rattle.gnat_search.proofs.striking.Band.misses.Goals as goal

pub returns-then-low-self : goal.returns-then-low-self
unfolding outside
returns-then-low-self c = λ d R around. let f = around.from in let t = around.to in grind (arith, nat_tests)

pub returns-else-low-self : goal.returns-else-low-self
unfolding outside
returns-else-low-self c = λ d R around. let f = around.from in let t = around.to in grind (arith, nat_tests)
