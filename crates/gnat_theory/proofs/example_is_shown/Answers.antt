use Rattle.std.proofs.Common.{refl}
use Rattle.hits.specs.Order.{precedes}
use Rattle.gnat_theory.specs.Splitting.{farther}
use Rattle.gnat_theory.specs.Searching.{outside}
use Rattle.gnat_theory.proofs.example_is_shown.Goals as goal

pub returns : goal.returns
unfolding precedes farther outside
returns c = record { split = refl; found = refl }
