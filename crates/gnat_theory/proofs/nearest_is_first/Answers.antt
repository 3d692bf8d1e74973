use Rattle.gnat_theory.proofs.Choosing.{nearest_first}
use Rattle.gnat_theory.proofs.nearest_is_first.Goals as goal

pub returns : goal.returns
returns c = nearest_first
