use Rattle.std.proofs.Common.{refl}
use Rattle.gnat_filing.specs.Choosing.{top}
use Rattle.gnat_filing.proofs.choosing.candidate_of.Goals as goal

pub returns : goal.returns
unfolding top
returns g c = record { row = refl; number = c.number_in.ensures; gap = refl }
