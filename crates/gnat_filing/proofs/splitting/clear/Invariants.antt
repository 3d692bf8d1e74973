use Rattle.gnat_filing.specs.Filling.{Clears}
use Rattle.gnat_filing.proofs.splitting.clear.Given as goal

abbrev pub invariant-loop-pivot : goal.invariant-loop-pivot
invariant-loop-pivot g l = Clears l.initial.rows l.rows l.pivots l.pivot-index
