use Rattle.gnat_filing.specs.Under.{Reaches}
use Rattle.gnat_filing.proofs.Descending.{levels_below}
use Rattle.gnat_filing.proofs.filing.file_under.Given as goal

-- to file the sample below the pivot now reached is all that is left
abbrev pub invariant-loop-l : goal.invariant-loop-l
invariant-loop-l g l = Reaches g.E.Metric.dist l.settings.degree l.settings.bucket 0 l.initial.rows l.rows l.fn.root l.pivot l.at

-- what remains of the tree
abbrev pub decreases-loop-l : goal.decreases-loop-l
decreases-loop-l g l = levels_below l.rows l.pivot
