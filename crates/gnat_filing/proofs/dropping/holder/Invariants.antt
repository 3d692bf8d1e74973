use Rattle.gnat_filing.specs.Seeking.{Seeks, NoHigher}
use Rattle.gnat_filing.proofs.Descending.{levels_below}
use Rattle.gnat_filing.proofs.dropping.holder.Given as goal

-- to drop the sample below the pivot now reached is all that is left, and the tree there is no higher
abbrev pub invariant-loop-next : goal.invariant-loop-next
invariant-loop-next g l = Seeks g.E.Metric.dist l.rows l.fn.root l.pivot l.at × NoHigher l.rows l.fn.root l.pivot

-- what remains of the tree
abbrev pub decreases-loop-next : goal.decreases-loop-next
decreases-loop-next g l = levels_below l.rows l.pivot
