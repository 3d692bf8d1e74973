use Rattle.gnat_search.proofs.Weighing.{pending_below}
use Rattle.gnat_search.proofs.Visiting.{Pause}
use Rattle.gnat_search.proofs.search.Given as goal

-- what is pending gives what is wanted
abbrev pub invariant-loop-at : goal.invariant-loop-at
invariant-loop-at g l = Pause l.fn.rows g.E.Metric.dist l.fn.q l.fn.aim l.fn.root l.fn.list l.pending.items l.list l.so_far

-- what is pending grows less
abbrev pub decreases-loop-at : goal.decreases-loop-at
decreases-loop-at g l = pending_below l.fn.rows l.pending.items
