use Rattle.std.proofs.Common.{take}
use Rattle.gnat_order.specs.Order.{places}
use Rattle.gnat.specs.Refiling.{Refiled}
use Rattle.gnat.proofs.refile.refile.Given as goal

abbrev pub invariant-loop-i : goal.invariant-loop-i
invariant-loop-i g l = Refiled g.E.Metric.dist l.settings.degree l.settings.bucket l.initial.rows (take l.standing (places l.initial.rows)) l.i l.rows l.root
