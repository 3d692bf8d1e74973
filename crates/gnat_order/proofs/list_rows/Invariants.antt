use Rattle.std.proofs.Common.{◌≡◌}
use Rattle.gnat_order.specs.Order.{places, placed, counted}
use Rattle.gnat_order.proofs.list_rows.Given as goal

abbrev pub invariant-loop-i : goal.invariant-loop-i
invariant-loop-i g l = l.row-items ≡ placed (counted l.i (places l.initial.row-items)) l.initial.row-items
