use Rattle.std.proofs.Common.{◌≡◌}
use Rattle.gnat_order.specs.Order.{places, placed}
use Rattle.gnat_order.proofs.Places.{sliding}
use Rattle.gnat_order.proofs.move_behind.Given as goal

abbrev pub invariant-loop-i : goal.invariant-loop-i
invariant-loop-i g l = l.rows ≡ placed (sliding l.at l.i (places l.initial.rows)) l.initial.rows
