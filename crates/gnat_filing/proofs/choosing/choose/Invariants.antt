use Rattle.std.proofs.Common.{◌≡◌, ◌+◌, length}
use Rattle.gnat_filing.specs.Choosing.{ChoosesFirst}
use Rattle.gnat_filing.proofs.choosing.choose.Given as goal

abbrev pub invariant-loop-pivot : goal.invariant-loop-pivot
invariant-loop-pivot g l =
    (length l.cs.items + l.pivot-index ≡ length l.initial.cs.items)
    × ChoosesFirst g.E.Metric.dist l.rows l.degree l.pivot-index l.initial.cs.items l.cs.items l.pivot-items
