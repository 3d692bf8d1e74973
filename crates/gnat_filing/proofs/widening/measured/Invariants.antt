use Rattle.std.proofs.Common.{◌≡◌, ℕ, ◌<◌, length, get_or}
use Rattle.gnat_rows.specs.Rows.{HasRow}
use Rattle.gnat_filing.proofs.widening.measured.Given as goal

abbrev pub invariant-loop-i : goal.invariant-loop-i
invariant-loop-i g l = (length l.ds ≡ 8) × ((k : ℕ) → k < l.i → HasRow l.rows (get_or l.b.pivots k 0) (λ row. get_or l.ds k 0 ≡ g.E.Metric.dist row.element l.e))
