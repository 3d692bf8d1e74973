use Rattle.std.proofs.Common.{◌≡◌, ℕ, ◌<◌, length, get_or, Some}
use Rattle.std.specs.List.{slice_get}
use Rattle.gnat_rows.specs.declared.Row.{Row}
use Rattle.gnat_search.proofs.Quest.measure_rows.Given as goal

-- the first distances stand in order
abbrev pub invariant-loop-i : goal.invariant-loop-i
invariant-loop-i g l =
    (length l.distances ≡ 32)
    × ((k : ℕ) → k < l.i → (r : Row g.row.E.Denot) → slice_get l.self.rows.now (get_or l.leaf.rows k 0) ≡ Some r → get_or l.distances k 0 ≡ g.E.Metric.dist l.self.q.now r.element)
