use Rattle.std.proofs.Common.{◌≡◌, ℕ, ◌<◌}
use Rattle.gnat_filing.specs.Filling.{Pointed}
use Rattle.gnat_filing.proofs.splitting.bare.Given as goal

abbrev pub invariant-loop-j : goal.invariant-loop-j
invariant-loop-j g l =
    (l.b.count ≡ l.fn.degree) × (l.b.pivots ≡ l.fn.pivots)
    × ((k : ℕ) → k < l.j → Pointed g.E.Metric.dist l.rows l.fn.pivots l.b k)
