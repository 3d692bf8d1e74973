use Rattle.std.proofs.Common.{◌≡◌, ℕ, ◌<◌, ◌≤◌, get_or}
use Rattle.gnat_filing.specs.Choosing.{blank, Renewed}
use Rattle.gnat_filing.proofs.choosing.renew.Given as goal

abbrev pub invariant-loop-c : goal.invariant-loop-c
invariant-loop-c g l =
    ((k : ℕ) → k < l.c-index → Renewed g.E.Metric.dist l.rows l.pivot (get_or l.initial.cs k blank) (get_or l.cs k blank))
    × ((k : ℕ) → l.c-index ≤ k → get_or l.cs k blank ≡ get_or l.initial.cs k blank)
