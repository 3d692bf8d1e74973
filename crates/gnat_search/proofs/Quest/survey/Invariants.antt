use Rattle.std.proofs.Common.{◌≡◌, ℕ, List, length}
use Rattle.hits.specs.declared.Hit.{Hit}
use Rattle.gnat_theory.specs.Tree.{Parts, pivots}
use Rattle.gnat_theory.specs.Searching.{State}
use Rattle.gnat_rows.specs.Shows.{ShowsParts}
use Rattle.gnat_search.specs.Wants.{want, Counted, Kept}
use Rattle.gnat_search.proofs.Surveys.{Left}
use Rattle.gnat_search.proofs.Quest.survey.Given as goal

-- the first i pivots were looked at
abbrev pub invariant-loop-i : goal.invariant-loop-i
invariant-loop-i g l =
    (length l.struck ≡ 8)
    × Counted l.initial.so_far l.so_far l.i
    × ((ps : Parts g.row.E.Denot) (fs : List ℕ) → l.branch.count ≡ length (pivots ps) → ShowsParts l.self.rows.now l.branch 0 ps fs → (old : List Hit) (st : State) → Kept old l.initial.list l.initial.so_far st
    → Left l.self.rows.now g.E.Metric.dist l.self.q.now (want l.self.aim (length l.initial.list)) l.branch ps st old l.i l.struck l.list l.so_far)
