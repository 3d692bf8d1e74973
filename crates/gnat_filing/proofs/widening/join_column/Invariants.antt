use Rattle.std.proofs.Common.{◌≡◌, ℕ, ◌<◌, ◌≤◌, ◌≢◌, length, get_or}
use Rattle.gnat_rows.specs.Shows.{down}
use Rattle.gnat_filing.proofs.widening.join_column.Given as goal

abbrev pub invariant-loop-i : goal.invariant-loop-i
invariant-loop-i g l =
    (length l.table ≡ 8)
    × ((k : ℕ) → k < l.i → goal.F-post g l.join (get_or (down l.initial.table l.j) k 0) (get_or l.ds k 0) (get_or (down l.table l.j) k 0))
    × ((k : ℕ) → l.i ≤ k → get_or (down l.table l.j) k 0 ≡ get_or (down l.initial.table l.j) k 0)
    × ((m : ℕ) → (m ≢ l.j) → down l.table m ≡ down l.initial.table m)
