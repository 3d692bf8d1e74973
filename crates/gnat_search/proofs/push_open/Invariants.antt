use Rattle.std.proofs.Common.{◌≡◌, ◌+◌, ◌-◌, ◌≤◌, ◌++◌, length}
use Rattle.arrayvec.specs.ArrayVec.{array_vec_len}
use Rattle.gnat_search.specs.Nodes.{open_rows}
use Rattle.gnat_search.proofs.push_open.Given as goal

-- what is left to push gives what is wanted
abbrev pub invariant-loop-row : goal.invariant-loop-row
invariant-loop-row l =
    (goal.iterator-loop-row).can_next l.row-iterator
    × (goal.iterator-loop-row).is_finite l.row-iterator
    × (array_vec_len l.pending ≤ array_vec_len l.initial.pending + length l.yielded)
    × (l.pending.items ++ open_rows l.branch.pivots l.struck (length l.yielded) (l.branch.count - length l.yielded) ≡ l.initial.pending.items ++ open_rows l.branch.pivots l.struck 0 l.branch.count)
