use Rattle.std.proofs.Common.{◌≡◌, ◌+◌}
use Rattle.std.specs.Slice.Iter.{windows_rest, windows_size}
use Rattle.metric.specs.Paths.{path_length}
use Rattle.metric.proofs.path_length.Given as goal

-- what is summed and what is left make the whole
abbrev pub invariant-loop-step : goal.invariant-loop-step
invariant-loop-step g l =
    (goal.iterator-loop-step g).can_next l.step-iterator
    × (goal.iterator-loop-step g).is_finite l.step-iterator
    × (windows_size l.step-iterator ≡ 2)
    × (l.total + path_length g.M.Metric.dist (windows_rest l.step-iterator) ≡ path_length g.M.Metric.dist l.path)
