use Rattle.std.proofs.Common.{◌-◌, ◌≤◌, length}
use Rattle.levelrun.proofs.read_all.Given as goal

abbrev pub invariant-loop-got : goal.invariant-loop-got
invariant-loop-got g l = l.got ≤ length l.buffer

abbrev pub decreases-loop-got : goal.decreases-loop-got
decreases-loop-got g l = length l.initial.buffer - l.got
