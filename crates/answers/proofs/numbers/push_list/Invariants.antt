use Rattle.std.proofs.Common.{◌≡◌, ◌++◌, take}
use Rattle.answers.proofs.numbers.push_list.Given as goal

abbrev pub invariant-loop-number : goal.invariant-loop-number
invariant-loop-number l = l.numbers.items ≡ l.initial.numbers.items ++ take l.number-index l.list
