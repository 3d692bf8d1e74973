use Rattle.std.proofs.Common.{◌≡◌, ◌+◌, ◌*◌, ◌++◌, length, take}
use Rattle.answers.specs.Listing.{hit_numbers}
use Rattle.answers.proofs.numbers.push_hits.Given as goal

abbrev pub invariant-loop-hit : goal.invariant-loop-hit
invariant-loop-hit l = record {
  items : l.numbers.items ≡ l.initial.numbers.items ++ hit_numbers (take l.hit-index l.hit-items);
  len : length l.numbers.items ≡ length l.initial.numbers.items + 2 * l.hit-index;
}
