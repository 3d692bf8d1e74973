use Rattle.std.proofs.Common.{◌≡◌, ◌≤◌, true, drop}
use Rattle.std.specs.Str.Parse.{digits_value, digits_value_after}
use Rattle.level_theory.specs.Words.{digit, all_bytes}
use Rattle.words.proofs.digits.value_of.Given as goal

abbrev pub invariant-loop-b : goal.invariant-loop-b
invariant-loop-b l = (l.value ≤ l.limit) × (digits_value_after 10 l.value (drop l.b-index l.digits) ≡ digits_value 10 l.digits) × (all_bytes digit (drop l.b-index l.digits) ≡ true)
