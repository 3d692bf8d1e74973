use Rattle.std.proofs.Common.{◌≡◌, ◌-◌, ◌≤◌, length, take}
use Rattle.std.specs.List.{AllWithin}
use Rattle.level_theory.specs.Reading.{number_wants}
use Rattle.words.specs.Cursors.{words_left, part}
use Rattle.words.proofs.Parts.{in_front}
use Rattle.written.proofs.numbers.take_numbers.Given as goal

abbrev pub invariant-loop-number : goal.invariant-loop-number
invariant-loop-number g l = (length l.number-items ≡ g.row.N) × AllWithin (λ n. n ≤ l.largest) l.number-items 0 l.number-index × (part (number_wants g.row.N l.largest) (words_left l.initial.words) l.initial.words.place ≡ in_front (take l.number-index l.number-items) (part (number_wants (g.row.N - l.number-index) l.largest) (words_left l.words) l.words.place))
