use Rattle.std.proofs.Common.{◌≡◌, ◌+◌, ◌≤◌, length}
use Rattle.index.specs.Outcomes.{gives}
use Rattle.level_theory.specs.Words.{pieces_of}
use Rattle.level_theory.specs.Reading.{read_lines}
use Rattle.level.specs.Readers.{shown_progress}
use Rattle.level.proofs.reader.Reader.read_rest.Given as goal

abbrev pub invariant-loop-line : goal.invariant-loop-line
invariant-loop-line g l = (2 ≤ l.number) × (l.number + length l.rest ≤ 65538) × (read_lines (gives (shown_progress l.self)) l.number (pieces_of l.rest) ≡ read_lines (gives (shown_progress l.initial.self)) 2 (pieces_of l.initial.rest)) × (l.self.level.header ≡ l.initial.self.level.header)

abbrev pub decreases-loop-line : goal.decreases-loop-line
decreases-loop-line g l = length l.rest
