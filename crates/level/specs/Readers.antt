-- How far a file is read.
use Rattle.std.specs.Prelude.{ℕ, [], ◌∷◌, Ok, Err, Result}
use Rattle.metric.specs.declared.Metric.{Ghosts as Measured}
use Rattle.index.specs.Outcomes.{Outcome, gives, refuses}
use Rattle.level_theory.specs.Levels.{Level as Meaning}
use Rattle.level_theory.specs.Reading.{Progress, progress}
use Rattle.words.specs.declared.cursor.Misplaced.{Misplaced}
use Rattle.written.specs.declared.written.Written.{Ghosts}
use Rattle.lines.specs.declared.fault.ReadFault.{ReadFault}
use Rattle.lines.specs.Faults.{fault_number, fault_figures}
use Rattle.level.specs.declared.reader.Reader.{Reader}
use Rattle.level.specs.Levels.{level_shown}
use Rattle.level.specs.Stages.{stage_shown}

module _ {E W : Type 0} {k : Ghosts E W} {m : Measured E} where
  -- the level so far
  abbrev pub level_read : Reader E W k m → Meaning
  level_read r = level_shown k.kind k.listed k.bounds r.level

  abbrev pub shown_progress : Reader E W k m → Progress
  shown_progress r = progress (stage_shown r.stage) (level_read r)

  -- what reading a line tells, by its first wrong word or by its fault
  abbrev pub line_told : ℕ → Result Unit Misplaced → Reader E W k m → Outcome Progress
  line_told line (Ok u) r = gives (shown_progress r)
  line_told line (Err misplaced) r = refuses 8 (line ∷ (misplaced.0 ∷ []))

  abbrev pub line_read : Result Unit ReadFault → Reader E W k m → Outcome Progress
  line_read (Ok u) r = gives (shown_progress r)
  line_read (Err fault) r = refuses (fault_number fault) (fault_figures fault)
