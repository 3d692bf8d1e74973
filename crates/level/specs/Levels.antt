-- What a level that is read means.
use Rattle.std.specs.Prelude.{ℕ, List, [], ◌∷◌, ◌++◌, map, Ok, Err, Result}
use Rattle.index.specs.Outcomes.{Outcome, gives, refuses}
use Rattle.level_theory.specs.Levels.{Kind, arms, cards}
use Rattle.level_theory.specs.Levels.{Level as Meaning}
use Rattle.lines.specs.declared.calls.CallLine.{CallLine}
use Rattle.lines.specs.declared.fault.ReadFault.{ReadFault}
use Rattle.lines.specs.Faults.{fault_number, fault_figures}
use Rattle.lines.specs.Settings.{tree_degree, tree_bucket}
use Rattle.lines.specs.Calls.{call_shown}
use Rattle.written.specs.Arms.{arm_numbers}
use Rattle.written.specs.Arms as arm_walls
use Rattle.written.specs.Cards.{card_numbers}
use Rattle.written.specs.Cards as card_walls
use Rattle.level.specs.declared.level.Level.{Level}
use Rattle.level.specs.declared.level.AnyLevel.{AnyLevel}
use Rattle.level.specs.declared.level.AnyLevel.TheVariants.{Arms, Cards}

abbrev pub with_wall : {E W : Type 0} → Level E W → W → Level E W
with_wall l wall = record { header = l.header; walls = record { items = l.walls.items ++ (wall ∷ []) }; calls = l.calls }

abbrev pub with_call : {E W : Type 0} → Level E W → CallLine E → Level E W
with_call l call = record { header = l.header; walls = l.walls; calls = record { items = l.calls.items ++ (call ∷ []) } }

-- kind and settings, the walls and the calls by their numbers
abbrev pub level_shown : {E W : Type 0} → Kind → (E → List ℕ) → (W → List ℕ) → Level E W → Meaning
level_shown kind listed bounds l = record { kind = kind; degree = tree_degree l.header.tree; bucket = tree_bucket l.header.tree; k = l.header.k; walls = map bounds l.walls.items; calls = map (call_shown listed) l.calls.items }

-- what reading the lines into a level tells
abbrev pub rest_told : {E W : Type 0} → Kind → (E → List ℕ) → (W → List ℕ) → Result Unit ReadFault → Level E W → Outcome Meaning
rest_told kind listed bounds (Ok u) level = gives (level_shown kind listed bounds level)
rest_told kind listed bounds (Err fault) level = refuses (fault_number fault) (fault_figures fault)

abbrev pub any_shown : AnyLevel → Meaning
any_shown (Arms level) = level_shown arms arm_numbers arm_walls.wall_numbers level
any_shown (Cards level) = level_shown cards card_numbers card_walls.wall_numbers level

-- what reading a file tells: the level, or its first fault by number and figures
abbrev pub told_read : Result AnyLevel ReadFault → Outcome Meaning
told_read (Ok level) = gives (any_shown level)
told_read (Err fault) = refuses (fault_number fault) (fault_figures fault)
