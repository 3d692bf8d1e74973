-- The number and the figures of each fault of a level file.
use Rattle.std.specs.Prelude.{ℕ, List, [], ◌∷◌, Ok, Err, Result}
use Rattle.index.specs.Outcomes.{number_of, figures_of}
use Rattle.words.specs.declared.cursor.Misplaced.{Misplaced}
use Rattle.lines.specs.declared.fault.ReadFault.{ReadFault}
use Rattle.lines.specs.declared.fault.ReadFault.TheVariants.{TooLong, Form, Line, Setting}

abbrev pub fault_number : ReadFault → ℕ
fault_number TooLong = 10
fault_number (Form line word) = 8
fault_number (Line line) = 9
fault_number (Setting line refusal) = number_of refusal

-- a refused setting is carried up whole, behind its line
abbrev pub fault_figures : ReadFault → List ℕ
fault_figures TooLong = []
fault_figures (Form line word) = line ∷ (word ∷ [])
fault_figures (Line line) = line ∷ []
fault_figures (Setting line refusal) = line ∷ figures_of refusal

abbrev pub at_line_of : {A : Type 0} → ℕ → Result A Misplaced → Result A ReadFault
at_line_of line (Ok value) = Ok value
at_line_of line (Err m) = Err (Form line m.0)
