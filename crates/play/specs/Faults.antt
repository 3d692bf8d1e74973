-- The number and the figures of each fault of a play.
use Rattle.std.specs.Prelude.{ℕ, List, [], ◌∷◌, Ok, Err, codes, Result, slice_index}
use Rattle.index.specs.Outcomes.{Outcome, gives, refuses}
use Rattle.lines.specs.Faults.{fault_number, fault_figures}
use Rattle.printing.specs.Outputs.{word_line}
use Rattle.play.specs.declared.fault.PlayFault.{PlayFault}
use Rattle.play.specs.declared.fault.PlayFault.TheVariants.{Reading, Output}

abbrev pub number_told : PlayFault → ℕ
number_told (Reading fault) = fault_number fault
number_told (Output full) = 11

abbrev pub list_told : PlayFault → List ℕ
list_told (Reading fault) = fault_figures fault
list_told (Output full) = full.0 ∷ []

-- how many bytes are written, or the fault by its number and figures
abbrev pub told_play : Result ℕ PlayFault → Outcome ℕ
told_play (Ok n) = gives n
told_play (Err fault) = refuses (number_told fault) (list_told fault)

-- the number and two figures, 0 for one that is lacking
abbrev pub figures_told : PlayFault → ℕ × ℕ × ℕ
figures_told fault = (number_told fault, slice_index (list_told fault) 0, slice_index (list_told fault) 1)

-- the line that tells of it
abbrev pub fault_line : PlayFault → List ℕ
fault_line fault = word_line (codes "fault") (number_told fault ∷ (slice_index (list_told fault) 0 ∷ (slice_index (list_told fault) 1 ∷ [])))
