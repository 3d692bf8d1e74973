-- How much of an output a play wrote.
use Rattle.std.specs.Prelude.{ℕ, min, List, length, Ok, Err, Result}
use Rattle.printing.specs.Outputs.{lines_length}
use Rattle.play.specs.declared.fault.PlayFault.{PlayFault}
use Rattle.play.specs.declared.fault.PlayFault.TheVariants.{Reading, Output}

abbrev pub printed_length : Result ℕ PlayFault → List ℕ → ℕ
printed_length (Ok n) out = min n (length out)
printed_length (Err (Reading fault)) out = 0
printed_length (Err (Output full)) out = lines_length full.0 out
