-- What is shown of a play: its lines, and the line of its fault.
use Rattle.std.specs.Prelude.{◌≡◌, ℕ, ◌≤◌, List, length, Ok, Err, Result}
use Rattle.printing.specs.Outputs.{written}
use Rattle.play.specs.declared.fault.PlayFault.{PlayFault}
use Rattle.play.specs.Faults.{told_play, fault_line}
use Rattle.play.specs.Levels.{Played}

-- the line of a fault has room in 32 bytes
abbrev pub FaultFits : Result ℕ PlayFault → Type 0
FaultFits (Ok n) = Unit {0}
FaultFits (Err fault) = length (fault_line fault) ≤ 32

-- a fault's line is written, and so long; without a fault nothing is
abbrev pub FaultShown : Result ℕ PlayFault → List ℕ → ℕ → List ℕ → Type 0
FaultShown (Ok n) line end after = (end ≡ 0) × (after ≡ line)
FaultShown (Err fault) line end after = (end ≡ length (fault_line fault)) × (after ≡ written line 0 (fault_line fault))

-- the level is played, and the output is shown up to where its lines end
pub record Shown (bytes out line : List ℕ) (r : ℕ × ℕ) (after fault : List ℕ) : Type 0 where
  pub result : Result ℕ PlayFault
  pub played : Played bytes out (told_play result) r.0 after
  pub told : FaultShown result line r.1 fault
