-- The refusal that a roadmap's not being made stands for.
use Rattle.std.specs.Prelude.{Some, None, Option}
use Rattle.index.specs.declared.refusal.Refusal.{Refusal}
use Rattle.index.specs.declared.refusal.Refusal.TheVariants as refusal
use Rattle.roadmap.specs.declared.Unmade.{Unmade}
use Rattle.roadmap.specs.declared.Unmade.TheVariants.{Setting, TooFewRecords}

-- 1 with the neighbour count
abbrev pub refusal_of : Unmade → Option Refusal
refusal_of (Setting k) = Some (refusal.Setting k)
refusal_of (TooFewRecords n) = None
