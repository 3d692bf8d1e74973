-- What a roadmap means.
use Rattle.std.specs.Prelude.{◌≡◌, ℕ, List, Some}
use Rattle.chains.specs.declared.Edge.{Edge}
use Rattle.hits.specs.Samples.{numbers_of}
use Rattle.index.specs.Meaning.{Meaning, element_at}

-- what its index means, how many neighbours a new sample is tried with, and the edges between standing samples, by rising
-- younger number
pub record Road (E : Type 0) : Type 0 where
  pub index : Meaning E
  pub k : ℕ
  pub edges : List Edge

-- a sample stands under this number
abbrev pub Stands : {E : Type 0} → Meaning E → ℕ → Type 0
Stands {E} m n = (e : E) × (element_at n m.standing ≡ Some e)

abbrev pub sample_numbers : {E : Type 0} → Meaning E → List ℕ
sample_numbers m = numbers_of m.standing
