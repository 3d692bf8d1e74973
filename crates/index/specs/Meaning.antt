-- What an index means, and what it owes in every state.
use Rattle.std.specs.Prelude.{ℕ, ◌+◌, ◌≤◌, cond, List, [], ◌∷◌, ◌++◌, length, Some, None, Option, ◌==◌}
use Rattle.hits.specs.Samples.{Sample, Rising}

-- how many samples it can hold, the last number given, and the standing samples by rising number
pub record Meaning (E : Type 0) : Type 0 where
  pub capacity : ℕ
  pub last : ℕ
  pub standing : List (Sample E)

pub record Lawful {E : Type 0} (m : Meaning E) : Type 0 where
  pub capacity_bound : m.capacity ≤ 1024
  pub last_bound : m.last ≤ 65535
  pub rising : Rising 0 m.last m.standing
  pub room : length m.standing ≤ m.capacity

-- lawful in every state
abbrev pub AlwaysLawful : {I E : Type 0} → (I → Meaning E) → Type 0
AlwaysLawful meaning = (s : _) → Lawful (meaning s)

module _ {E : Type 0} where
  -- an index that has given no number
  abbrev pub fresh : ℕ → Meaning E
  fresh capacity = record { capacity = capacity; last = 0; standing = [] }

  -- the next number's sample
  abbrev pub next_sample : Meaning E → E → Sample E
  next_sample m e = record { number = m.last + 1; element = e }

  -- with one more sample at the end
  abbrev pub added : Meaning E → E → Meaning E
  added m e = record { capacity = m.capacity; last = m.last + 1; standing = m.standing ++ (next_sample m e ∷ []) }

  -- the samples of other numbers
  abbrev pub without : ℕ → List (Sample E) → List (Sample E)
  without n [] = []
  without n (s ∷ rest) = cond (s.number == n) (without n rest) (s ∷ without n rest)

  abbrev pub dropped : Meaning E → ℕ → Meaning E
  dropped m n = record { capacity = m.capacity; last = m.last; standing = without n m.standing }

  -- the element that stands under a number
  abbrev pub element_at : ℕ → List (Sample E) → Option E
  element_at n [] = None
  element_at n (s ∷ rest) = cond (s.number == n) (Some s.element) (element_at n rest)
