-- How long a path of elements is.
use Rattle.std.specs.Prelude.{ℕ, ◌+◌, cond, List, [], ◌∷◌, length, Some, None, Option, nat_le}

-- the sum of the steps from each element to the next
abbrev pub path_length : {E : Type 0} → (E → E → ℕ) → List E → ℕ
path_length dist [] = 0
path_length dist (e ∷ []) = 0
path_length dist (e ∷ (f ∷ rest)) = dist e f + path_length dist (f ∷ rest)

-- the length of a path of at most 1,024 elements
abbrev pub measured : {E : Type 0} → (E → E → ℕ) → List E → Option ℕ
measured dist path = cond (nat_le (length path) 1024) (Some (path_length dist path)) None
