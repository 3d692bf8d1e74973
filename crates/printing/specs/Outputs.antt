-- What an output holds after a line was written into it.
use Rattle.std.specs.Prelude.{ℕ, zero, suc, ◌+◌, Bool, cond, List, [], ◌∷◌, ◌++◌, map, length, take, drop, Some, None, decimal, Option, ◌==◌, nat_le}
use Rattle.level_theory.specs.Texts.{line_of}

-- bytes in place of what stood from a place on
abbrev pub written : List ℕ → ℕ → List ℕ → List ℕ
written out at bytes = take at out ++ (bytes ++ drop (at + length bytes) out)

-- a word and numbers as a line
unfoldable pub word_line : List ℕ → List ℕ → List ℕ
word_line word numbers = line_of (word ∷ map decimal numbers)

-- whether bytes fit into an output of so many places from one on
abbrev pub fits_at : ℕ → ℕ → List ℕ → Bool
fits_at places at bytes = nat_le (at + length bytes) places

-- where they end, if they fit
abbrev pub put_outcome : ℕ → ℕ → List ℕ → Option ℕ
put_outcome places at bytes = cond (fits_at places at bytes) (Some (at + length bytes)) None

-- a line that does not fit leaves all as it was
abbrev pub put_leaves : List ℕ → ℕ → List ℕ → List ℕ
put_leaves out at bytes = cond (fits_at (length out) at bytes) (written out at bytes) out

-- how long the first lines are, each with its byte 10
abbrev pub lines_length : ℕ → List ℕ → ℕ
lines_length zero bytes = 0
lines_length (suc n) [] = 0
lines_length (suc n) (b ∷ bs) = suc (cond (b == 10) (lines_length n bs) (lines_length (suc n) bs))
