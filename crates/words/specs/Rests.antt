-- What is left of a line.
use Rattle.std.specs.Prelude.{ℕ, ◌+◌, List, [], length, Some, None, Option}
use Rattle.std.specs.Borrow.{Bor}
use Rattle.level_theory.specs.Words.{words_of}

-- how many bytes may still be read: those left, and the end of the line
abbrev pub room : Option (Bor (List ℕ)) → ℕ
room None = 0
room (Some rest) = length rest.now + 1

abbrev pub words_in : Option (Bor (List ℕ)) → List (List ℕ)
words_in None = []
words_in (Some rest) = words_of rest.now
