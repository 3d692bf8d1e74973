-- What taking words from a line gives, and what it leaves.
use Rattle.std.specs.Prelude.{ℕ, ◌+◌, cond, List, [], ◌∷◌, Some, None, Ok, Err, Option, Result}
use Rattle.level_theory.specs.Words.{same_bytes, number_word, Want, the_word, a_number, Taken, right, wrong}
use Rattle.words.specs.declared.cursor.Words.{Words}
use Rattle.words.specs.declared.cursor.Misplaced.{Misplaced}
use Rattle.words.specs.Rests.{words_in}
use Rattle.words.specs.Tokens.{Word, word_of, amiss}

abbrev pub words_left : Words → List (List ℕ)
words_left w = words_in w.rest

-- the first of the words left, at its place; a missing one is amiss
abbrev pub first_word : List (List ℕ) → ℕ → Word
first_word [] i = amiss i
first_word (w ∷ ws) i = word_of w i

abbrev pub words_after : List (List ℕ) → List (List ℕ)
words_after [] = []
words_after (w ∷ ws) = ws

abbrev pub place_after : List (List ℕ) → ℕ → ℕ
place_after [] i = i
place_after (w ∷ ws) i = i + 1

-- Words against the front of what is wanted: the numbers taken, or the place of the first word that is wrong or missing. Behind it the words that are left, and the place of the first of them.
pub data Part : Type 0 where
  got : List ℕ → List (List ℕ) → ℕ → Part
  lacks : ℕ → List (List ℕ) → ℕ → Part

abbrev pub part_number : Option ℕ → ℕ → List (List ℕ) → Part → Part
part_number None i ws rest = lacks i ws (i + 1)
part_number (Some n) i ws (got ns vs j) = got (n ∷ ns) vs j
part_number (Some n) i ws (lacks p vs j) = lacks p vs j

abbrev pub part : List Want → List (List ℕ) → ℕ → Part
part [] ws i = got [] ws i
part (x ∷ xs) [] i = lacks i [] i
part (the_word v ∷ xs) (w ∷ ws) i = cond (same_bytes v w) (part xs ws (i + 1)) (lacks i ws (i + 1))
part (a_number limit ∷ xs) (w ∷ ws) i = part_number (number_word limit w) i ws (part xs ws (i + 1))

-- what a reader of words answers, by the numbers of its value, and how it leaves the words
abbrev pub shown_part : {A : Type 0} → (A → List ℕ) → Result A Misplaced → Words → Part
shown_part numbers (Ok value) w = got (numbers value) (words_left w) w.place
shown_part numbers (Err m) w = lacks m.0 (words_left w) w.place

abbrev pub end_of : List (List ℕ) → ℕ → Result Unit Misplaced
end_of [] i = Ok tt
end_of (w ∷ ws) i = Err (record { 0 = i })

-- what a reader of a whole line answers
abbrev pub shown_taken : {A : Type 0} → (A → List ℕ) → Result A Misplaced → Taken
shown_taken numbers (Ok value) = right (numbers value)
shown_taken numbers (Err m) = wrong m.0
