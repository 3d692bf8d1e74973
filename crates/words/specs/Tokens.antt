-- The words of a line as tokens.
use Rattle.std.specs.Prelude.{ℕ, cond, List, [], ◌∷◌, Some, None, Option}
use Rattle.std.specs.Borrow.{Bor}
use Rattle.level_theory.specs.Words.{letter, digit, all_bytes}
use Rattle.words.specs.declared.token.Token.{Token}
use Rattle.words.specs.declared.token.Token.TheVariants.{Letters, Digits, Wrong}

-- a word is all letters or all digits, and else wrong; each with its place
pub data Word : Type 0 where
  letters : List ℕ → ℕ → Word
  digits : List ℕ → ℕ → Word
  amiss : ℕ → Word

abbrev pub word_of : List ℕ → ℕ → Word
word_of [] i = amiss i
word_of (b ∷ bs) i = cond (all_bytes letter (b ∷ bs)) (letters (b ∷ bs) i) (cond (all_bytes digit (b ∷ bs)) (digits (b ∷ bs) i) (amiss i))

abbrev pub shown : Token → Word
shown (Letters w i) = letters w.now i
shown (Digits w i) = digits w.now i
shown (Wrong i) = amiss i

abbrev pub place_of : Word → ℕ
place_of (letters w i) = i
place_of (digits w i) = i
place_of (amiss i) = i

-- the bytes of a word of letters, and of one of digits
abbrev pub letters_of : Word → Option (List ℕ)
letters_of (letters w i) = Some w
letters_of (digits w i) = None
letters_of (amiss i) = None

abbrev pub digits_of : Word → Option (List ℕ)
digits_of (letters w i) = None
digits_of (digits w i) = Some w
digits_of (amiss i) = None

abbrev pub shown_bytes : Option (Bor (List ℕ)) → Option (List ℕ)
shown_bytes None = None
shown_bytes (Some bytes) = Some bytes.now
