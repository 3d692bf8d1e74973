-- Lines and words of a text, and the numbers that words write.
use Rattle.std.specs.Prelude.{ℕ, ◌+◌, Bool, true, false, cond, not, ◌&&◌, ◌||◌, List, [], ◌∷◌, length, Some, None, Option, ◌==◌, nat_le, nat_lt, slice_index}
use Rattle.std.specs.Str.Parse.{digits_value}

abbrev pub onto : ℕ → List (List ℕ) → List (List ℕ)
onto b [] = (b ∷ []) ∷ []
onto b (w ∷ ws) = (b ∷ w) ∷ ws

-- a text cut at each byte c: one piece more than there are such bytes
abbrev pub split : ℕ → List ℕ → List (List ℕ)
split c [] = [] ∷ []
split c (b ∷ bs) = cond (b == c) ([] ∷ split c bs) (onto b (split c bs))

-- the words of a line are parted by single spaces; an empty one is a word too, and a wrong one
abbrev pub words_of : List ℕ → List (List ℕ)
words_of line = split 32 line

-- the lines of a text end with byte 10; the last piece is what follows the last such byte
abbrev pub pieces_of : List ℕ → List (List ℕ)
pieces_of text = split 10 text

abbrev pub letter : ℕ → Bool
letter b = nat_le 97 b && nat_le b 122

abbrev pub digit : ℕ → Bool
digit b = nat_le 48 b && nat_le b 57

abbrev pub all_bytes : (ℕ → Bool) → List ℕ → Bool
all_bytes p [] = true
all_bytes p (b ∷ bs) = p b && all_bytes p bs

abbrev pub same_bytes : List ℕ → List ℕ → Bool
same_bytes [] [] = true
same_bytes [] (c ∷ cs) = false
same_bytes (b ∷ bs) [] = false
same_bytes (b ∷ bs) (c ∷ cs) = b == c && same_bytes bs cs

-- one or more digits with no needless leading zero
abbrev pub plain : List ℕ → Bool
plain w = nat_lt 0 (length w) && (all_bytes digit w && (length w == 1 || not (slice_index w 0 == 48)))

-- the number that a word writes, if it is one of at most `limit`
unfoldable pub number_word : ℕ → List ℕ → Option ℕ
number_word limit w = cond (plain w && nat_le (digits_value 10 w) limit) (Some (digits_value 10 w)) None

-- what a place of a line wants: this word, or a number of at most so much
pub data Want : Type 0 where
  the_word : List ℕ → Want
  a_number : ℕ → Want

-- the numbers of a line that has its form, or the place of its first wrong, missing or surplus word
pub data Taken : Type 0 where
  right : List ℕ → Taken
  wrong : ℕ → Taken

abbrev pub with_number : Option ℕ → ℕ → Taken → Taken
with_number None i rest = wrong i
with_number (Some n) i (right ns) = right (n ∷ ns)
with_number (Some n) i (wrong j) = wrong j

-- the words of a line, the first of them at place i, against what is wanted
abbrev pub take_words : List Want → List (List ℕ) → ℕ → Taken
take_words [] [] i = right []
take_words [] (w ∷ ws) i = wrong i
take_words (x ∷ xs) [] i = wrong i
take_words (the_word v ∷ xs) (w ∷ ws) i = cond (same_bytes v w) (take_words xs ws (i + 1)) (wrong i)
take_words (a_number limit ∷ xs) (w ∷ ws) i = with_number (number_word limit w) i (take_words xs ws (i + 1))
