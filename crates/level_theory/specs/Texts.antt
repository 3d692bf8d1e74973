-- The text of a level.
use Rattle.std.specs.Prelude.{◌≡◌, ℕ, false, List, [], ◌∷◌, ◌++◌, map, length, codes, decimal, ◌==◌}
use Rattle.std.specs.List.{AllByRecursion}
use Rattle.level_theory.specs.Levels.{Kind, arms, cards, LineCall, call_add, call_drop, call_near, call_within, call_island, call_route, Level}

-- pieces with a byte between each two
abbrev pub joined : ℕ → List (List ℕ) → List ℕ
joined c [] = []
joined c (w ∷ []) = w
joined c (w ∷ (v ∷ ws)) = w ++ (c ∷ joined c (v ∷ ws))

-- the byte c is not among these
abbrev pub Without : ℕ → List ℕ → Type 0
Without c w = AllByRecursion (λ b. (b == c) ≡ false) w

abbrev pub SomePiece : List (List ℕ) → Type 0
SomePiece [] = ⊥
SomePiece (w ∷ ws) = Unit {0}

-- the words of a line: one or more, none with a space or a byte 10
pub record Clean (ws : List (List ℕ)) : Type 0 where
  pub some : SomePiece ws
  pub spaces : AllByRecursion (Without 32) ws
  pub newlines : AllByRecursion (Without 10) ws

-- words parted by one space
abbrev pub spaced : List (List ℕ) → List ℕ
spaced ws = joined 32 ws

-- a line ends with byte 10
abbrev pub line_of : List (List ℕ) → List ℕ
line_of ws = spaced ws ++ (10 ∷ [])

abbrev pub lines_of : List (List (List ℕ)) → List ℕ
lines_of [] = []
lines_of (ws ∷ rest) = line_of ws ++ lines_of rest

abbrev pub kind_word : Kind → List ℕ
kind_word arms = codes "arm"
kind_word cards = codes "card"

abbrev pub header_words : Level → List (List ℕ)
header_words level = kind_word level.kind ∷ (decimal level.degree ∷ (decimal level.bucket ∷ (decimal level.k ∷ [])))

abbrev pub call_words : LineCall → List (List ℕ)
call_words (call_add e) = codes "a" ∷ map decimal e
call_words (call_drop n) = codes "d" ∷ (decimal n ∷ [])
call_words (call_near k e) = codes "n" ∷ (decimal k ∷ map decimal e)
call_words (call_within r e) = codes "w" ∷ (decimal r ∷ map decimal e)
call_words (call_island n) = codes "i" ∷ (decimal n ∷ [])
call_words (call_route a b) = codes "r" ∷ (decimal a ∷ (decimal b ∷ []))

-- a section's count
abbrev pub count_words : List ℕ → ℕ → List (List ℕ)
count_words word n = word ∷ (decimal n ∷ [])

-- line 1, the count of the walls, the walls, the count of the calls, the calls
abbrev pub level_lines : Level → List (List (List ℕ))
level_lines level = header_words level ∷ (count_words (codes "walls") (length level.walls) ∷ (map (map decimal) level.walls ++ (count_words (codes "calls") (length level.calls) ∷ map call_words level.calls)))

unfoldable pub text_of : Level → List ℕ
text_of level = lines_of (level_lines level)
