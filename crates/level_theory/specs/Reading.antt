-- How a level file is read: which level it is, or its first fault by number and figures.
use Rattle.std.specs.Prelude.{ℕ, zero, suc, ◌+◌, cond, List, [], ◌∷◌, ◌++◌, length, drop, Some, None, codes, Option, nat_le, slice_index}
use Rattle.index.specs.Outcomes.{Outcome, gives, refuses}
use Rattle.level_theory.specs.Words.{words_of, pieces_of, same_bytes, Want, the_word, a_number, Taken, right, wrong, take_words}
use Rattle.level_theory.specs.Levels.{Kind, arms, cards, Form, form_of, LineCall, call_add, call_drop, call_near, call_within, call_island, call_route, Level, header_outcome}

-- which line is wanted next, and how many of its section are left
pub data Stage : Type 0 where
  at_header : Stage
  at_wall_count : Stage
  at_walls : ℕ → Stage
  at_call_count : Stage
  at_calls : ℕ → Stage
  at_end : Stage

abbrev pub walls_left : ℕ → Stage
walls_left zero = at_call_count
walls_left (suc n) = at_walls (suc n)

abbrev pub calls_left : ℕ → Stage
calls_left zero = at_end
calls_left (suc n) = at_calls (suc n)

-- so many numbers, each at most the largest
abbrev pub number_wants : ℕ → ℕ → List Want
number_wants zero largest = []
number_wants (suc n) largest = a_number largest ∷ number_wants n largest

abbrev pub element_wants : Form → List Want
element_wants form = number_wants form.numbers form.largest

-- three settings
abbrev pub setting_wants : List Want
setting_wants = a_number 1048576 ∷ (a_number 1048576 ∷ (a_number 1048576 ∷ []))

abbrev pub count_wants : List ℕ → ℕ → List Want
count_wants word most = the_word word ∷ (a_number most ∷ [])

pub data Letter : Type 0 where
  adds : Letter
  drops : Letter
  nears : Letter
  withins : Letter
  islands : Letter
  routes : Letter

-- the letter of a call line is its whole first word
abbrev pub letter_of : List ℕ → Option Letter
letter_of w = cond (same_bytes w (codes "a")) (Some adds) (cond (same_bytes w (codes "d")) (Some drops) (cond (same_bytes w (codes "n")) (Some nears) (cond (same_bytes w (codes "w")) (Some withins) (cond (same_bytes w (codes "i")) (Some islands) (cond (same_bytes w (codes "r")) (Some routes) None)))))

-- what a call line wants after its letter
abbrev pub call_wants : Form → Letter → List Want
call_wants form adds = element_wants form
call_wants form drops = a_number 65535 ∷ []
call_wants form nears = a_number 1048576 ∷ element_wants form
call_wants form withins = a_number 1048576 ∷ element_wants form
call_wants form islands = a_number 65535 ∷ []
call_wants form routes = a_number 65535 ∷ (a_number 65535 ∷ [])

-- the call of a letter and the numbers behind it
abbrev pub call_of : Letter → List ℕ → LineCall
call_of adds ns = call_add ns
call_of drops ns = call_drop (slice_index ns 0)
call_of nears ns = call_near (slice_index ns 0) (drop 1 ns)
call_of withins ns = call_within (slice_index ns 0) (drop 1 ns)
call_of islands ns = call_island (slice_index ns 0)
call_of routes ns = call_route (slice_index ns 0) (slice_index ns 1)

-- what a line that has its form gives, or its first wrong word by refusal 8
abbrev pub formed : {A : Type 0} → ℕ → Taken → (List ℕ → Outcome A) → Outcome A
formed line (right ns) f = f ns
formed line (wrong place) f = refuses 8 (line ∷ (place ∷ []))

abbrev pub carried : {A : Type 0} → ℕ → Outcome Unit → A → Outcome A
carried line (gives u) x = gives x
carried line (refuses n figures) x = refuses n (line ∷ figures)

abbrev pub level_with : Level → List (List ℕ) → List LineCall → Level
level_with level walls calls = record { kind = level.kind; degree = level.degree; bucket = level.bucket; k = level.k; walls = walls; calls = calls }

abbrev pub header_level : Kind → List ℕ → Level
header_level kind ns = record { kind = kind; degree = slice_index ns 0; bucket = slice_index ns 1; k = slice_index ns 2; walls = []; calls = [] }

-- Line 1 once its kind is known. Its settings are looked at once it has its form, and a refused one is carried up with the line.
abbrev pub header_of : ℕ → Kind → List (List ℕ) → Outcome Level
header_of line kind rest = formed line (take_words setting_wants rest 2) (λ ns. carried line (header_outcome (slice_index ns 0) (slice_index ns 1) (slice_index ns 2)) (header_level kind ns))

abbrev pub read_header : ℕ → List (List ℕ) → Outcome Level
read_header line [] = refuses 8 (line ∷ (1 ∷ []))
read_header line (w ∷ ws) = cond (same_bytes w (codes "arm")) (header_of line arms ws) (cond (same_bytes w (codes "card")) (header_of line cards ws) (refuses 8 (line ∷ (1 ∷ []))))

abbrev pub read_call_at : Form → ℕ → Option Letter → List (List ℕ) → Outcome LineCall
read_call_at form line None ws = refuses 8 (line ∷ (1 ∷ []))
read_call_at form line (Some letter) ws = formed line (take_words (call_wants form letter) ws 2) (λ ns. gives (call_of letter ns))

abbrev pub read_call : Form → ℕ → List (List ℕ) → Outcome LineCall
read_call form line [] = refuses 8 (line ∷ (1 ∷ []))
read_call form line (w ∷ ws) = read_call_at form line (letter_of w) ws

-- the level so far and the stage, or a fault
pub record Progress : Type 0 where
  pub stage : Stage
  pub level : Level

abbrev pub progress : Stage → Level → Progress
progress stage level = record { stage = stage; level = level }

abbrev pub then_level : Outcome Level → (Level → Progress) → Outcome Progress
then_level (gives level) f = gives (f level)
then_level (refuses n figures) f = refuses n figures

abbrev pub then_call : Outcome LineCall → (LineCall → Progress) → Outcome Progress
then_call (gives call) f = gives (f call)
then_call (refuses n figures) f = refuses n figures

-- one whole line: by the stage that it is read at
abbrev pub read_line : Stage → ℕ → Level → List (List ℕ) → Outcome Progress
read_line at_header line level ws = then_level (read_header line ws) (progress at_wall_count)
read_line at_wall_count line level ws = formed line (take_words (count_wants (codes "walls") 64) ws 1) (λ ns. gives (progress (walls_left (slice_index ns 0)) level))
read_line (at_walls zero) line level ws = refuses 9 (line ∷ [])
read_line (at_walls (suc n)) line level ws = formed line (take_words (number_wants (form_of level.kind).wall_numbers (form_of level.kind).largest) ws 1) (λ ns. gives (progress (walls_left n) (level_with level (level.walls ++ (ns ∷ [])) level.calls)))
read_line at_call_count line level ws = formed line (take_words (count_wants (codes "calls") 512) ws 1) (λ ns. gives (progress (calls_left (slice_index ns 0)) level))
read_line (at_calls zero) line level ws = refuses 9 (line ∷ [])
read_line (at_calls (suc n)) line level ws = then_call (read_call (form_of level.kind) line ws) (λ call. progress (calls_left n) (level_with level level.walls (level.calls ++ (call ∷ []))))
read_line at_end line level ws = refuses 9 (line ∷ [])

-- what follows the last whole line: nothing, once all lines are read; else a line is missing or left over
abbrev pub read_rest : Stage → ℕ → Level → List ℕ → Outcome Level
read_rest at_header line level rest = refuses 9 (line ∷ [])
read_rest at_wall_count line level rest = refuses 9 (line ∷ [])
read_rest (at_walls n) line level rest = refuses 9 (line ∷ [])
read_rest at_call_count line level rest = refuses 9 (line ∷ [])
read_rest (at_calls n) line level rest = refuses 9 (line ∷ [])
read_rest at_end line level [] = gives level
read_rest at_end line level (b ∷ bs) = refuses 9 (line ∷ [])

-- the lines from one on, in order: the first fault is the one that counts
abbrev pub read_lines : Outcome Progress → ℕ → List (List ℕ) → Outcome Level
read_lines (refuses n figures) line pieces = refuses n figures
read_lines (gives p) line [] = refuses 9 (line ∷ [])
read_lines (gives p) line (rest ∷ []) = read_rest p.stage line p.level rest
read_lines (gives p) line (l ∷ (m ∷ ms)) = read_lines (read_line p.stage line p.level (words_of l)) (line + 1) (m ∷ ms)

abbrev pub nothing_read : Level
nothing_read = record { kind = arms; degree = 0; bucket = 0; k = 0; walls = []; calls = [] }

abbrev pub start_reading : Outcome Progress
start_reading = gives (progress at_header nothing_read)

-- a file of over 65,536 bytes is refused by 10 before all else
unfoldable pub reading : List ℕ → Outcome Level
reading bytes = cond (nat_le (length bytes) 65536) (read_lines start_reading 1 (pieces_of bytes)) (refuses 10 [])
