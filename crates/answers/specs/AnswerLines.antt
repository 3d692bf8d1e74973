-- The line that answers a call.
use Rattle.std.specs.Prelude.{ℕ, List, [], ◌∷◌, take, codes}
use Rattle.printing.specs.Outputs.{word_line}
use Rattle.history.specs.declared.Call.{Call}
use Rattle.history.specs.declared.Call.TheVariants as call
use Rattle.history_theory.specs.History.{Reply, grew, shrank, shows, tallies, nears, withins, names, leads, refused}
use Rattle.history.specs.Turns.{Lent}
use Rattle.answers.specs.Listing.{hit_numbers}

-- its first word: the call's letter, or that it was refused. No level asks for an element or a tally.
abbrev pub reply_word : {E : Type 0} → Reply E → List ℕ
reply_word (grew n edges) = codes "a"
reply_word shrank = codes "d"
reply_word (shows e) = []
reply_word (tallies c s l) = []
reply_word (nears n) = codes "n"
reply_word (withins n) = codes "w"
reply_word (names n) = codes "i"
reply_word (leads long n) = codes "r"
reply_word (refused n figures) = codes "refused"

-- the number that a drop names
abbrev pub dropped_by : {E C : Type 0} → Call E C → List ℕ
dropped_by (call.Add e c) = []
dropped_by (call.Drop n) = n ∷ []
dropped_by (call.Element n) = []
dropped_by call.Tally = []
dropped_by (call.Near q k places) = []
dropped_by (call.Within q r places) = []
dropped_by (call.Island n) = []
dropped_by (call.Route a b places) = []

-- its numbers, from what the call replies and what the lists then hold
abbrev pub reply_numbers : {E C : Type 0} → Call E C → Reply E → Lent → List ℕ
reply_numbers c (grew n edges) l = n ∷ (edges ∷ [])
reply_numbers c shrank l = dropped_by c
reply_numbers c (shows e) l = []
reply_numbers c (tallies cap s last) l = []
reply_numbers c (nears n) l = n ∷ hit_numbers (take n l.hits)
reply_numbers c (withins n) l = n ∷ hit_numbers (take n l.hits)
reply_numbers c (names n) l = n ∷ []
reply_numbers c (leads long n) l = long ∷ (n ∷ take n l.numbers)
reply_numbers c (refused n figures) l = n ∷ []

-- the line
abbrev pub answer_line : {E C : Type 0} → Call E C → Reply E → Lent → List ℕ
answer_line c a l = word_line (reply_word a) (reply_numbers c a l)
