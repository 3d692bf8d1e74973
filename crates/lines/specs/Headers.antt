-- What line 1 says.
use Rattle.std.specs.Prelude.{ℕ, ◌+◌, cond, List, [], ◌∷◌, Ok, Err, codes, Result, slice_index}
use Rattle.index.specs.Outcomes.{Outcome, gives, refuses}
use Rattle.level_theory.specs.Words.{same_bytes, Taken, right, wrong, take_words}
use Rattle.level_theory.specs.Levels.{arms, cards, Level}
use Rattle.level_theory.specs.Levels as levels
use Rattle.level_theory.specs.Reading.{setting_wants, header_level}
use Rattle.words.specs.declared.cursor.Misplaced.{Misplaced}
use Rattle.words.specs.Tokens.{Word, letters, digits, amiss}
use Rattle.lines.specs.declared.fault.ReadFault.{ReadFault}
use Rattle.lines.specs.declared.header.Kind.{Kind}
use Rattle.lines.specs.declared.header.Kind.TheVariants.{Arms, Cards}
use Rattle.lines.specs.declared.header.Header.{Header}
use Rattle.lines.specs.declared.first.Asked.{Asked}
use Rattle.lines.specs.Faults.{fault_number, fault_figures}
use Rattle.lines.specs.Settings.{header_numbers}

abbrev pub kind_shown : Kind → levels.Kind
kind_shown Arms = arms
kind_shown Cards = cards

abbrev pub kind_of_letters : List ℕ → ℕ → Result Kind Misplaced
kind_of_letters w i = cond (same_bytes w (codes "arm")) (Ok Arms) (cond (same_bytes w (codes "card")) (Ok Cards) (Err (record { 0 = i })))

abbrev pub kind_named : Word → Result Kind Misplaced
kind_named (letters w i) = kind_of_letters w i
kind_named (digits w i) = Err (record { 0 = i })
kind_named (amiss i) = Err (record { 0 = i })

abbrev pub asked_numbers : Asked → List ℕ
asked_numbers a = a.degree ∷ (a.bucket ∷ (a.k ∷ []))

abbrev pub settings_read : Taken → Result Asked Misplaced
settings_read (right ns) = Ok (record { degree = slice_index ns 0; bucket = slice_index ns 1; k = slice_index ns 2 })
settings_read (wrong place) = Err (record { 0 = place })

abbrev pub with_kind : Result Kind Misplaced → Result Asked Misplaced → Result (Kind × Asked) Misplaced
with_kind (Ok kind) (Ok asked) = Ok (kind, asked)
with_kind (Ok kind) (Err m) = Err m
with_kind (Err m) asked = Err m

-- the kind, and then the settings
abbrev pub header_read : List (List ℕ) → ℕ → Result (Kind × Asked) Misplaced
header_read [] i = Err (record { 0 = i })
header_read (w ∷ ws) i = with_kind (kind_of_letters w i) (settings_read (take_words setting_wants ws (i + 1)))

abbrev pub header_told : Result (Kind × Header) ReadFault → Outcome Level
header_told (Ok found) = gives (header_level (kind_shown found.0) (header_numbers found.1))
header_told (Err fault) = refuses (fault_number fault) (fault_figures fault)
