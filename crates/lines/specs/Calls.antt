-- What a call line says.
use Rattle.std.specs.Prelude.{◌≡◌, ℕ, cond, List, [], ◌∷◌, Some, None, Ok, Err, Option, Result, ◌==◌}
use Rattle.index.specs.Outcomes.{Outcome, gives, refuses}
use Rattle.level_theory.specs.Levels.{Form, LineCall, call_add, call_drop, call_near, call_within, call_island, call_route}
use Rattle.level_theory.specs.Reading.{Letter, adds, drops, nears, withins, islands, routes, call_wants}
use Rattle.words.specs.declared.cursor.Misplaced.{Misplaced}
use Rattle.words.specs.Tokens.{Word, letters, digits, amiss}
use Rattle.words.specs.Cursors.{Part, lacks, part}
use Rattle.lines.specs.declared.calls.CallLine.{CallLine}
use Rattle.lines.specs.declared.calls.CallLine.TheVariants.{Add, Drop, Near, Within, Island, Route}

-- a word of one letter
abbrev pub sole_of : List ℕ → Option ℕ
sole_of [] = None
sole_of (b ∷ []) = Some b
sole_of (b ∷ (c ∷ bs)) = None

abbrev pub sole : Word → Option ℕ
sole (letters w i) = sole_of w
sole (digits w i) = None
sole (amiss i) = None

-- a, d, n, w, i and r
abbrev pub letter_named : ℕ → Option Letter
letter_named b = cond (b == 97) (Some adds) (cond (b == 100) (Some drops) (cond (b == 110) (Some nears) (cond (b == 119) (Some withins) (cond (b == 105) (Some islands) (cond (b == 114) (Some routes) None)))))

abbrev pub named : Option ℕ → Option Letter
named None = None
named (Some b) = letter_named b

-- the letter of a call, and the numbers behind it
abbrev pub letter_shown : {E : Type 0} → CallLine E → Letter
letter_shown (Add e) = adds
letter_shown (Drop n) = drops
letter_shown (Near k e) = nears
letter_shown (Within r e) = withins
letter_shown (Island n) = islands
letter_shown (Route a b) = routes

abbrev pub call_numbers : {E : Type 0} → (E → List ℕ) → CallLine E → List ℕ
call_numbers listed (Add e) = listed e
call_numbers listed (Drop n) = n ∷ []
call_numbers listed (Near k e) = k ∷ listed e
call_numbers listed (Within r e) = r ∷ listed e
call_numbers listed (Island n) = n ∷ []
call_numbers listed (Route a b) = a ∷ (b ∷ [])

abbrev pub call_shown : {E : Type 0} → (E → List ℕ) → CallLine E → LineCall
call_shown listed (Add e) = call_add (listed e)
call_shown listed (Drop n) = call_drop n
call_shown listed (Near k e) = call_near k (listed e)
call_shown listed (Within r e) = call_within r (listed e)
call_shown listed (Island n) = call_island n
call_shown listed (Route a b) = call_route a b

-- the words behind the letter; if it names no call, the line's first word is wrong
abbrev pub call_part : Form → Option Letter → List (List ℕ) → ℕ → Part
call_part form None ws i = lacks 1 ws i
call_part form (Some letter) ws i = part (call_wants form letter) ws i

abbrev pub CallNamed : {E : Type 0} → Option Letter → Result (CallLine E) Misplaced → Type 0
CallNamed letter (Ok call) = Some (letter_shown call) ≡ letter
CallNamed letter (Err m) = Unit {0}

abbrev pub call_told : {E : Type 0} → ℕ → (E → List ℕ) → Result (CallLine E) Misplaced → Outcome LineCall
call_told line listed (Ok call) = gives (call_shown listed call)
call_told line listed (Err m) = refuses 8 (line ∷ (m.0 ∷ []))
