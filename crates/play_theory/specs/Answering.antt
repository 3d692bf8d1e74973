-- Calls that are answered by lines in an output.
use Rattle.std.specs.Prelude.{◌≡◌, ℕ, ◌+◌, Bool, List, [], ◌∷◌, length, MatchBool}
use Rattle.index.specs.Outcomes.{Outcome, gives, refuses}
use Rattle.history_theory.specs.History.{History, then_asks}
use Rattle.history.specs.declared.Call.{Call}
use Rattle.history.specs.declared.Call.TheVariants as call
use Rattle.history.specs.Turns.{Said, Lent, reply, asked}
use Rattle.history.specs.Law.{Turn}
use Rattle.printing.specs.Outputs.{written, fits_at}
use Rattle.answers.specs.AnswerLines.{answer_line}

-- a checker as the set of pairs that it passes
abbrev pub Pairs : Type 0 → Type 0
Pairs E = E → E → Bool

abbrev pub itself : {E : Type 0} → Pairs E → Pairs E
itself p = p

abbrev pub set_call : {E C : Type 0} → (C → E → E → Bool) → Call E C → Call E (Pairs E)
set_call passes (call.Add e c) = call.Add e (passes c)
set_call passes (call.Drop n) = call.Drop n
set_call passes (call.Element n) = call.Element n
set_call passes call.Tally = call.Tally
set_call passes (call.Near q k places) = call.Near q k places
set_call passes (call.Within q r places) = call.Within q r places
set_call passes (call.Island n) = call.Island n
set_call passes (call.Route a b places) = call.Route a b places

module _ {E : Type 0} (dist : E → E → ℕ) where
  -- Calls after a history, with lists that hold l, into an output of which so many bytes and so many whole lines are written.
  -- Each call is answered and leaves its list as the law over histories says, and its line is written behind the others. The
  -- first line that does not fit ends it, by refusal 11 with how many whole lines are written, and is not begun. The bytes
  -- before `end` are then the lines.
  abbrev pub Answered : History E → List (Call E (Pairs E)) → Lent → ℕ → ℕ → List ℕ → Outcome ℕ → ℕ → List ℕ → Type 0
  Answered h [] l at lines out o end after = (o ≡ gives at) × (end ≡ at) × (after ≡ out)
  Answered h (c ∷ cs) l at lines out o end after =
      (a : Said E) × (m : Lent) × Turn dist itself h c l a m
      × MatchBool (fits_at (length out) at (answer_line c (reply a) m))
      (Answered (then_asks h (asked itself c l)) cs m (at + length (answer_line c (reply a) m)) (lines + 1) (written out at (answer_line c (reply a) m)) o end after)
      ((o ≡ refuses 11 (lines ∷ [])) × (end ≡ at) × (after ≡ out))
