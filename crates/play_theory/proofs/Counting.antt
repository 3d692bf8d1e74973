-- How many lines a play that ends early has written.
use Rattle.std.proofs.Common.{◌≡◌, ℕ, ◌+◌, ◌≤◌, Bool, true, false, List, [], ◌∷◌, length, MatchBool, sym, subst, arith, lit≤}
use Rattle.index.specs.Outcomes.{Outcome, refuses}
use Rattle.history_theory.specs.History.{History, then_asks}
use Rattle.history.specs.declared.Call.{Call}
use Rattle.history.specs.Turns.{Lent, reply, asked}
use Rattle.printing.specs.Outputs.{written, fits_at}
use Rattle.answers.specs.AnswerLines.{answer_line}
use Rattle.level_theory.specs.Accepting.{SmallTold}
use Rattle.play_theory.specs.Answering.{Pairs, itself, Answered}

module _ {E : Type 0} (dist : E → E → ℕ) where
  by_fit : (o : Outcome ℕ) (lines at end : ℕ) (After : Type 0) (out after : List ℕ) → lines ≤ 1048576 → (After → SmallTold o) → (f : Bool) → MatchBool f After ((o ≡ refuses 11 (lines ∷ [])) × (end ≡ at) × (after ≡ out)) → SmallTold o
  by_fit o lines at end After out after h more true x = more x
  by_fit o lines at end After out after h more false x = (let P : Outcome ℕ → Type 0 = λ p. SmallTold p in subst P (sym x.0) (lit≤ tt, (h, tt)))

  -- no more than there are calls
  pub answered_small : (h : History E) (cs : List (Call E (Pairs E))) (l : Lent) (at lines : ℕ) (out : List ℕ) (o : Outcome ℕ) (end : ℕ) (after : List ℕ) → lines + length cs ≤ 1048576 → Answered dist h cs l at lines out o end after → SmallTold o
  answered_small h [] l at lines out o end after s x = (let P : Outcome ℕ → Type 0 = λ p. SmallTold p in subst P (sym x.0) tt)
  answered_small h (c ∷ cs) l at lines out o end after s (a, m, t, x) =
      by_fit o lines at end _ out after (omega arith)
      (answered_small (then_asks h (asked itself c l)) cs m (at + length (answer_line c (reply a) m)) (lines + 1) (written out at (answer_line c (reply a) m)) o end after (omega arith))
      (fits_at (length out) at (answer_line c (reply a) m)) x
