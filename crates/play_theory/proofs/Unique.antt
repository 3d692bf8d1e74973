-- What calls are answered is unique.
use Rattle.std.proofs.Common.{◌≡◌, ℕ, ◌+◌, Bool, true, false, List, [], ◌∷◌, length, MatchBool, sym, refl, ◌∙◌, subst}
use Rattle.index.specs.Outcomes.{Outcome, refuses}
use Rattle.history_theory.specs.History.{History, Reply, then_asks}
use Rattle.history.specs.declared.Call.{Call}
use Rattle.history.specs.declared.Call.TheVariants as call
use Rattle.history.specs.Turns.{Lent, reply, asked}
use Rattle.history.specs.Law.{Alike, adds, drops, elements, tallied, neared, ranged, islands, routes}
use Rattle.history.proofs.One.{same_turn}
use Rattle.printing.specs.Outputs.{written, fits_at}
use Rattle.answers.specs.AnswerLines.{answer_line}
use Rattle.play_theory.specs.Answering.{Pairs, itself, Answered}

like_itself : {E : Type 0} (c : Call E (Pairs E)) → Alike itself itself c c
like_itself (call.Add e p) = adds e p p (λ x y. refl)
like_itself (call.Drop n) = drops n
like_itself (call.Element n) = elements n
like_itself call.Tally = tallied
like_itself (call.Near q k places) = neared q k places
like_itself (call.Within q r places) = ranged q r places
like_itself (call.Island n) = islands n
like_itself (call.Route a b places) = routes a b places

module _ {E : Type 0} (dist : E → E → ℕ) where
  -- what follows a line
  abbrev Follows : History E → Call E (Pairs E) → List (Call E (Pairs E)) → Lent → ℕ → ℕ → List ℕ → Reply E → Lent → Outcome ℕ → ℕ → List ℕ → Bool → Type 0
  Follows h c cs l at lines out a m o end after b =
      MatchBool b
      (Answered dist (then_asks h (asked itself c l)) cs m (at + length (answer_line c a m)) (lines + 1) (written out at (answer_line c a m)) o end after)
      ((o ≡ refuses 11 (lines ∷ [])) × (end ≡ at) × (after ≡ out))

  abbrev Same : Outcome ℕ → Outcome ℕ → ℕ → ℕ → List ℕ → List ℕ → Type 0
  Same o p end place after then' = (o ≡ p) × (end ≡ place) × (after ≡ then')

  both : (h : History E) (c : Call E (Pairs E)) (cs : List (Call E (Pairs E))) (l : Lent) (at lines : ℕ) (out : List ℕ) (a : Reply E) (m : Lent) (o p : Outcome ℕ) (end place : ℕ) (after then' : List ℕ) → (Follows h c cs l at lines out a m o end after true → Follows h c cs l at lines out a m p place then' true → Same o p end place after then') → (f : Bool) → Follows h c cs l at lines out a m o end after f → Follows h c cs l at lines out a m p place then' f → Same o p end place after then'
  both h c cs l at lines out a m o p end place after then' more true v w = more v w
  both h c cs l at lines out a m o p end place after then' more false v w = (v.0 ∙ sym w.0, v.1 ∙ sym w.1, v.2 ∙ sym w.2)

  pub answered_one : (h : History E) (cs : List (Call E (Pairs E))) (l : Lent) (at lines : ℕ) (out : List ℕ) (o p : Outcome ℕ) (end place : ℕ) (after then' : List ℕ) → Answered dist h cs l at lines out o end after → Answered dist h cs l at lines out p place then' → (o ≡ p) × (end ≡ place) × (after ≡ then')
  answered_one h [] l at lines out o p end place after then' x y = (x.0 ∙ sym y.0, x.1 ∙ sym y.1, x.2 ∙ sym y.2)
  answered_one h (c ∷ cs) l at lines out o p end place after then' (a, m, t, x) (b, n, u, y) =
      let s = same_turn dist itself itself h c c l m n a b (like_itself c) t u in
      let P : Reply E → Type 0 = λ r. Follows h c cs l at lines out r n p place then' (fits_at (length out) at (answer_line c r n)) in
      let Q : Lent → Type 0 = λ k. Follows h c cs l at lines out (reply a) k p place then' (fits_at (length out) at (answer_line c (reply a) k)) in
      both h c cs l at lines out (reply a) m o p end place after then' (answered_one (then_asks h (asked itself c l)) cs m (at + length (answer_line c (reply a) m)) (lines + 1) (written out at (answer_line c (reply a) m)) o p end place after then')
      (fits_at (length out) at (answer_line c (reply a) m)) x (subst Q (sym s.1) (subst P (sym s.0) y))
