-- A run of calls on a roadmap: what is left to answer decides what all are answered.
use Rattle.std.proofs.Common.{◌≡◌, ℕ, ◌+◌, Bool, true, false, List, [], ◌∷◌, length, refl, subst}
use Rattle.metric.specs.Laws.{MetricLaws}
use Rattle.checker.specs.Laws.{Symmetric}
use Rattle.index.specs.Outcomes.{Outcome, gives, refuses}
use Rattle.roadmap.specs.Roads.{Road}
use Rattle.history_theory.specs.History.{History, Asked, then_asks}
use Rattle.history_theory.proofs.Reaching.{Reached}
use Rattle.history_theory.proofs.Going.{next}
use Rattle.history.specs.declared.Call.{Call}
use Rattle.history.specs.Turns.{Said, Lent, reply, asked, Does}
use Rattle.history.specs.Law.{Turn}
use Rattle.history.proofs.Playing.{fair, turn}
use Rattle.printing.specs.Outputs.{written, fits_at}
use Rattle.answers.specs.AnswerLines.{answer_line}
use Rattle.play_theory.specs.Answering.{Pairs, itself, set_call, Answered}
use Rattle.play_theory.proofs.Steps.{asked_set, turn_set, line_set}

-- a history has reached the roadmap, and what answers the rest from there answers all
pub record Going {E : Type 0} (dist : E → E → ℕ) (AllAnswered : Outcome ℕ → ℕ → List ℕ → Type 0) (rest : List (Call E (Pairs E))) (road : Road E) (l : Lent) (at lines : ℕ) (out : List ℕ) : Type 0 where
  pub history : History E
  pub reached : Reached dist history road
  pub back : (o : Outcome ℕ) (end : ℕ) (after : List ℕ) → Answered dist history rest l at lines out o end after → AllAnswered o end after

module _ {E C : Type 0} (dist : E → E → ℕ) (top : ℕ) (laws : MetricLaws top dist) (passes : C → E → E → Bool) (even : Symmetric passes) (AllAnswered : Outcome ℕ → ℕ → List ℕ → Type 0) where
  pub going_done : (road : Road E) (l : Lent) (at lines : ℕ) (out : List ℕ) → Going dist AllAnswered [] road l at lines out → AllAnswered (gives at) at out
  going_done road l at lines out g = g.back (gives at) at out (refl, refl, refl)

  module _ (c : Call E C) (cs : List (Call E (Pairs E))) (road after : Road E) (l m : Lent) (at lines : ℕ) (out : List ℕ) (a : Said E) (d : Does dist passes road c l a m after) where
    bytes : List ℕ
    bytes = answer_line c (reply a) m

    goes : (g : Going dist AllAnswered (set_call passes c ∷ cs) road l at lines out) → Turn dist itself g.history (set_call passes c) l a m
    goes g = turn_set dist passes g.history c l m a (turn dist passes even top laws g.history road after c l m a g.reached d)

    -- the line fits
    pub going_more : fits_at (length out) at (answer_line c (reply a) m) ≡ true → Going dist AllAnswered (set_call passes c ∷ cs) road l at lines out → Going dist AllAnswered cs after m (at + length (answer_line c (reply a) m)) (lines + 1) (written out at (answer_line c (reply a) m))
    going_more f g =
        let h : History E = g.history in
        let P : Asked E → Type 0 = λ q. Reached dist (then_asks h q) after in
        record {
          history = then_asks h (asked itself (set_call passes c) l);
          reached = subst P (asked_set dist passes c l) (next dist top laws h road after (asked passes c l) (reply a) d.lists (fair dist passes even top laws c l) g.reached d.tells);
          back = λ o end after' x. g.back o end after' (a, m, goes g, rw (line_set dist passes c (reply a) m, f) x);
        }

    -- it does not
    pub going_full : fits_at (length out) at (answer_line c (reply a) m) ≡ false → Going dist AllAnswered (set_call passes c ∷ cs) road l at lines out → AllAnswered (refuses 11 (lines ∷ [])) at out
    going_full f g = g.back (refuses 11 (lines ∷ [])) at out (a, m, goes g, rw (line_set dist passes c (reply a) m, f) (refl, refl, refl))
