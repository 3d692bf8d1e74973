-- The loop over the calls of a level.
use Rattle.std.proofs.Common.{◌≡◌, ℕ, ◌+◌, ◌<◌, ◌≤◌, Bool, true, false, cond, List, [], ◌∷◌, map, length, get_or, drop, Option, Some, None, MatchOption, Ok, Err, sym, refl, ap, ◌∙◌, subst, arith}
use Rattle.std.specs.Option.{ok_or}
use Rattle.std.proofs.lemmas.List.{drop_more, drop_all}
use Rattle.metric.specs.Laws.{MetricLaws}
use Rattle.checker.specs.Laws.{Symmetric}
use Rattle.index.specs.Outcomes.{Outcome, gives, refuses}
use Rattle.roadmap.specs.Roads.{Road}
use Rattle.history.specs.declared.Call.{Call}
use Rattle.history.specs.Turns.{Lent, reply}
use Rattle.history_theory.specs.History.{History}
use Rattle.printing.specs.Outputs.{written, lines_length}
use Rattle.answers.specs.AnswerLines.{answer_line}
use Rattle.play_theory.specs.Answering.{Pairs, set_call, Answered}
use Rattle.play_theory.proofs.Ending.{ends_so}
use Rattle.play_theory.proofs.Going.{Going, going_done, going_more, going_full}
use Rattle.lines.specs.declared.calls.CallLine.{CallLine}
use Rattle.player.specs.declared.calls.OutputFull.{OutputFull}
use Rattle.player.specs.Calls.{line_call, AnswersOne}

-- what a line that was put, or not, says
did_fit : (f : Bool) (n end : ℕ) → Some end ≡ cond f (Some n) None → (f ≡ true) × (end ≡ n)
did_fit true n end e = (refl, cc)
did_fit false n end e = absurd (let z : ◌≡◌ {A = ℕ} 0 1 = cc in omega arith)

did_not_fit : (f : Bool) (n : ℕ) → None ≡ cond f (Some n) None → f ≡ false
did_not_fit true n e = absurd (let z : ◌≡◌ {A = ℕ} 0 1 = cc in omega arith)
did_not_fit false n e = refl

-- what the answer of a call was, from its result
was_some : (r : Option ℕ) (full : OutputFull) (end : ℕ) → ok_or r full ≡ Ok end → r ≡ Some end
was_some (Some n) full end e = cc
was_some None full end e = cc

was_none : (r : Option ℕ) (full told : OutputFull) → ok_or r full ≡ Err told → (r ≡ None) × (told ≡ full)
was_none (Some n) full told e = cc
was_none None full told e = (refl, cc)

pub kept_end : (r : Option ℕ) (full : OutputFull) (old_len len end : ℕ) → ok_or r full ≡ Ok end → MatchOption r (len ≡ old_len) (λ e. len ≡ e) → len ≡ end
kept_end (Some n) full old_len len end e h = cc
kept_end None full old_len len end e h = cc

module _ {E C : Type 0} (dist : E → E → ℕ) (top : ℕ) (laws : MetricLaws top dist) (passes : C → E → E → Bool) (even : Symmetric passes) (checker : C) (AllAnswered : Outcome ℕ → ℕ → List ℕ → Type 0) where
  abbrev calls_of : List (CallLine E) → List (Call E (Pairs E))
  calls_of lines = map (λ line. set_call passes (line_call line checker)) lines

  module _ (lines : List (CallLine E)) (line : CallLine E) (i at : ℕ) (c : Call E C) (road after : Road E) (l m : Lent) (out out' : List ℕ) (below : i < length lines) (is : line ≡ get_or lines i line) (called : c ≡ line_call line checker) where
    first : calls_of (drop i lines) ≡ set_call passes c ∷ calls_of (drop (i + 1) lines)
    first =
        ap calls_of (drop_more lines i line below) ∙ (ap (λ x. set_call passes (line_call x checker) ∷ calls_of (drop (i + 1) lines)) (sym is) ∙ ap (λ k. set_call passes k ∷ calls_of (drop (i + 1) lines)) (sym called))

    placed : (r s : Option ℕ) (len : ℕ) → len ≡ at → r ≡ s → AnswersOne dist passes road c l out len r m out' after → AnswersOne dist passes road c l out at s m out' after
    placed r s len e f x =
        let P : ℕ → Type 0 = λ k. AnswersOne dist passes road c l out k s m out' after in
        let Q : Option ℕ → Type 0 = λ q. AnswersOne dist passes road c l out len q m out' after in
        subst P e (subst Q f x)

    fits : (end : ℕ) → AnswersOne dist passes road c l out at (Some end) m out' after → Going dist AllAnswered (calls_of (drop i lines)) road l at i out → Going dist AllAnswered (calls_of (drop (i + 1) lines)) after m end (i + 1) out'
    fits end x g =
        let f = did_fit _ _ end x.puts in
        let P : List (Call E (Pairs E)) → Type 0 = λ cs. Going dist AllAnswered cs road l at i out in
        let h = going_more dist top laws passes even AllAnswered c (calls_of (drop (i + 1) lines)) road after l m at i out x.answer x.does f.0 (subst P first g) in
        let left : out' ≡ written out at (answer_line c (reply x.answer) m) = x.leaves ∙ ap (λ b. cond b (written out at (answer_line c (reply x.answer) m)) out) f.0 in
        rw (f.1, left) h

    pub step_more : (r : Option ℕ) (len end : ℕ) (full : OutputFull) → len ≡ at → ok_or r full ≡ Ok end → AnswersOne dist passes road c l out len r m out' after → Going dist AllAnswered (calls_of (drop i lines)) road l at i out → Going dist AllAnswered (calls_of (drop (i + 1) lines)) after m end (i + 1) out'
    step_more r len end full e h y = fits end (placed r (Some end) len e (was_some r full end h) y)

    no_room : AnswersOne dist passes road c l out at None m out' after → Going dist AllAnswered (calls_of (drop i lines)) road l at i out → AllAnswered (refuses 11 (i ∷ [])) at out'
    no_room x g =
        let f = did_not_fit _ _ x.puts in
        let P : List (Call E (Pairs E)) → Type 0 = λ cs. Going dist AllAnswered cs road l at i out in
        let Q : List ℕ → Type 0 = AllAnswered (refuses 11 (i ∷ [])) at in
        let left : out' ≡ out = x.leaves ∙ ap (λ b. cond b (written out at (answer_line c (reply x.answer) m)) out) f in
        subst Q (sym left) (going_full dist top laws passes even AllAnswered c (calls_of (drop (i + 1) lines)) road after l m at i out x.answer x.does f (subst P first g))

    pub step_full : (r : Option ℕ) (len : ℕ) (full told : OutputFull) → len ≡ at → ok_or r full ≡ Err told → full.0 ≡ i → AnswersOne dist passes road c l out len r m out' after → Going dist AllAnswered (calls_of (drop i lines)) road l at i out → AllAnswered (refuses 11 (told.0 ∷ [])) at out'
    step_full r len full told e h n y g =
        let w = was_none r full told h in
        let P : ℕ → Type 0 = λ k. AllAnswered (refuses 11 (k ∷ [])) at out' in
        subst P (sym (ap (λ o. o.0) w.1 ∙ n)) (no_room (placed r None len e w.0 y) g)

  pub step_done : (lines : List (CallLine E)) (i at : ℕ) (road : Road E) (l : Lent) (out : List ℕ) → length lines ≤ i → Going dist AllAnswered (calls_of (drop i lines)) road l at i out → AllAnswered (gives at) at out
  step_done lines i at road l out h g =
      let P : List (CallLine E) → Type 0 = λ ls. Going dist AllAnswered (calls_of ls) road l at i out in
      going_done dist top laws passes even AllAnswered road l at i out (subst P (drop_all i lines h) g)

-- a play that ends early, by the lines in the output
pub counted_full : {E : Type 0} (dist : E → E → ℕ) (h : History E) (cs : List (Call E (Pairs E))) (l : Lent) (out : List ℕ) (n end : ℕ) (after : List ℕ) → Answered dist h cs l 0 0 out (refuses 11 (n ∷ [])) end after → Answered dist h cs l 0 0 out (refuses 11 (n ∷ [])) (lines_length n after) after
counted_full dist h cs l out n end after x =
    let P : ℕ → Type 0 = λ k. Answered dist h cs l 0 0 out (refuses 11 (n ∷ [])) k after in
    subst P (ends_so dist h cs l out (refuses 11 (n ∷ [])) end after x) x
