-- A run on a roadmap that a history has reached plays as the history gives. Assumes nothing.
use Rattle.std.proofs.Common.{◌≡◌, ℕ, ◌≤◌, Bool, List, [], ◌∷◌, Ok, Err, Result, sym, ap, ◌∙◌, subst, inl, inr}
use Rattle.metric.specs.Laws.{MetricLaws}
use Rattle.checker.specs.Laws.{Symmetric}
use Rattle.index.specs.Meaning.{Meaning}
use Rattle.roadmap.specs.declared.Unmade.{Unmade}
use Rattle.roadmap.specs.declared.Unmade.TheVariants.{Setting, TooFewRecords}
use Rattle.roadmap.specs.Roads.{Road}
use Rattle.roadmap.specs.Roadmaps.{Made}
use Rattle.history.specs.declared.Unplayed.{Unplayed}
use Rattle.history.specs.declared.Unplayed.TheVariants as play
use Rattle.history.specs.declared.Call.{Call}
use Rattle.history.specs.declared.Call.TheVariants as call
use Rattle.history_theory.specs.History.{History, start, then_asks}
use Rattle.history.specs.Turns.{Said, Lent, reply, asked, Does, Runs, final, Ran}
use Rattle.history.specs.Fitting.{unless}
use Rattle.history.proofs.Fitting.{OfAList}
use Rattle.history.specs.Law.{Turn, Plays, Alone, AllAlike, Judged, JudgedFitting, Whole}
use Rattle.history.proofs.One.{same_plays}
use Rattle.history_theory.proofs.Owes.{owed}
use Rattle.history_theory.proofs.Reaching.{Reached, reached_new}
use Rattle.history_theory.proofs.Giving.{gives_of}
use Rattle.history_theory.proofs.Going.{Fair, next}

module _ {E C : Type 0} (dist : E → E → ℕ) (passes : C → E → E → Bool) (even : Symmetric passes) (top : ℕ) (laws : MetricLaws top dist) where
  pub fair : (c : Call E C) (l : Lent) → Fair (asked passes c l)
  fair (call.Add e c) l = even c
  fair (call.Drop n) l = tt
  fair (call.Element n) l = tt
  fair call.Tally l = tt
  fair (call.Near q k n) l = tt
  fair (call.Within q r n) l = tt
  fair (call.Island n) l = tt
  fair (call.Route a b n) l = tt

  pub turn : (h : History E) (road after : Road E) (c : Call E C) (l m : Lent) (a : Said E) → Reached dist h road → Does dist passes road c l a m after → Turn dist passes h c l a m
  turn h road after c l m a r d =
      let g = gives_of dist top laws h road r (asked passes c l) (reply a) d.lists after d.tells in
      record { lists = d.lists; gives = g; leaves = d.leaves; owed = owed dist top laws h r.even (asked passes c l) (reply a) d.lists g }

  pub plays_of : (h : History E) (road after : Road E) (cs : List (Call E C)) (l : Lent) (as' : List (Said E)) (ms : List Lent) → Reached dist h road → Runs dist passes road cs l as' ms after → Plays dist passes h cs l as' ms
  plays_of h road after [] l [] [] r x = tt
  plays_of h road after [] l [] (m ∷ ms) r x = x
  plays_of h road after [] l (a ∷ as') ms r x = x
  plays_of h road after (c ∷ cs) l [] ms r x = x
  plays_of h road after (c ∷ cs) l (a ∷ as') [] r x = x
  plays_of h road after (c ∷ cs) l (a ∷ as') (m ∷ ms) r x =
      (turn h road x.0 c l m a r x.1, plays_of (then_asks h (asked passes c l)) x.0 after cs m as' ms (next dist top laws h road x.0 (asked passes c l) (reply a) x.1.lists (fair c l) r x.1.tells) x.2)

-- a run by itself
module _ {E C : Type 0} (dist : E → E → ℕ) (top : ℕ) (laws : MetricLaws top dist) (p : C → E → E → Bool) (even : Symmetric p) where
  pub alone : (k : ℕ) (m : Meaning E) (road after : Road E) (cs : List (Call E C)) (l n : Lent) (as' : List (Said E)) → m.capacity ≤ 1024 → road ≡ record { index = m; k = k; edges = [] } → Ran dist p road cs l as' n after → Alone dist p k m cs l as' n
  alone k m road after cs l n as' small is x = record {
    after = after;
    ran = subst (λ r. Ran dist p r cs l as' n after) is x;
    played = λ size fresh_index.
        let few : size ≤ 1024 = subst (λ z. z.capacity ≤ 1024) fresh_index small in
        record { turns = x.turns; plays = plays_of dist p even top laws (start k size) road after cs l as' x.turns (reached_new dist k size few road m is fresh_index) x.runs; ends = x.ends };
  }

-- two runs from one history
module _ {E C D : Type 0} (dist : E → E → ℕ) (top : ℕ) (laws : MetricLaws top dist) (p : C → E → E → Bool) (evenP : Symmetric p) (q : D → E → E → Bool) (evenQ : Symmetric q) where
  pub whole : (h : History E) (one two afterO afterT : Road E) (cs : List (Call E C)) (ds : List (Call E D)) (l m n : Lent) (as' bs : List (Said E)) → Reached dist h one → Reached dist h two → AllAlike p q cs ds → Ran dist p one cs l as' m afterO → Ran dist q two ds l bs n afterT → Whole dist p q h cs ds l as' m bs n
  whole h one two afterO afterT cs ds l m n as' bs ro rt s x y =
      let u = plays_of dist p evenP top laws h one afterO cs l as' x.turns ro x.runs in
      let v = plays_of dist q evenQ top laws h two afterT ds l bs y.turns rt y.runs in
      let t = same_plays dist p q h cs ds l as' bs x.turns y.turns s u v in
      let P : List Lent → Type 0 = λ z. Plays dist q h ds l bs z in
      record { turns = x.turns; plays = u; plays_again = subst P (sym t.1) v; ends = x.ends; ends_again = ap (final l) t.1 ∙ y.ends; same_answers = t.0 }

-- a list that lacks places
pub judged_unfit : (k calls answers others again : ℕ) (fits fits_again : Result Unit Unplayed) (capacity links second spare : ℕ) (u : Unplayed) → answers ≡ calls → again ≡ others → unless fits fits_again ≡ Err u → OfAList u → JudgedFitting k calls answers others again fits fits_again capacity links second spare (Err u)
judged_unfit k calls answers others again fits fits_again capacity links second spare (play.Hits n) a b e l = (a, b, e)
judged_unfit k calls answers others again fits fits_again capacity links second spare (play.Numbers n) a b e l = (a, b, e)
judged_unfit k calls answers others again fits fits_again capacity links second spare (play.Unmade x) a b e l = absurd l
judged_unfit k calls answers others again fits fits_again capacity links second spare (play.Answers n) a b e l = absurd l

-- calls that the lists fit are compared as before
pub judged_fit : (k calls answers others again : ℕ) (fits fits_again : Result Unit Unplayed) (capacity links second spare : ℕ) (r : Result Unit Unplayed) → answers ≡ calls → again ≡ others → fits ≡ Ok tt → fits_again ≡ Ok tt → Judged k calls answers others again capacity links second spare r → JudgedFitting k calls answers others again fits fits_again capacity links second spare r
judged_fit k calls answers others again fits fits_again capacity links second spare (Ok u) a b f g j = (j.0, j.1, f, g, j.2, j.3, j.4, j.5)
judged_fit k calls answers others again fits fits_again capacity links second spare (Err (play.Answers n)) a b f g j = j
judged_fit k calls answers others again fits fits_again capacity links second spare (Err (play.Hits n)) a b f g j = absurd j
judged_fit k calls answers others again fits fits_again capacity links second spare (Err (play.Numbers n)) a b f g j = absurd j
judged_fit k calls answers others again fits fits_again capacity links second spare (Err (play.Unmade (Setting v))) a b f g j = (j.0, j.1, f, g, j.2, j.3)
judged_fit k calls answers others again fits fits_again capacity links second spare (Err (play.Unmade (TooFewRecords n))) a b f g j = (j.0, j.1, f, g, j.2, j.3, j.4)

-- a roadmap that is not made
module _ {I E : Type 0} (J : _) (M : _) (meaning : I → Meaning E) (i : I) (k : ℕ) where
  pub judged_first : (calls answers others again links second spare : ℕ) (u : Unmade) → answers ≡ calls → again ≡ others → Made {J = J} {M = M} meaning i k links (Err u) → Judged k calls answers others again (meaning i).capacity links second spare (Err (play.Unmade u))
  judged_first calls answers others again links second spare (Setting v) a b m = (a, b, m.0, m.1)
  judged_first calls answers others again links second spare (TooFewRecords n) a b m = (a, b, m.0, m.1, inl (m.2, m.3))

  pub judged_second : (calls answers others again capacity links spare : ℕ) (u : Unmade) → answers ≡ calls → again ≡ others → capacity ≤ links → Made {J = J} {M = M} meaning i k spare (Err u) → Judged k calls answers others again capacity links (meaning i).capacity spare (Err (play.Unmade u))
  judged_second calls answers others again capacity links spare (Setting v) a b f m = (a, b, m.0, m.1)
  judged_second calls answers others again capacity links spare (TooFewRecords n) a b f m = (a, b, m.0, m.1, inr (f, m.2, m.3))
