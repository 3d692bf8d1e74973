-- The law over histories: what is owed of every turn of a run, and of two runs of one history.
use Rattle.std.specs.Prelude.{◌≡◌, ℕ, ◌<◌, ◌≤◌, Bool, ◌⊎◌, List, [], ◌∷◌, Ok, Err, Result, ◌≢◌}
use Rattle.history.specs.declared.Call.{Call}
use Rattle.history.specs.declared.Call.TheVariants as call
use Rattle.history.specs.declared.Unplayed.{Unplayed}
use Rattle.history.specs.declared.Unplayed.TheVariants.{Unmade, Answers, Hits, Numbers}
use Rattle.roadmap.specs.declared.Unmade.TheVariants.{Setting, TooFewRecords}
use Rattle.index.specs.Meaning.{Meaning, fresh}
use Rattle.roadmap.specs.Roads.{Road}
use Rattle.history_theory.specs.History.{Reply, Lists, History, start, then_asks, Gives}
use Rattle.history_theory.specs.Owed.{Owed}
use Rattle.history.specs.Fitting.{unless}
use Rattle.history.specs.Turns.{Said, Lent, reply, asked, lists_after, final, Ran}

module _ {E C : Type 0} (dist : E → E → ℕ) (passes : C → E → E → Bool) where
  -- one turn of a run: the call is answered, and its list left, as the history gives, with what is owed of it
  pub record Turn (h : History E) (c : Call E C) (l : Lent) (a : Said E) (m : Lent) : Type 0 where
    pub lists : Lists
    pub gives : Gives dist h (asked passes c l) (reply a) lists
    pub leaves : m ≡ lists_after c l lists
    pub owed : Owed dist h (asked passes c l) (reply a) lists

  -- every turn of a run, each on the history that the turns before it make
  abbrev pub Plays : History E → List (Call E C) → Lent → List (Said E) → List Lent → Type 0
  Plays h [] l [] [] = Unit {0}
  Plays h [] l [] (m ∷ ms) = ⊥
  Plays h [] l (a ∷ as') ms = ⊥
  Plays h (c ∷ cs) l [] ms = ⊥
  Plays h (c ∷ cs) l (a ∷ as') [] = ⊥
  Plays h (c ∷ cs) l (a ∷ as') (m ∷ ms) = Turn h c l a m × Plays (then_asks h (asked passes c l)) cs m as' ms

-- A run of a history: every turn is as the history gives, with what is owed of islands and routes.
pub record Played {E C : Type 0} (dist : E → E → ℕ) (passes : C → E → E → Bool) (h : History E) (cs : List (Call E C)) (l : Lent) (answers : List (Said E)) (m : Lent) : Type 0 where
  pub turns : List Lent
  pub plays : Plays dist passes h cs l answers turns
  pub ends : final l turns ≡ m

-- A run by itself: over any index every turn is as the roadmap's own call tells it, and over a fresh one it is a run of its
-- history.
pub record Alone {E C : Type 0} (dist : E → E → ℕ) (passes : C → E → E → Bool) (k : ℕ) (index : Meaning E) (cs : List (Call E C)) (l : Lent) (answers : List (Said E)) (m : Lent) : Type 0 where
  pub after : Road E
  pub ran : Ran dist passes (record { index = index; k = k; edges = [] }) cs l answers m after
  pub played : (size : ℕ) → index ≡ fresh size → Played dist passes (start k size) cs l answers m

-- two calls that ask the same: equal arguments, and checkers that pass the same pairs
pub data Alike {E C D : Type 0} (p : C → E → E → Bool) (q : D → E → E → Bool) : Call E C → Call E D → Type 0 where
  adds : (e : E) (c : C) (d : D) → ((x y : E) → p c x y ≡ q d x y) → Alike p q (call.Add e c) (call.Add e d)
  drops : (n : ℕ) → Alike p q (call.Drop n) (call.Drop n)
  elements : (n : ℕ) → Alike p q (call.Element n) (call.Element n)
  tallied : Alike p q call.Tally call.Tally
  neared : (e : E) (k places : ℕ) → Alike p q (call.Near e k places) (call.Near e k places)
  ranged : (e : E) (r places : ℕ) → Alike p q (call.Within e r places) (call.Within e r places)
  islands : (n : ℕ) → Alike p q (call.Island n) (call.Island n)
  routes : (a b places : ℕ) → Alike p q (call.Route a b places) (call.Route a b places)

abbrev pub AllAlike : {E C D : Type 0} → (C → E → E → Bool) → (D → E → E → Bool) → List (Call E C) → List (Call E D) → Type 0
AllAlike p q [] [] = Unit {0}
AllAlike p q [] (d ∷ ds) = ⊥
AllAlike p q (c ∷ cs) [] = ⊥
AllAlike p q (c ∷ cs) (d ∷ ds) = Alike p q c d × AllAlike p q cs ds

abbrev pub replies : {E : Type 0} → List (Said E) → List (Reply E)
replies [] = []
replies (a ∷ rest) = reply a ∷ replies rest

-- Agreement. Two runs of one history: every turn of either is as the history gives, with what is owed of islands and
-- routes; at every turn the lists of both hold the same, and the two answer alike.
pub record Whole {E C D : Type 0} (dist : E → E → ℕ) (p : C → E → E → Bool) (q : D → E → E → Bool) (h : History E) (cs : List (Call E C)) (ds : List (Call E D)) (l : Lent) (answers : List (Said E)) (m : Lent) (again : List (Said E)) (n : Lent) : Type 0 where
  pub turns : List Lent
  pub plays : Plays dist p h cs l answers turns
  pub plays_again : Plays dist q h ds l again turns
  pub ends : final l turns ≡ m
  pub ends_again : final l turns ≡ n
  pub same_answers : replies answers ≡ replies again

-- Whether a comparison is made: refused exactly if the answers do not fit the calls, first of the one run, then of the other;
-- else if a roadmap cannot be made, first the one, then the other.
abbrev pub Judged : (k calls answers others again capacity links second spare : ℕ) → Result Unit Unplayed → Type 0
Judged k calls answers others again capacity links second spare (Ok u) = (answers ≡ calls) × (again ≡ others) × (1 ≤ k) × (k ≤ 8) × (capacity ≤ links) × (second ≤ spare)
Judged k calls answers others again capacity links second spare (Err (Answers n)) = ((n ≡ calls) × (answers ≢ calls)) ⊎ ((answers ≡ calls) × (n ≡ others) × (again ≢ others))
Judged k calls answers others again capacity links second spare (Err (Unmade (Setting v))) = (answers ≡ calls) × (again ≡ others) × (v ≡ k) × ((k ≡ 0) ⊎ (8 < k))
Judged k calls answers others again capacity links second spare (Err (Unmade (TooFewRecords n))) = (answers ≡ calls) × (again ≡ others) × (1 ≤ k) × (k ≤ 8) × (((n ≡ capacity) × (links < capacity)) ⊎ ((capacity ≤ links) × (n ≡ second) × (spare < second)))
Judged k calls answers others again capacity links second spare (Err (Hits n)) = ⊥
Judged k calls answers others again capacity links second spare (Err (Numbers n)) = ⊥

-- Whether a comparison is made of calls that the lists fit: refused exactly if the answers do not fit the calls, first of the one run, then of the other;
-- else if a call asks for more places than the lists have, first of the one run, then of the other; else if a roadmap cannot be
-- made, first the one, then the other.
abbrev pub JudgedFitting : (k calls answers others again : ℕ) (fits fits_again : Result Unit Unplayed) (capacity links second spare : ℕ) → Result Unit Unplayed → Type 0
JudgedFitting k calls answers others again fits fits_again capacity links second spare (Ok u) = (answers ≡ calls) × (again ≡ others) × (fits ≡ Ok tt) × (fits_again ≡ Ok tt) × (1 ≤ k) × (k ≤ 8) × (capacity ≤ links) × (second ≤ spare)
JudgedFitting k calls answers others again fits fits_again capacity links second spare (Err (Answers n)) = ((n ≡ calls) × (answers ≢ calls)) ⊎ ((answers ≡ calls) × (n ≡ others) × (again ≢ others))
JudgedFitting k calls answers others again fits fits_again capacity links second spare (Err (Hits n)) = (answers ≡ calls) × (again ≡ others) × (unless fits fits_again ≡ Err (Hits n))
JudgedFitting k calls answers others again fits fits_again capacity links second spare (Err (Numbers n)) = (answers ≡ calls) × (again ≡ others) × (unless fits fits_again ≡ Err (Numbers n))
JudgedFitting k calls answers others again fits fits_again capacity links second spare (Err (Unmade (Setting v))) = (answers ≡ calls) × (again ≡ others) × (fits ≡ Ok tt) × (fits_again ≡ Ok tt) × (v ≡ k) × ((k ≡ 0) ⊎ (8 < k))
JudgedFitting k calls answers others again fits fits_again capacity links second spare (Err (Unmade (TooFewRecords n))) = (answers ≡ calls) × (again ≡ others) × (fits ≡ Ok tt) × (fits_again ≡ Ok tt) × (1 ≤ k) × (k ≤ 8) × (((n ≡ capacity) × (links < capacity)) ⊎ ((capacity ≤ links) × (n ≡ second) × (spare < second)))
