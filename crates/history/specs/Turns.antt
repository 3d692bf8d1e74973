-- Turns of a run on a roadmap, from what the roadmap means.
use Rattle.std.specs.Prelude.{◌≡◌, ℕ, Bool, List, [], ◌∷◌, ◌++◌, take, drop, Ok, Err, Result}
use Rattle.hits.specs.declared.Hit.{Hit}
use Rattle.index.specs.declared.refusal.Refusal.{Refusal}
use Rattle.index.specs.Outcomes.{number_of, figures_of}
use Rattle.roadmap.specs.Roads.{Road}
use Rattle.history_theory.specs.Tells.{Tells}
use Rattle.history.specs.declared.Call.{Call}
use Rattle.history.specs.declared.Call.TheVariants as call
use Rattle.history.specs.declared.Answer.{Answer}
use Rattle.history.specs.declared.Answer.TheVariants as answer
use Rattle.history.specs.Fitting.{hit_places, number_places}
use Rattle.history_theory.specs.History.{Asked, asks_add, asks_drop, asks_element, asks_tally, asks_near, asks_within, asks_island, asks_route, Reply, grew, shrank, shows, tallies, nears, withins, names, leads, refused, Lists, no_list, hit_list, number_list}

-- what the two lists of a run hold
pub record Lent : Type 0 where
  pub hits : List Hit
  pub numbers : List ℕ

abbrev pub lent : List Hit → List ℕ → Lent
lent h n = record { hits = h; numbers = n }

-- what a call answers: an answer, or a refusal
abbrev pub Said : Type 0 → Type 0
Said E = Result (Answer E) Refusal

-- what that says
abbrev pub reply : {E : Type 0} → Said E → Reply E
reply (Ok (answer.Added n edges)) = grew n edges
reply (Ok answer.Dropped) = shrank
reply (Ok (answer.Element e)) = shows e
reply (Ok (answer.Tally c s l)) = tallies c s l
reply (Ok (answer.Near n)) = nears n
reply (Ok (answer.Within n)) = withins n
reply (Ok (answer.Island n)) = names n
reply (Ok (answer.Route l n)) = leads l n
reply (Err f) = refused (number_of f) (figures_of f)

-- a call as a history has it: its checker as the pairs that it passes, its list by what its places hold
abbrev pub asked : {E C : Type 0} → (C → E → E → Bool) → Call E C → Lent → Asked E
asked passes (call.Add e c) l = asks_add e (passes c)
asked passes (call.Drop n) l = asks_drop n
asked passes (call.Element n) l = asks_element n
asked passes call.Tally l = asks_tally
asked passes (call.Near q k places) l = asks_near q k (take places l.hits)
asked passes (call.Within q r places) l = asks_within q r (take places l.hits)
asked passes (call.Island n) l = asks_island n
asked passes (call.Route a b places) l = asks_route a b (take places l.numbers)

-- the run's lists after a turn: the call's places as it left them, all others as they were
abbrev pub lists_after : {E C : Type 0} → Call E C → Lent → Lists → Lent
lists_after c l no_list = l
lists_after c l (hit_list x) = lent (x ++ drop (hit_places c) l.hits) l.numbers
lists_after c l (number_list x) = lent l.hits (x ++ drop (number_places c) l.numbers)

module _ {E C : Type 0} (dist : E → E → ℕ) (passes : C → E → E → Bool) where
  pub record Does (road : Road E) (c : Call E C) (l : Lent) (a : Said E) (m : Lent) (after : Road E) : Type 0 where
    pub lists : Lists
    pub tells : Tells dist road (asked passes c l) (reply a) lists after
    pub leaves : m ≡ lists_after c l lists

  -- a run, with its lists after each turn
  abbrev pub Runs : Road E → List (Call E C) → Lent → List (Said E) → List Lent → Road E → Type 0
  Runs road [] l [] [] after = after ≡ road
  Runs road [] l [] (m ∷ ms) after = ⊥
  Runs road [] l (a ∷ as') ms after = ⊥
  Runs road (c ∷ cs) l [] ms after = ⊥
  Runs road (c ∷ cs) l (a ∷ as') [] after = ⊥
  Runs road (c ∷ cs) l (a ∷ as') (m ∷ ms) after = (next : Road E) × Does road c l a m next × Runs next cs m as' ms after

abbrev pub final : Lent → List Lent → Lent
final l [] = l
final l (m ∷ ms) = final m ms

pub record Ran {E C : Type 0} (dist : E → E → ℕ) (passes : C → E → E → Bool) (road : Road E) (cs : List (Call E C)) (l : Lent) (answers : List (Said E)) (m : Lent) (after : Road E) : Type 0 where
  pub turns : List Lent
  pub runs : Runs dist passes road cs l answers turns after
  pub ends : final l turns ≡ m
