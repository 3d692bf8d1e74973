-- Whether the lists of a run have the places that its calls ask for.
use Rattle.std.specs.Prelude.{ℕ, cond, List, [], ◌∷◌, Ok, Err, Result, nat_le}
use Rattle.history.specs.declared.Call.{Call}
use Rattle.history.specs.declared.Call.TheVariants as call
use Rattle.history.specs.declared.Unplayed.{Unplayed}
use Rattle.history.specs.declared.Unplayed.TheVariants.{Hits, Numbers}

module _ {E C : Type 0} where
  -- how many places of a list of hits a call asks for
  abbrev pub hit_places : Call E C → ℕ
  hit_places (call.Add e c) = 0
  hit_places (call.Drop n) = 0
  hit_places (call.Element n) = 0
  hit_places call.Tally = 0
  hit_places (call.Near q k places) = places
  hit_places (call.Within q r places) = places
  hit_places (call.Island n) = 0
  hit_places (call.Route a b places) = 0

  -- how many places of a list of numbers a call asks for
  abbrev pub number_places : Call E C → ℕ
  number_places (call.Add e c) = 0
  number_places (call.Drop n) = 0
  number_places (call.Element n) = 0
  number_places call.Tally = 0
  number_places (call.Near q k places) = 0
  number_places (call.Within q r places) = 0
  number_places (call.Island n) = 0
  number_places (call.Route a b places) = places

  -- a call is refused if it asks for more places than there are, with how many it asks for
  abbrev pub fits_call : ℕ → ℕ → Call E C → Result Unit Unplayed
  fits_call hits numbers c = cond (nat_le (hit_places c) hits) (cond (nat_le (number_places c) numbers) (Ok tt) (Err (Numbers (number_places c)))) (Err (Hits (hit_places c)))

-- a refusal, or else what comes later
abbrev pub unless : Result Unit Unplayed → Result Unit Unplayed → Result Unit Unplayed
unless (Ok u) later = later
unless (Err e) later = Err e

-- the first call that is refused
abbrev pub fitting : {E C : Type 0} → ℕ → ℕ → List (Call E C) → Result Unit Unplayed
fitting hits numbers [] = Ok tt
fitting hits numbers (c ∷ cs) = unless (fits_call hits numbers c) (fitting hits numbers cs)
