-- What each call of an index tells, leaves and writes, from what the index means.
use Rattle.std.specs.Prelude.{ℕ, ◌+◌, min, Bool, cond, ◌||◌, List, [], ◌∷◌, length, take, Some, None, Option, ◌==◌, nat_lt}
use Rattle.hits.specs.declared.Hit.{Hit}
use Rattle.hits.specs.Order.{inside}
use Rattle.hits.specs.Lists.{over}
use Rattle.hits.specs.Samples.{hits}
use Rattle.index.specs.Meaning.{Meaning, added, dropped, element_at}
use Rattle.index.specs.Outcomes.{Outcome, gives, refuses, room_outcome, given_room}

-- near refuses a count of 0 or above the list's length
abbrev pub bad_count : {X : Type 0} → ℕ → List X → Bool
bad_count k list = k == 0 || nat_lt (length list) k

module _ {E : Type 0} where
  -- whether one more sample can be filed
  abbrev pub room_of : Meaning E → Outcome Unit
  room_of m = room_outcome m.capacity (length m.standing) m.last

  abbrev pub add_outcome : Meaning E → Outcome ℕ
  add_outcome m = given_room (room_of m) (m.last + 1)

  abbrev pub add_leaves_at : Meaning E → E → Outcome Unit → Meaning E
  add_leaves_at m e (gives u) = added m e
  add_leaves_at m e (refuses n figures) = m

  abbrev pub add_leaves : Meaning E → E → Meaning E
  add_leaves m e = add_leaves_at m e (room_of m)

  -- the outcome of a call that asks for a standing sample
  abbrev pub standing_outcome : {A : Type 0} → (E → A) → ℕ → Option E → Outcome A
  standing_outcome f n None = refuses 5 (n ∷ [])
  standing_outcome f n (Some e) = gives (f e)

  abbrev pub drop_outcome : Meaning E → ℕ → Outcome Unit
  drop_outcome m n = standing_outcome (λ e. tt) n (element_at n m.standing)

  abbrev pub drop_leaves_at : Meaning E → ℕ → Option E → Meaning E
  drop_leaves_at m n None = m
  drop_leaves_at m n (Some e) = dropped m n

  abbrev pub drop_leaves : Meaning E → ℕ → Meaning E
  drop_leaves m n = drop_leaves_at m n (element_at n m.standing)

  abbrev pub element_outcome : Meaning E → ℕ → Outcome E
  element_outcome m n = standing_outcome (λ e. e) n (element_at n m.standing)

  abbrev pub tally_of : Meaning E → ℕ × ℕ × ℕ
  tally_of m = (m.capacity, length m.standing, m.last)

  -- how many hits near writes
  abbrev pub near_count : Meaning E → ℕ → ℕ
  near_count m k = min k (length m.standing)

  abbrev pub near_outcome : Meaning E → ℕ → List Hit → Outcome ℕ
  near_outcome m k list = cond (bad_count k list) (refuses 2 []) (gives (near_count m k))

  module _ (dist : E → E → ℕ) where
    abbrev pub near_hits : Meaning E → E → ℕ → List Hit
    near_hits m q k = take (near_count m k) (hits dist q m.standing)

    abbrev pub near_list : Meaning E → E → ℕ → List Hit → List Hit
    near_list m q k list = cond (bad_count k list) list (over (near_hits m q k) list)

    abbrev pub within_hits : Meaning E → E → ℕ → List Hit
    within_hits m q r = inside r (hits dist q m.standing)

    abbrev pub within_count : Meaning E → E → ℕ → ℕ
    within_count m q r = length (within_hits m q r)

    abbrev pub within_list : Meaning E → E → ℕ → List Hit → List Hit
    within_list m q r list = over (take (length list) (within_hits m q r)) list
