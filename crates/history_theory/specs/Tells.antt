-- What a roadmap tells to one call, and what it then means.
use Rattle.std.specs.Prelude.{◌≡◌, ℕ, List}
use Rattle.index.specs.Calls.{drop_outcome, element_outcome, tally_of, near_outcome, near_list, within_count, within_list}
use Rattle.index.specs.Outcomes.{Outcome}
use Rattle.roadmap.specs.Roads.{Road}
use Rattle.roadmap.specs.Calls.{grow_outcome, grow_leaves, shrink_leaves, IslandTold, RouteTold}
use Rattle.history_theory.specs.History.{Asked, asks_add, asks_drop, asks_element, asks_tally, asks_near, asks_within, asks_island, asks_route, Reply, grew, shrank, shows, tallies, nears, withins, names, leads, Lists, no_list, hit_list, number_list, reply_of}

module _ {E : Type 0} (dist : E → E → ℕ) where
  -- one call on a roadmap: what it replies, its list afterwards, and what the roadmap then means
  abbrev pub Tells : Road E → Asked E → Reply E → Lists → Road E → Type 0
  Tells road (asks_add e p) a l after = (a ≡ reply_of (λ x. grew x.0 x.1) (grow_outcome dist p road e)) × (l ≡ no_list) × (after ≡ grow_leaves dist p road e)
  Tells road (asks_drop n) a l after = (a ≡ reply_of (λ x. shrank) (drop_outcome road.index n)) × (l ≡ no_list) × (after ≡ shrink_leaves road n)
  Tells road (asks_element n) a l after = (a ≡ reply_of shows (element_outcome road.index n)) × (l ≡ no_list) × (after ≡ road)
  Tells road asks_tally a l after = (a ≡ tallies (tally_of road.index).0 (tally_of road.index).1 (tally_of road.index).2) × (l ≡ no_list) × (after ≡ road)
  Tells road (asks_near q k list) a l after = (a ≡ reply_of nears (near_outcome road.index k list)) × (l ≡ hit_list (near_list dist road.index q k list)) × (after ≡ road)
  Tells road (asks_within q r list) a l after = (a ≡ withins (within_count dist road.index q r)) × (l ≡ hit_list (within_list dist road.index q r list)) × (after ≡ road)
  Tells road (asks_island n) a l after = ((o : Outcome ℕ) × (a ≡ reply_of names o) × IslandTold road n o) × (l ≡ no_list) × (after ≡ road)
  Tells road (asks_route x y list) a l after = ((o : Outcome (ℕ × ℕ)) × (written : List ℕ) × (a ≡ reply_of (λ z. leads z.0 z.1) o) × RouteTold road x y list o written × (l ≡ number_list written)) × (after ≡ road)
