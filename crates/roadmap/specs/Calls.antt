-- What each call of a roadmap tells and leaves, from what the roadmap means.
use Rattle.std.specs.Prelude.{◌≡◌, ℕ, ◌+◌, ◌≤◌, Bool, false, List, [], ◌∷◌, ◌++◌, map, length, take, Some, None, filter, Option}
use Rattle.std.specs.List.{AllByRecursion}
use Rattle.hits.specs.declared.Hit.{Hit}
use Rattle.chains.specs.declared.Edge.{Edge}
use Rattle.chains.specs.Chains.{Island}
use Rattle.chains.specs.Edges.{Linked}
use Rattle.index.specs.Meaning.{Meaning, added, element_at}
use Rattle.index.specs.Outcomes.{Outcome, gives, refuses, given_room}
use Rattle.index.specs.Calls.{room_of, drop_leaves, near_count, near_hits}
use Rattle.links.specs.declared.Links.{Links}
use Rattle.links.specs.Records.{numbers, elders, edge_to, edges_without}
use Rattle.graph.specs.Routes.{Routed}
use Rattle.roadmap.specs.Roads.{Road, Stands, sample_numbers}

module _ {E : Type 0} where
  abbrev pub passes_with : (E → E → Bool) → E → Option E → Bool
  passes_with passes e None = false
  passes_with passes e (Some elder) = passes elder e

  -- the pair of a hit's sample and e is passed
  abbrev pub passes_hit : (E → E → Bool) → E → Meaning E → Hit → Bool
  passes_hit passes e m h = passes_with passes e (element_at h.number m.standing)

  module _ (dist : E → E → ℕ) (passes : E → E → Bool) where
    -- of the k nearest, before e is filed, those whose pair with e is passed
    abbrev pub linked_hits : Road E → E → List Hit
    linked_hits road e = filter (passes_hit passes e road.index) (near_hits dist road.index e road.k)

    -- the number and how many edges
    abbrev pub grow_outcome : Road E → E → Outcome (ℕ × ℕ)
    grow_outcome road e = given_room (room_of road.index) (road.index.last + 1, length (linked_hits road e))

    abbrev pub grown : Road E → E → Road E
    grown road e = record { index = added road.index e; k = road.k; edges = road.edges ++ map (edge_to (road.index.last + 1)) (linked_hits road e) }

    abbrev pub grow_leaves_at : Road E → E → Outcome Unit → Road E
    grow_leaves_at road e (gives u) = grown road e
    grow_leaves_at road e (refuses n figures) = road

    abbrev pub grow_leaves : Road E → E → Road E
    grow_leaves road e = grow_leaves_at road e (room_of road.index)

  abbrev pub shrunk_edges : ℕ → List Edge → Option E → List Edge
  shrunk_edges n edges None = edges
  shrunk_edges n edges (Some e) = edges_without n edges

  abbrev pub shrink_leaves : Road E → ℕ → Road E
  shrink_leaves road n = record { index = drop_leaves road.index n; k = road.k; edges = shrunk_edges n road.edges (element_at n road.index.standing) }

  abbrev pub IslandToldAt : Road E → ℕ → Outcome ℕ → Option E → Type 0
  IslandToldAt road n o None = o ≡ refuses 5 (n ∷ [])
  IslandToldAt road n o (Some e) = (m : ℕ) × (o ≡ gives m) × Island (Stands road.index) (Linked road.edges) n m

  -- refused by 5 if n does not stand, else the smallest number that a chain of edges joins to n
  abbrev pub IslandTold : Road E → ℕ → Outcome ℕ → Type 0
  IslandTold road n o = IslandToldAt road n o (element_at n road.index.standing)

  -- refused by 5 for the start, then by 5 for the goal, else as between two that stand
  pub data RouteTold (road : Road E) (a b : ℕ) (list : List ℕ) : Outcome (ℕ × ℕ) → List ℕ → Type 0 where
    no_start : element_at a road.index.standing ≡ None → RouteTold road a b list (refuses 5 (a ∷ [])) list
    no_goal : Stands road.index a → element_at b road.index.standing ≡ None → RouteTold road a b list (refuses 5 (b ∷ [])) list
    between : (o : Outcome (ℕ × ℕ)) (after : List ℕ) → Stands road.index a → Stands road.index b → Routed (Stands road.index) (Linked road.edges) a b list o after → RouteTold road a b list o after

  -- the nearest hits were written
  pub record Nearest (dist : E → E → ℕ) (m : Meaning E) (q : E) (k r : ℕ) (hits : List Hit) : Type 0 where
    pub count : r ≡ near_count m k
    pub writes : take r hits ≡ near_hits dist m q k

  -- the record holds those of these hits whose pair is passed
  pub record LinkedTo (passes : E → E → Bool) (e : E) (m : Meaning E) (n : ℕ) (hits : List Hit) (r : Links) : Type 0 where
    pub number : r.number ≡ n
    pub places : length r.elders ≡ 8
    pub elder : elders r ≡ filter (passes_hit passes e m) hits
    pub count : r.count ≡ length (filter (passes_hit passes e m) hits)

  -- one record without edges for each standing sample
  pub record Filled (m : Meaning E) (used : ℕ) (links : List Links) : Type 0 where
    pub used_bound : used ≤ length links
    pub unlinked : AllByRecursion (λ r. r.count ≡ 0) (take used links)
    pub places : AllByRecursion (λ r. length r.elders ≡ 8) (take used links)
    pub numbered : numbers (take used links) ≡ sample_numbers m
