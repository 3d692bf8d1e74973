-- Histories in the subject's own words: what stands, admitted pairs, chains, islands, routes, and what a history gives to one
-- more call.
use Rattle.std.specs.Prelude.{◌≡◌, ℕ, ◌<◌, min, Bool, true, ◌⊎◌, List, [], ◌∷◌, ◌++◌, length, take, Some, None, Option}
use Rattle.hits.specs.declared.Hit.{Hit}
use Rattle.hits.specs.Samples.{hits}
use Rattle.chains.specs.Chains.{Island}
use Rattle.index.specs.Meaning.{Meaning, fresh, element_at}
use Rattle.index.specs.Outcomes.{Outcome, gives, refuses}
use Rattle.index.specs.Calls.{add_outcome, add_leaves, drop_outcome, drop_leaves, element_outcome, tally_of, near_outcome, near_list, within_count, within_list}
use Rattle.graph.specs.Routes.{Routed}
use Rattle.roadmap.specs.Roads.{Stands}
use Rattle.roadmap.specs.Calls.{grow_outcome}

-- one call with its arguments: a checker as the set of pairs that it passes, a list by what it holds
pub data Asked (E : Type 0) : Type 0 where
  asks_add : E → (E → E → Bool) → Asked E
  asks_drop : ℕ → Asked E
  asks_element : ℕ → Asked E
  asks_tally : Asked E
  asks_near : E → ℕ → List Hit → Asked E
  asks_within : E → ℕ → List Hit → Asked E
  asks_island : ℕ → Asked E
  asks_route : ℕ → ℕ → List ℕ → Asked E

-- what a call replies, a refusal by its number and figures
pub data Reply (E : Type 0) : Type 0 where
  grew : ℕ → ℕ → Reply E
  shrank : Reply E
  shows : E → Reply E
  tallies : ℕ → ℕ → ℕ → Reply E
  nears : ℕ → Reply E
  withins : ℕ → Reply E
  names : ℕ → Reply E
  leads : ℕ → ℕ → Reply E
  refused : ℕ → List ℕ → Reply E

-- what the list of a call holds afterwards
pub data Lists : Type 0 where
  no_list : Lists
  hit_list : List Hit → Lists
  number_list : List ℕ → Lists

-- k, the capacity of the fresh index, and the calls, the latest first
pub record History (E : Type 0) : Type 0 where
  pub k : ℕ
  pub capacity : ℕ
  pub calls : List (Asked E)

abbrev pub reply_of : {A E : Type 0} → (A → Reply E) → Outcome A → Reply E
reply_of f (gives x) = f x
reply_of f (refuses n figures) = refused n figures

-- a hit of this number is among these
abbrev pub HitAmong : ℕ → List Hit → Type 0
HitAmong n [] = ⊥
HitAmong n (x ∷ xs) = (x.number ≡ n) ⊎ HitAmong n xs

module _ {E : Type 0} where
  abbrev pub left_by : Asked E → Meaning E → Meaning E
  left_by (asks_add e p) m = add_leaves m e
  left_by (asks_drop n) m = drop_leaves m n
  left_by (asks_element n) m = m
  left_by asks_tally m = m
  left_by (asks_near q k l) m = m
  left_by (asks_within q r l) m = m
  left_by (asks_island n) m = m
  left_by (asks_route a b l) m = m

  abbrev pub samples_after : ℕ → List (Asked E) → Meaning E
  samples_after capacity [] = fresh capacity
  samples_after capacity (c ∷ before) = left_by c (samples_after capacity before)

  -- the samples after a history: those that the index rules give for its adds and drops
  abbrev pub samples : History E → Meaning E
  samples h = samples_after h.capacity h.calls

  abbrev pub start : ℕ → ℕ → History E
  start k capacity = record { k = k; capacity = capacity; calls = [] }

  abbrev pub then_asks : History E → Asked E → History E
  then_asks h c = record { k = h.k; capacity = h.capacity; calls = c ∷ h.calls }

  -- the add that brought a sample: its element, its checker, and the history before it
  pub record Brought (h : History E) (n : ℕ) (e : E) (passes : E → E → Bool) (before : History E) : Type 0 where
    pub later : List (Asked E)
    pub calls : h.calls ≡ later ++ (asks_add e passes ∷ before.calls)
    pub capacity : h.capacity ≡ before.capacity
    pub k : h.k ≡ before.k
    pub number : add_outcome (samples before) ≡ gives n

  module _ (dist : E → E → ℕ) where
    -- An admitted pair: both stand; the elder was among the first min(k, standing) hits for the younger's element before that
    -- was added; and the checker of that add passes them.
    pub record Admits (h : History E) (elder younger : ℕ) : Type 0 where
      pub older : elder < younger
      pub neighbour : E
      pub elder_stands : element_at elder (samples h).standing ≡ Some neighbour
      pub element : E
      pub younger_stands : element_at younger (samples h).standing ≡ Some element
      pub passes : E → E → Bool
      pub before : History E
      pub brought : Brought h younger element passes before
      pub among : HitAmong elder (take (min h.k (length (samples before).standing)) (hits dist element (samples before).standing))
      pub passed : passes neighbour element ≡ true

    abbrev pub apart : Option E → Option E → ℕ
    apart None y = 0
    apart (Some e) None = 0
    apart (Some e) (Some f) = dist e f

    -- the distance of two samples
    abbrev pub distance_of : History E → ℕ → ℕ → ℕ
    distance_of h x y = apart (element_at x (samples h).standing) (element_at y (samples h).standing)

    -- x and y are an admitted pair, and d apart
    abbrev pub Pair : History E → ℕ → ℕ → ℕ → Type 0
    Pair h x y d = (Admits h x y ⊎ Admits h y x) × (d ≡ distance_of h x y)

    -- refused by 5 if n does not stand, else the smallest number that a chain of admitted pairs joins to it
    abbrev pub IslandGiven : History E → ℕ → Reply E → Option E → Type 0
    IslandGiven h n a None = a ≡ refused 5 (n ∷ [])
    IslandGiven h n a (Some e) = (m : ℕ) × (a ≡ names m) × Island (Stands (samples h)) (Pair h) n m

    -- refused by 5 for the start, by 5 for the goal, by 6 if no chain joins them, by 7 if the list is shorter than the chosen
    -- chain; else that chain is written
    pub data RouteGiven (h : History E) (a b : ℕ) (list : List ℕ) : Reply E → List ℕ → Type 0 where
      no_start : element_at a (samples h).standing ≡ None → RouteGiven h a b list (refused 5 (a ∷ [])) list
      no_goal : Stands (samples h) a → element_at b (samples h).standing ≡ None → RouteGiven h a b list (refused 5 (b ∷ [])) list
      between : Stands (samples h) a → Stands (samples h) b → (o : Outcome (ℕ × ℕ)) (after : List ℕ) → Routed (Stands (samples h)) (Pair h) a b list o after → RouteGiven h a b list (reply_of (λ x. leads x.0 x.1) o) after

    -- what a history gives to one more call: its reply, and what its list then holds
    abbrev pub Gives : History E → Asked E → Reply E → Lists → Type 0
    Gives h (asks_add e p) a l = (a ≡ reply_of (λ x. grew x.0 x.1) (grow_outcome dist p (record { index = samples h; k = h.k; edges = [] }) e)) × (l ≡ no_list)
    Gives h (asks_drop n) a l = (a ≡ reply_of (λ x. shrank) (drop_outcome (samples h) n)) × (l ≡ no_list)
    Gives h (asks_element n) a l = (a ≡ reply_of shows (element_outcome (samples h) n)) × (l ≡ no_list)
    Gives h asks_tally a l = (a ≡ tallies (tally_of (samples h)).0 (tally_of (samples h)).1 (tally_of (samples h)).2) × (l ≡ no_list)
    Gives h (asks_near q k list) a l = (a ≡ reply_of nears (near_outcome (samples h) k list)) × (l ≡ hit_list (near_list dist (samples h) q k list))
    Gives h (asks_within q r list) a l = (a ≡ withins (within_count dist (samples h) q r)) × (l ≡ hit_list (within_list dist (samples h) q r list))
    Gives h (asks_island n) a l = IslandGiven h n a (element_at n (samples h).standing) × (l ≡ no_list)
    Gives h (asks_route x y list) a l = (after : List ℕ) × RouteGiven h x y list a after × (l ≡ number_list after)
