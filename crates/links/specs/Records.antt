-- The edges that records hold.
use Rattle.std.specs.Prelude.{◌≡◌, ℕ, ◌+◌, ◌*◌, ◌<◌, ◌≤◌, Bool, false, cond, ◌||◌, List, [], ◌∷◌, ◌++◌, map, length, take, Some, None, filter, Option, ◌==◌, slice_index, slice_index_or}
use Rattle.std.specs.List.{flat_map, sum_by, AllByRecursion, AllByRecursion-prop}
use Rattle.std.specs.Coded.{×_prop, Unit-prop, le_prop, Coded-set, coded_ℕ}
use Rattle.hits.specs.declared.Hit.{Hit}
use Rattle.chains.specs.declared.Edge.{Edge}
use Rattle.chains.specs.Edges.{edge, renamed, Inside, Rises}
use Rattle.links.specs.declared.Links.{Links}

abbrev pub numbers : List Links → List ℕ
numbers links = map (λ r. r.number) links

-- the number of the record at a place
abbrev pub number_at : List Links → ℕ → ℕ
number_at links i = slice_index (numbers links) i

-- the elders that a record holds
abbrev pub elders : Links → List Hit
elders r = take r.count r.elders

-- how many elders these records hold together
abbrev pub held : List Links → ℕ
held links = sum_by (λ r. r.count) links

-- at most eight elders, each of a smaller number and no farther than any distance can be
pub record Sound (r : Links) : Type 0 where
  pub count_bound : r.count ≤ 8
  pub places : length r.elders ≡ 8
  pub elder : AllByRecursion (λ h. (h.number < r.number) × (h.distance ≤ 1048576)) (elders r)

-- records by rising number, each sound, at most 1,024
pub record Good (links : List Links) : Type 0 where
  pub rises : Rises 0 (numbers links)
  pub sound : AllByRecursion Sound links
  pub few : length links ≤ 1024

pub rises_prop : (low : ℕ) (ns : List ℕ) → IsProp (Rises low ns)
rises_prop low [] = Unit-prop
rises_prop low (n ∷ ns) = ×_prop le_prop (rises_prop n ns)

pub sound_prop : (r : Links) → IsProp (Sound r)
sound_prop r a b i = record {
  count_bound = le_prop a.count_bound b.count_bound i;
  places = Coded-set coded_ℕ (length r.elders) 8 a.places b.places i;
  elder = AllByRecursion-prop (λ h. (h.number < r.number) × (h.distance ≤ 1048576)) (λ h. ×_prop le_prop le_prop) (elders r) a.elder b.elder i;
}

-- a proof that records are good says nothing more
pub Good-prop : (links : List Links) → IsProp (Good links)
Good-prop links a b i = record {
  rises = rises_prop 0 (numbers links) a.rises b.rises i;
  sound = AllByRecursion-prop Sound sound_prop links a.sound b.sound i;
  few = le_prop a.few b.few i;
}

abbrev pub has : List ℕ → ℕ → Bool
has [] n = false
has (x ∷ xs) n = x == n || has xs n

-- the edge of a sample to one of its elders
abbrev pub edge_to : ℕ → Hit → Edge
edge_to n h = edge h.number n h.distance

-- the edges of a record to the elders that stand
abbrev pub record_edges : List ℕ → Links → List Edge
record_edges standing r = map (edge_to r.number) (filter (λ h. has standing h.number) (elders r))

-- the edges of all records, by rising younger number
abbrev pub edges_among : List ℕ → List Links → List Edge
edges_among standing links = flat_map (record_edges standing) links

abbrev pub edges_of : List Links → List Edge
edges_of links = edges_among (numbers links) links

-- the first n of these edges, by place, are those of the first `upto` records
pub record Resolved (links : List Links) (upto : ℕ) (edges : List Edge) (n : ℕ) : Type 0 where
  pub few : n ≤ 8 * upto
  pub fits : n ≤ held (take upto links)
  pub inside : AllByRecursion (Inside (length links)) (take n edges)
  pub named : map (renamed (number_at links)) (take n edges) ≡ edges_among (numbers links) (take upto links)

-- one more record's edges behind those that were
pub record OneMore (links : List Links) (at : ℕ) (before : List Edge) (made : ℕ) (after : List Edge) (n : ℕ) : Type 0 where
  pub few : n ≤ made + 8
  pub fits : (d : Links) → n ≤ made + (slice_index_or links at d).count
  pub inside : AllByRecursion (Inside (length links)) (take made before) → AllByRecursion (Inside (length links)) (take n after)
  pub named : (d : Links) → map (renamed (number_at links)) (take n after) ≡ map (renamed (number_at links)) (take made before) ++ record_edges (numbers links) (slice_index_or links at d)

-- where the record of a number is, or nowhere
abbrev pub Found : ℕ → List Links → Option ℕ → Type 0
Found n links None = has (numbers links) n ≡ false
Found n links (Some i) = (i < length links) × (number_at links i ≡ n)

-- the edge ends at n
abbrev pub touches : ℕ → Edge → Bool
touches n e = e.elder == n || e.younger == n

-- the edges that do not end at n
abbrev pub edges_without : ℕ → List Edge → List Edge
edges_without n [] = []
edges_without n (e ∷ es) = cond (touches n e) (edges_without n es) (e ∷ edges_without n es)
