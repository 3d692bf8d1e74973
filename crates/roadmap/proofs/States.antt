-- The states of a roadmap before and after a call. Assumes nothing.
use Rattle.std.proofs.Common.{◌≡◌, ℕ, ◌+◌, ◌-◌, ◌<◌, ◌≤◌, Bool, true, ◌⊎◌, List, [], ◌∷◌, ◌++◌, map, length, take, set, Some, None, filter, Option, Result, sym, refl, ap, ◌∙◌, subst, inl, inr, arith, length-set, length-take}
use Rattle.std.specs.List.{AllByRecursion}
use Rattle.std.specs.Option.{ok_or}
use Rattle.std.proofs.lemmas.List.{take_more_set, map_push, length-map}
use Rattle.std.proofs.ByRecursion.{All-push, All-take, all_kept_by, All-weaker}
use Rattle.std.proofs.lemmas.List.Sums.{length-filter, count_by-le-length}
use Rattle.metric.specs.Laws.{MetricLaws}
use Rattle.hits.specs.declared.Hit.{Hit}
use Rattle.hits.specs.Samples.{Sample, Among, Rising, hits, hit_of, numbers_of}
use Rattle.hits.specs.Lists.{closed}
use Rattle.hits.proofs.Putting.{all_put}
use Rattle.chains.specs.Chains.{Island}
use Rattle.chains.specs.Edges.{Linked}
use Rattle.chains.proofs.Places.{among_at}
use Rattle.graph.specs.Routes.{Standing, Routed}
use Rattle.index.specs.declared.refusal.Refusal.{Refusal}
use Rattle.index.specs.declared.refusal.Refusal.TheVariants.{NotStanding}
use Rattle.index.specs.Meaning.{Meaning, Lawful, added, dropped, element_at}
use Rattle.index.specs.Outcomes.{Outcome, gives, given_room}
use Rattle.index.specs.Calls.{room_of, near_count, near_hits, drop_leaves_at}
use Rattle.index.proofs.Outcomes.{room_left}
use Rattle.links.specs.declared.Links.{Links}
use Rattle.links.specs.Records.{numbers, number_at, elders, Sound, Good, has, edge_to, edges_of, edges_without, Found}
use Rattle.links.proofs.Changing.{edges_push, edges_drop, links_without, numbers_without, numbers_left, taken_out, all_without, no_edges}
use Rattle.hits.proofs.Closing.{closed_front, closed_length}
use Rattle.hits.proofs.Among.{all_both}
use Rattle.roadmap.specs.declared.Roadmap.{Roadmap}
use Rattle.roadmap.specs.Roads.{Road, Stands, sample_numbers}
use Rattle.roadmap.specs.Roadmaps.{road_of, Placed, PlaceTold}
use Rattle.roadmap.specs.Calls.{passes_hit, linked_hits, grown, LinkedTo, Filled, IslandTold, IslandToldAt, RouteTold, between, shrunk_edges, shrink_leaves, grow_outcome, grow_leaves, grow_leaves_at}
use Rattle.roadmap.proofs.Standing.{rising_bound, count, good, among_has, without_numbers, absent, stands_out, island_stands, routed_stands}

-- every hit is a standing sample's, no farther than any distance can be
module _ {E : Type 0} (dist : E → E → ℕ) (top : ℕ) (laws : MetricLaws top dist) (q : E) where
  abbrev pub Fine : ℕ → List ℕ → Hit → Type 0
  Fine high ns h = (h.number ≤ high) × (h.distance ≤ 1048576) × Among h.number ns

  fine_hits : (low high : ℕ) (xs : List (Sample E)) → Rising low high xs → AllByRecursion (Fine high (numbers_of xs)) (hits dist q xs)
  fine_hits low high [] r = tt
  fine_hits low high (x ∷ xs) r =
      all_put (Fine high (numbers_of (x ∷ xs))) (hit_of dist q x) (hits dist q xs)
      (r.1, omega (arith, laws.bounded q x.element, laws.small), inl refl)
      (All-weaker (Fine high (numbers_of xs)) (Fine high (numbers_of (x ∷ xs))) (λ h f. (f.0, f.1, inr f.2)) (hits dist q xs) (fine_hits x.number high xs r.2))

  pub fine_near : (m : Meaning E) → Lawful m → (k : ℕ) → AllByRecursion (Fine m.last (sample_numbers m)) (near_hits dist m q k)
  fine_near m law k = All-take (Fine m.last (sample_numbers m)) (near_count m k) (hits dist q m.standing) (fine_hits 0 m.last m.standing law.rising)

all_unmap : {X Y : Type 0} (P : Y → Type 0) (f : X → Y) (xs : List X) → AllByRecursion P (map f xs) → AllByRecursion (λ x. P (f x)) xs
all_unmap P f [] a = tt
all_unmap P f (x ∷ xs) a = (a.0, all_unmap P f xs a.1)

-- the fields of a roadmap that are no facts
pub record Fields (I : Type 0) : Type 0 where
  pub index : I
  pub k : ℕ
  pub links : List Links
  pub used : ℕ

-- what a roadmap's type says of them: one sound record for each standing sample, and k from 1 to 8
pub record Holds {I E : Type 0} (meaning : I → Meaning E) (r : Fields I) : Type 0 where
  pub k_low : 1 ≤ r.k
  pub k_high : r.k ≤ 8
  pub used_bound : r.used ≤ length r.links
  pub room : (meaning r.index).capacity ≤ length r.links
  pub records : AllByRecursion Sound (take r.used r.links)
  pub numbered : numbers (take r.used r.links) ≡ sample_numbers (meaning r.index)

abbrev pub road_at : {I E : Type 0} → (I → Meaning E) → Fields I → Road E
road_at meaning r = record { index = meaning r.index; k = r.k; edges = edges_of (take r.used r.links) }

module _ {I E : Type 0} {J : _} {M : _} where
  abbrev pub fields : Roadmap I E J M → Fields I
  fields r = record { index = r.index; k = r.k; links = r.links.now; used = r.used }

  pub holds : (r : Roadmap I E J M) → Holds J.meaning (fields r)
  holds r = record { k_low = r.k_low; k_high = r.k_high; used_bound = r.used_bound; room = r.room; records = r.records; numbered = r.numbered }

module _ {I E : Type 0} (meaning : I → Meaning E) (r : Fields I) (o : Holds meaning r) (law : Lawful (meaning r.index)) where
  pub used_is : r.used ≡ length (meaning r.index).standing
  used_is = omega (arith, length-take r.used r.links, o.used_bound, count (meaning r.index) law (take r.used r.links) o.numbered)

  module _ (dist : E → E → ℕ) (top : ℕ) (laws : MetricLaws top dist) (passes : E → E → Bool) (e : E) (free : gives tt ≡ room_of (meaning r.index)) where
    m : Meaning E
    m = meaning r.index

    pub room_used : r.used < length r.links
    room_used = omega (arith, used_is, o.room, law.room, room_apart)
      where
        room_apart : length (meaning r.index).standing < (meaning r.index).capacity
        room_apart = go (Rattle.std.proofs.lemmas.Bool.cases_lt (length (meaning r.index).standing) (meaning r.index).capacity)
          where
            go : (length (meaning r.index).standing < (meaning r.index).capacity) ⊎ ((meaning r.index).capacity ≤ length (meaning r.index).standing) → length (meaning r.index).standing < (meaning r.index).capacity
            go (inl x) = x
            go (inr x) = absurd (room_left (meaning r.index).capacity (length (meaning r.index).standing) (meaning r.index).last free (omega (arith, law.room)))

    module _ (found : List Hit) (near : found ≡ near_hits dist (meaning r.index) e r.k) (own : Links) (linked : LinkedTo passes e (meaning r.index) ((meaning r.index).last + 1) found own) where
      held : elders own ≡ linked_hits dist passes (road_at meaning r) e
      held = linked.elder ∙ ap (filter (passes_hit passes e (meaning r.index))) near

      pub held_count : own.count ≡ length (linked_hits dist passes (road_at meaning r) e)
      held_count = linked.count ∙ ap (λ z. length (filter (passes_hit passes e (meaning r.index)) z)) near

      fine : AllByRecursion (Fine dist top laws e (meaning r.index).last (sample_numbers (meaning r.index))) (elders own)
      fine =
          let P : List Hit → Type 0 = λ z. AllByRecursion (Fine dist top laws e (meaning r.index).last (sample_numbers (meaning r.index))) z in
          subst P (sym held) (all_kept_by (passes_hit passes e (meaning r.index)) (Fine dist top laws e (meaning r.index).last (sample_numbers (meaning r.index))) (near_hits dist (meaning r.index) e r.k) (fine_near dist top laws e (meaning r.index) law r.k))

      own_sound : Sound own
      own_sound = record {
        count_bound = omega (arith, held_count, length-filter (passes_hit passes e (meaning r.index)) (near_hits dist (meaning r.index) e r.k), count_by-le-length (passes_hit passes e (meaning r.index)) (near_hits dist (meaning r.index) e r.k), length-take (near_count (meaning r.index) r.k) (hits dist e (meaning r.index).standing), o.k_high);
        places = linked.places;
        elder = All-weaker (Fine dist top laws e (meaning r.index).last (sample_numbers (meaning r.index))) (λ h. (h.number < own.number) × (h.distance ≤ 1048576)) (λ h f. (omega (arith, f.0, linked.number), f.1)) (elders own) fine;
      }

      young : AllByRecursion (λ x. AllByRecursion (λ h. h.number < own.number) (elders x)) (take r.used r.links)
      young =
          let P : List ℕ → Type 0 = λ z. AllByRecursion (λ n. n ≤ (meaning r.index).last) z in
          all_both Sound (λ x. x.number ≤ (meaning r.index).last) (λ x. AllByRecursion (λ h. h.number < own.number) (elders x))
          (λ x s l. All-weaker (λ h. (h.number < x.number) × (h.distance ≤ 1048576)) (λ h. h.number < own.number) (λ h f. omega (arith, f.0, linked.number)) (elders x) s.elder)
          (take r.used r.links) o.records (all_unmap (λ n. n ≤ (meaning r.index).last) (λ x. x.number) (take r.used r.links) (subst P (sym o.numbered) (rising_bound 0 (meaning r.index).last (meaning r.index).standing law.rising)))

      there : AllByRecursion (λ h. has (numbers (take r.used r.links)) h.number ≡ true) (elders own)
      there = All-weaker (Fine dist top laws e (meaning r.index).last (sample_numbers (meaning r.index))) (λ h. has (numbers (take r.used r.links)) h.number ≡ true) (λ h f. ap (λ z. has z h.number) o.numbered ∙ among_has (sample_numbers (meaning r.index)) h.number f.2) (elders own) fine

      module _ (t : Fields I) (ti : meaning t.index ≡ added (meaning r.index) e) (tk : t.k ≡ r.k) (tl : t.links ≡ set r.links r.used own) (tu : t.used ≡ r.used + 1) where
        front : take t.used t.links ≡ take r.used r.links ++ (own ∷ [])
        front = ap (λ z. take z t.links) tu ∙ (ap (take (r.used + 1)) tl ∙ take_more_set r.links r.used own room_used)

        long : length t.links ≡ length r.links
        long = ap length tl ∙ length-set r.links r.used own

        pub add_holds : Holds meaning t
        add_holds =
            let P : List Links → Type 0 = λ z. AllByRecursion Sound z in
            record {
              k_low = omega (arith, o.k_low, tk);
              k_high = omega (arith, o.k_high, tk);
              used_bound = omega (arith, room_used, long, tu);
              room = omega (arith, ap (λ z. z.capacity) ti, o.room, long);
              records = subst P (sym front) (All-push Sound (take r.used r.links) own o.records own_sound);
              numbered = ap numbers front ∙ (map_push (λ x. x.number) (take r.used r.links) own ∙ (ap (λ z. z ++ (own.number ∷ [])) o.numbered ∙ (ap (λ z. sample_numbers (meaning r.index) ++ (z ∷ [])) linked.number ∙ (sym (map_push (λ s. s.number) (meaning r.index).standing _) ∙ ap sample_numbers (sym ti)))));
            }

        edges_are : edges_of (take t.used t.links) ≡ edges_of (take r.used r.links) ++ map (edge_to ((meaning r.index).last + 1)) (linked_hits dist passes (road_at meaning r) e)
        edges_are = ap edges_of front ∙ (edges_push (take r.used r.links) own young there ∙ (λ i. edges_of (take r.used r.links) ++ map (edge_to (linked.number i)) (held i)))

        pub add_means : road_at meaning t ≡ grown dist passes (road_at meaning r) e
        add_means = (λ i. record { index = ti i; k = tk i; edges = edges_are i })

  module _ (n at : ℕ) (inside : at < r.used) (is : number_at (take r.used r.links) at ≡ n) (t : Fields I) (ti : meaning t.index ≡ dropped (meaning r.index) n) (tk : t.k ≡ r.k) (tl : t.links ≡ closed at r.used r.links) (tu : t.used ≡ r.used - 1) where
    size : length (take r.used r.links) ≡ r.used
    size = length-take r.used r.links ∙ omega (arith, o.used_bound)

    drop_front : take t.used t.links ≡ links_without n (take r.used r.links)
    drop_front = ap (λ z. take z t.links) tu ∙ (ap (take (r.used - 1)) tl ∙ (closed_front at r.used r.links inside o.used_bound ∙ taken_out n 0 at (take r.used r.links) (omega (arith, size)) (good (meaning r.index) law (take r.used r.links) o.numbered o.records).rises is))

    drop_long : length t.links ≡ length r.links
    drop_long = ap length tl ∙ closed_length at r.used r.links inside o.used_bound

    pub drop_holds : Holds meaning t
    drop_holds =
        let P : List Links → Type 0 = λ z. AllByRecursion Sound z in
        record {
          k_low = omega (arith, o.k_low, tk);
          k_high = omega (arith, o.k_high, tk);
          used_bound = omega (arith, o.used_bound, drop_long, tu);
          room = omega (arith, ap (λ z. z.capacity) ti, o.room, drop_long);
          records = subst P (sym drop_front) (all_without Sound n (take r.used r.links) o.records);
          numbered = ap numbers drop_front ∙ (numbers_left n (take r.used r.links) ∙ (ap (numbers_without n) o.numbered ∙ (sym (without_numbers n (meaning r.index).standing) ∙ ap sample_numbers (sym ti))));
        }

    pub drop_means : road_at meaning t ≡ record { index = dropped (meaning r.index) n; k = r.k; edges = edges_without n (edges_of (take r.used r.links)) }
    drop_means = (λ i. record { index = ti i; k = tk i; edges = (ap edges_of drop_front ∙ edges_drop n (take r.used r.links)) i })

-- finding a sample's record
module _ {I E : Type 0} {J : _} {M : _} (r : Roadmap I E J M) where
  law : Lawful (J.meaning r.index)
  law = J.lawful r.index

  abbrev L : List Links
  L = take r.used r.links.now

  all_used : take (r.used - 0) r.links.now ≡ take r.used r.links.now
  all_used = (let e : r.used - 0 ≡ r.used = omega arith in ap (λ k. take k r.links.now) e)

  pub good_records : Good (take (r.used - 0) r.links.now)
  good_records = subst Good (sym all_used) (good (J.meaning r.index) (J.lawful r.index) (take r.used r.links.now) r.numbered r.records)

  pub records_are : (all : List Links) → all ≡ take (r.used - 0) r.links.now → all ≡ take r.used r.links.now
  records_are all e = e ∙ all_used

  -- as they are lent
  module _ (all : List Links) (is : all ≡ take r.used r.links.now) where
    pub records_length : length all ≡ r.used
    records_length = ap length is ∙ (length-take r.used r.links.now ∙ omega (arith, r.used_bound))

    placed : (n : ℕ) (p : Option ℕ) → Found n all p → Placed J.meaning r n p
    placed n p f = go p (let P : List Links → Type 0 = λ z. Found n z p in subst P is f)
      where
        go : (p : Option ℕ) → Found n (take r.used r.links.now) p → Placed J.meaning r n p
        go None x = absent (J.meaning r.index) law L r.numbered n x
        go (Some i) x =
            let P : ℕ → Type 0 = λ z. Among z (numbers L) in
            let size = length-take r.used r.links.now in
            (omega (arith, x.0, r.used_bound), x.1, stands_out (J.meaning r.index) law L r.numbered n (subst P x.1 (among_at (numbers L) i (omega (arith, x.0, length-map L (λ y. y.number))))))

    pub place_told : (n : ℕ) (place : Option ℕ) (told : Result ℕ Refusal) → Found n all place → told ≡ ok_or place (NotStanding n) → PlaceTold J.meaning r n told
    place_told n place told f e = subst (PlaceTold J.meaning r n) (sym e) (either place (placed n place f))
      where
        either : (place : Option ℕ) → Placed J.meaning r n place → PlaceTold J.meaning r n (ok_or place (NotStanding n))
        either None h = (refl, h)
        either (Some at) h = h

    pub island_told : (n at m : ℕ) → number_at (take r.used r.links.now) at ≡ n → Stands (J.meaning r.index) n → Island (Standing all) (Linked (edges_of all)) (number_at all at) m → IslandTold (road_of J.meaning r) n (gives m)
    island_told n at m e st x =
        let P : List Links → Type 0 = λ z. Island (Standing z) (Linked (edges_of z)) (number_at z at) m in
        let Q : ℕ → Type 0 = λ k. Island (Stands (J.meaning r.index)) (Linked (edges_of L)) k m in
        let R : Option E → Type 0 = λ z. IslandToldAt (road_of J.meaning r) n (gives m) z in
        subst R (sym st.1) (m, refl, subst Q e (island_stands (J.meaning r.index) law L r.numbered (number_at L at) m (subst P is x)))

    pub route_told : (a b start goal : ℕ) → number_at (take r.used r.links.now) start ≡ a → Stands (J.meaning r.index) a → number_at (take r.used r.links.now) goal ≡ b → Stands (J.meaning r.index) b → (list : List ℕ) (out : Outcome (ℕ × ℕ)) (after : List ℕ)
        → Routed (Standing all) (Linked (edges_of all)) (number_at all start) (number_at all goal) list out after
        → RouteTold (road_of J.meaning r) a b list out after
    route_told a b start goal is_a sa is_b sb list out after x =
        let P : List Links → Type 0 = λ z. Routed (Standing z) (Linked (edges_of z)) (number_at z start) (number_at z goal) list out after in
        let Q : ℕ → Type 0 = λ k. Routed (Stands (J.meaning r.index)) (Linked (edges_of L)) k b list out after in
        let R : ℕ → Type 0 = λ k. Routed (Stands (J.meaning r.index)) (Linked (edges_of L)) (number_at L start) k list out after in
        between out after sa sb (subst Q is_a (subst R is_b (routed_stands (J.meaning r.index) law L r.numbered (number_at L start) (number_at L goal) list out after (subst P is x))))

-- a new roadmap
module _ {I E : Type 0} (meaning : I → Meaning E) (r : Fields I) (k : ℕ) (is : r.k ≡ k) (low : 1 ≤ k) (high : k ≤ 8) (room : (meaning r.index).capacity ≤ length r.links) (f : Filled (meaning r.index) r.used r.links) where
  pub new_means : road_at meaning r ≡ record { index = meaning r.index; k = k; edges = [] }
  new_means = (λ i. record { index = meaning r.index; k = is i; edges = no_edges (numbers (take r.used r.links)) (take r.used r.links) f.unlinked i })

module _ {E : Type 0} (road : Road E) (n : ℕ) where
  pub shrink_done : (e : E) → element_at n road.index.standing ≡ Some e → record { index = dropped road.index n; k = road.k; edges = edges_without n road.edges } ≡ shrink_leaves road n
  shrink_done e is = ap (λ z. record { index = drop_leaves_at road.index n z; k = road.k; edges = shrunk_edges n road.edges z }) (sym is)

module _ {E : Type 0} (dist : E → E → ℕ) (passes : E → E → Bool) (road : Road E) (e : E) where
  pub grow_done : gives tt ≡ room_of road.index → (gives (road.index.last + 1, length (linked_hits dist passes road e)) ≡ grow_outcome dist passes road e) × (grown dist passes road e ≡ grow_leaves dist passes road e)
  grow_done i = (ap (λ o. given_room o (road.index.last + 1, length (linked_hits dist passes road e))) i, ap (grow_leaves_at dist passes road e) i)
