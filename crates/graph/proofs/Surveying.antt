-- What edges by place say of islands and routes by number. Assumes nothing.
use Rattle.std.proofs.Common.{◌≡◌, ℕ, ◌+◌, ◌*◌, ◌<◌, ◌≤◌, List, [], ◌∷◌, ◌++◌, map, length, take, drop, replicate, None, Some, Option, refl, sym, ap, ◌∙◌, subst, inl, inr, arith}
use Rattle.std.specs.List.{AllByRecursion}
use Rattle.std.proofs.lemmas.List.{take_all, length-map, take_at, drop_at, length-take-le, length-replicate}
use Rattle.hits.specs.Lists.{over}
use Rattle.hits.proofs.Among.{all_among}
use Rattle.chains.specs.declared.Edge.{Edge}
use Rattle.chains.specs.Chains.{Starts, Joined, Island, Route}
use Rattle.chains.specs.Edges.{edge, Linked, Inside, renamed}
use Rattle.chains.specs.Costs.{none, cost_at, Settled}
use Rattle.chains.proofs.Settling as settling
use Rattle.chains.proofs.Joining.{chain_all, joins_end}
use Rattle.chains.proofs.Moving.{island_moved, route_moved, joined_fro}
use Rattle.chains.proofs.Places.{places_renamed}
use Rattle.routing.specs.declared.cost.Cost.{Cost}
use Rattle.routing.specs.Ranks.{cost_of, rank, rank_of, ranks}
use Rattle.routing.specs.Settles.{FewSteps}
use Rattle.routing.specs.Walks.{Walked}
use Rattle.routing.proofs.Offering.{rank_at}
use Rattle.routing.proofs.Following.{few', inside', chosen_from}
use Rattle.index.specs.Outcomes.{gives, refuses}
use Rattle.links.specs.declared.Links.{Links}
use Rattle.links.specs.Records.{numbers, number_at, Good, Resolved, edges_among, edges_of}
use Rattle.graph.specs.Routes.{Standing, Routed, apart, too_short, written}

-- neither of the two that there are
pub none_from : (x : Option Cost) → ((c : Cost) → x ≡ Some c → ⊥) → x ≡ None
none_from None f = refl
none_from (Some c) f = absurd (f c refl)

module _ (links : List Links) (good : Good links) (edges : List Edge) (n : ℕ) (resolved : Resolved links (length links) edges n) where
  many : length (numbers links) ≡ length links
  many = length-map links (λ r. r.number)

  by_number : AllByRecursion (Inside (length (numbers links))) (take n edges)
  by_number = subst (λ k. AllByRecursion (Inside k) (take n edges)) (sym many) resolved.inside

  named : map (renamed (number_at links)) (take n edges) ≡ edges_of links
  named = resolved.named ∙ ap (edges_among (numbers links)) (take_all (length links) links (omega arith))

  -- a chosen chain by place, by number
  pub route_named : (a b : ℕ) (ns : List ℕ) (l : ℕ) → Route (λ i. i < length links) (Linked (take n edges)) a b ns l → Route (Standing links) (Linked (edges_of links)) (number_at links a) (number_at links b) (map (number_at links) ns) l
  route_named a b ns l r =
      subst (λ es. Route (Standing links) (Linked es) (number_at links a) (number_at links b) (map (number_at links) ns) l) named
      (route_moved (λ i. i < length (numbers links)) (Linked (take n edges)) (Standing links) (Linked (map (renamed (number_at links)) (take n edges))) (places_renamed (numbers links) good.rises (take n edges) by_number (Standing links) (λ k a. a) (λ k a. a)) a b ns l
      (subst (λ k. Route (λ i. i < k) (Linked (take n edges)) a b ns l) (sym many) r))

  -- an island likewise
  pub island_named : (a i : ℕ) → Island (λ i. i < length links) (Linked (take n edges)) a i → Island (Standing links) (Linked (edges_of links)) (number_at links a) (number_at links i)
  island_named a i r =
      subst (λ es. Island (Standing links) (Linked es) (number_at links a) (number_at links i)) named
      (island_moved (λ i. i < length (numbers links)) (Linked (take n edges)) (Standing links) (Linked (map (renamed (number_at links)) (take n edges))) (places_renamed (numbers links) good.rises (take n edges) by_number (Standing links) (λ k a. a) (λ k a. a)) a i
      (subst (λ k. Island (λ i. i < k) (Linked (take n edges)) a i) (sym many) r))

  pub joined_placed : (a b : ℕ) → a < length links → b < length links → Joined (Standing links) (Linked (edges_of links)) (number_at links a) (number_at links b) → Joined (λ i. i < length links) (Linked (take n edges)) a b
  joined_placed a b la lb j =
      subst (λ k. Joined (λ i. i < k) (Linked (take n edges)) a b) many
      (joined_fro (λ i. i < length (numbers links)) (Linked (take n edges)) (Standing links) (Linked (map (renamed (number_at links)) (take n edges))) (places_renamed (numbers links) good.rises (take n edges) by_number (Standing links) (λ k a. a) (λ k a. a)) a b (omega (arith, many)) (omega (arith, many))
      (subst (λ es. Joined (Standing links) (Linked es) (number_at links a) (number_at links b)) (sym named) j))

  ends : (x y d : ℕ) → Linked (take n edges) x y d → (x < length links) × (y < length links)
  ends x y d (inl k) = let p = all_among (Inside (length links)) (edge x y d) (take n edges) resolved.inside k in (p.0, p.1)
  ends x y d (inr k) = let p = all_among (Inside (length links)) (edge y x d) (take n edges) resolved.inside k in (p.1, p.0)

  -- settled costs of the chains to the goal
  module _ (goal : ℕ) (costs : List (Option Cost)) (long : length costs ≡ length links) (settled : Settled (take n edges) goal (ranks costs)) (steps : FewSteps costs) where
    few : length costs ≤ 1024
    few = omega (arith, long, good.few)

    inside : AllByRecursion (Inside (length costs)) (take n edges)
    inside = subst (λ k. AllByRecursion (Inside k) (take n edges)) (sym long) resolved.inside

    fewR : length (ranks costs) ≤ 1024
    fewR = few' (take n edges) goal costs few inside settled steps

    insideR : AllByRecursion (Inside (length (ranks costs))) (take n edges)
    insideR = inside' (take n edges) goal costs few inside settled steps

    longR : length (ranks costs) ≡ length links
    longR = length-map costs rank_of ∙ long

    module _ (start : ℕ) (in_start : start < length links) (in_goal : goal < length links) (list : List ℕ) where
      -- no cost: no chain
      pub routed_apart : cost_of costs start ≡ None → Routed (Standing links) (Linked (edges_of links)) (number_at links start) (number_at links goal) list (refuses 6 []) list
      routed_apart e = apart (λ j.
          let p = subst (λ k. Joined (λ i. i < k) (Linked (take n edges)) start goal) (sym longR) (joined_placed start goal in_start in_goal j) in
          omega (arith, settling.reached_all (take n edges) goal (ranks costs) fewR insideR settled start p.numbers p.long p.joins, rank_at costs start, ap rank_of e))

      -- what the cost says of the chosen chain
      module _ (c : Cost) (is : cost_of costs start ≡ Some c) where
        ranked : cost_at (ranks costs) start ≡ rank c
        ranked = rank_at costs start ∙ ap rank_of is

        few_steps : (c.steps < length costs) × (c.length ≤ 1024 * 1048576)
        few_steps = steps start c (omega (arith, long)) is

        pub reached : cost_at (ranks costs) start < none
        reached = omega (arith, ranked, few_steps.0, few_steps.1, few)

        pub record Reads (ns : List ℕ) (l : ℕ) : Type 0 where
          pub count : length ns ≡ c.steps + 1
          pub long_is : l ≡ c.length

        starts_pos : (ns : List ℕ) → Starts start ns → 0 < length ns
        starts_pos [] x = absurd x
        starts_pos (y ∷ ys) x = omega arith

        pub reads : (ns : List ℕ) (l : ℕ) → Route (λ i. i < length costs) (Linked (take n edges)) start goal ns l → Reads ns l
        reads ns l r =
            let q = subst (λ k. Route (λ i. i < k) (Linked (take n edges)) start goal ns l) (sym (length-map costs rank_of)) r in
            let k = settling.route_costs (take n edges) goal (ranks costs) fewR insideR settled start ns l q in
            let one = starts_pos ns r.joins.starts in
            record { count = omega (arith, k.is, k.short, fewR, ranked, few_steps.0, few); long_is = omega (arith, k.is, k.short, fewR, ranked, few_steps.0, few) }

        pub routed_short : length list < c.steps + 1 → Routed (Standing links) (Linked (edges_of links)) (number_at links start) (number_at links goal) list (refuses 7 ((c.steps + 1) ∷ [])) list
        routed_short short =
            let q = chosen_from (take n edges) goal costs few inside settled steps start reached in
            let says = reads q.numbers q.long q.route in
            let many' = length-map q.numbers (number_at links) in
            subst (λ z. Routed (Standing links) (Linked (edges_of links)) (number_at links start) (number_at links goal) list (refuses 7 (z ∷ [])) list) (many' ∙ says.count)
            (too_short (map (number_at links) q.numbers) q.long (route_named start goal q.numbers q.long (subst (λ k. Route (λ i. i < k) (Linked (take n edges)) start goal q.numbers q.long) long q.route)) (omega (arith, says.count)))

        module _ (middle : List ℕ) (w : Walked (take n edges) (length costs) start goal list middle) (k : ℕ) (k_is : k ≡ c.steps + 1) where
          says : Reads w.numbers w.long
          says = reads w.numbers w.long w.route

          front : take k middle ≡ w.numbers
          front = ap (take k) w.writes ∙ take_at w.numbers (drop (length w.numbers) list) k (omega (arith, says.count))

          behind : drop k middle ≡ drop (length w.numbers) list
          behind = ap (drop k) w.writes ∙ drop_at w.numbers (drop (length w.numbers) list) k (omega (arith, says.count))

          -- the walk's places are all records'
          pub walked_inside : AllByRecursion (λ at. at < length links) (take k middle)
          walked_inside = subst (AllByRecursion (λ at. at < length links)) (sym front) (chain_all (λ i. i < length links) (Linked (take n edges)) ends w.numbers w.long (subst (λ m. Route (λ i. i < m) (Linked (take n edges)) start goal w.numbers w.long) long w.route).joins.chain)

          pub routed_written : (named' : List ℕ) → k ≤ length list → named' ≡ map (number_at links) (take k middle) → Routed (Standing links) (Linked (edges_of links)) (number_at links start) (number_at links goal) list (gives (c.length, k)) (named' ++ drop k middle)
          routed_written named' fits e =
              let ns = map (number_at links) w.numbers in
              let many' : length ns ≡ length w.numbers = length-map w.numbers (number_at links) in
              let P : ℕ → ℕ → List ℕ → Type 0 = λ l m z. Routed (Standing links) (Linked (edges_of links)) (number_at links start) (number_at links goal) list (gives (l, m)) z in
              let named'' : named' ≡ ns = e ∙ ap (map (number_at links)) front in
              let whole : over ns list ≡ named' ++ drop k middle = (λ i. sym named'' i ++ (ap (λ z. drop z list) many' ∙ sym behind) i) in
              let count : length ns ≡ k = omega (arith, says.count) in
              let by_place = subst (λ m. Route (λ i. i < m) (Linked (take n edges)) start goal w.numbers w.long) long w.route in
              let first : P w.long (length ns) (over ns list) = written ns w.long (route_named start goal w.numbers w.long by_place) (omega arith) in
              subst (λ (z : List ℕ). P c.length k z) whole (subst (λ (z : ℕ). P c.length z (over ns list)) count (subst (λ (z : ℕ). P z (length ns) (over ns list)) says.long_is first))

-- so many of a table as there are records
pub front_long : {X : Type 0} (x : X) (n size : ℕ) → n ≤ size → length (take n (replicate size x)) ≡ n
front_long x n size l = length-take-le n (replicate size x) (omega (arith, length-replicate size x))

-- an island is a place
pub island_inside : (links : List Links) → Good links → (edges : List Edge) (n : ℕ) → Resolved links (length links) edges n → (at r size : ℕ) → size ≡ length links → Island (λ i. i < size) (Linked (take n edges)) at r → r < length links
island_inside links good edges n resolved at r size long i =
    let j = subst (λ m. Joined (λ k. k < m) (Linked (take n edges)) at r) long i.joined in
    joins_end (λ k. k < length links) (Linked (take n edges)) (within links edges n resolved) at r j.numbers j.long j.joins
  where
    within : (links : List Links) (edges : List Edge) (n : ℕ) → Resolved links (length links) edges n → (x y d : ℕ) → Linked (take n edges) x y d → (x < length links) × (y < length links)
    within links edges n resolved x y d (inl k) = let p = all_among (Inside (length links)) (edge x y d) (take n edges) resolved.inside k in (p.0, p.1)
    within links edges n resolved x y d (inr k) = let p = all_among (Inside (length links)) (edge y x d) (take n edges) resolved.inside k in (p.1, p.0)
