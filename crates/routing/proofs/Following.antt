-- The walk along a chain of least cost, step by step, and that there is one. Assumes nothing.
use Rattle.std.proofs.Common.{◌≡◌, ℕ, zero, suc, ◌+◌, ◌-◌, ◌<◌, ◌≤◌, min, Bool, true, false, cond, ◌⊎◌, List, [], ◌∷◌, ◌++◌, length, get_or, drop, set, None, Some, Option, is_some, true≢false, sym, refl, ap, ◌∙◌, subst, inl, inr, arith, length-append}
use Rattle.std.specs.List.{AllByRecursion}
use Rattle.std.proofs.lemmas.List.{append_assoc, set-append_right, drop_more, length-map}
use Rattle.std.proofs.lemmas.Bool.{cases_lt, both_ways}
use Rattle.std.proofs.lemmas.Bool.Decides.{nat_tests}
use Rattle.hits.specs.Samples.{Among}
use Rattle.hits.specs.Lists.{over}
use Rattle.hits.proofs.Among.{among_left, among_right, among_append, all_among}
use Rattle.chains.specs.declared.Edge.{Edge}
use Rattle.chains.specs.Chains.{Route}
use Rattle.chains.specs.Edges.{Linked, Inside}
use Rattle.chains.specs.Costs.{none, step_cost, cost_at, Settled, Onward}
use Rattle.chains.proofs.Settling as settling
use Rattle.routing.specs.declared.cost.Cost.{Cost}
use Rattle.routing.specs.declared.neighbours.Neighbour.{Neighbour}
use Rattle.routing.specs.Ranks.{cost_of, rank, rank_of, ranks}
use Rattle.routing.specs.Layouts.{neighbour, neighbours_of}
use Rattle.routing.specs.Settles.{FewSteps}
use Rattle.routing.specs.Walks.{leads_on, smaller, better, steps_of, SmallestOn, ends, goes, Walked}
use Rattle.routing.proofs.Laying.{link_here, here_link}
use Rattle.routing.proofs.Offering.{rank_at}

abbrev place_or : ℕ → Option ℕ → ℕ
place_or p None = p
place_or p (Some n) = n

-- no neighbour yet
pub smallest_none : (c : Option Cost) (costs : List (Option Cost)) → SmallestOn c [] costs None
smallest_none c costs = ends (λ n a. absurd a)

-- one neighbour more
module _ (c : Option Cost) (costs : List (Option Cost)) (ns zs : List Neighbour) (n : Neighbour) (old : (m : Neighbour) → Among m ns → Among m zs) (new : Among n zs) (only : (m : Neighbour) → Among m zs → Among m ns ⊎ (m ≡ n)) where
  leads : Neighbour → Bool
  leads m = leads_on c (cost_of costs m.place) m.length

  stays_by : (best : Option ℕ) → SmallestOn c ns costs best → leads_on c (cost_of costs n.place) n.length ≡ false → SmallestOn c zs costs best
  stays_by best (ends f) e = ends (λ m a. pick m (only m a))
    where
      pick : (m : Neighbour) → Among m ns ⊎ (m ≡ n) → leads_on c (cost_of costs m.place) m.length ≡ false
      pick m (inl a) = f m a
      pick m (inr q) = ap (λ k. leads_on c (cost_of costs k.place) k.length) q ∙ e
  stays_by best (goes m a t s) e = goes m (old m a) t (λ k b u. pick k u (only k b))
    where
      pick : (k : Neighbour) → leads_on c (cost_of costs k.place) k.length ≡ true → Among k ns ⊎ (k ≡ n) → m.place ≤ k.place
      pick k u (inl b) = s k b u
      pick k u (inr q) = absurd (both_ways (leads_on c (cost_of costs n.place) n.length) e (sym (ap (λ z. leads_on c (cost_of costs z.place) z.length) q) ∙ u))

  goes_by : (best : Option ℕ) → SmallestOn c ns costs best → leads_on c (cost_of costs n.place) n.length ≡ true → SmallestOn c zs costs (Some (smaller best n.place))
  goes_by best (ends f) e = goes n new e (λ k b u. pick k u (only k b))
    where
      pick : (k : Neighbour) → leads_on c (cost_of costs k.place) k.length ≡ true → Among k ns ⊎ (k ≡ n) → n.place ≤ k.place
      pick k u (inl b) = absurd (both_ways (leads_on c (cost_of costs k.place) k.length) (f k b) u)
      pick k u (inr q) = omega (arith, ap (λ z. z.place) q)
  goes_by best (goes m a t s) e = go (cases_lt n.place m.place)
    where
      go : (n.place < m.place) ⊎ (m.place ≤ n.place) → SmallestOn c zs costs (Some (min m.place n.place))
      go (inl l) =
          let q : n.place ≡ min m.place n.place = omega arith in
          subst (λ z. SmallestOn c zs costs (Some z)) q (goes n new e (λ k b u. pick k u (only k b)))
        where
          pick : (k : Neighbour) → leads_on c (cost_of costs k.place) k.length ≡ true → Among k ns ⊎ (k ≡ n) → n.place ≤ k.place
          pick k u (inl b) = omega (arith, s k b u)
          pick k u (inr q) = omega (arith, ap (λ z. z.place) q)
      go (inr l) =
          let q : m.place ≡ min m.place n.place = omega arith in
          subst (λ z. SmallestOn c zs costs (Some z)) q (goes m (old m a) t (λ k b u. pick k u (only k b)))
        where
          pick : (k : Neighbour) → leads_on c (cost_of costs k.place) k.length ≡ true → Among k ns ⊎ (k ≡ n) → m.place ≤ k.place
          pick k u (inl b) = s k b u
          pick k u (inr q) = omega (arith, ap (λ z. z.place) q)

  pub smallest_more : (best : Option ℕ) → SmallestOn c ns costs best → SmallestOn c zs costs (better best c (cost_of costs n.place) n)
  smallest_more best s = go (leads_on c (cost_of costs n.place) n.length) refl
    where
      go : (t : Bool) → leads_on c (cost_of costs n.place) n.length ≡ t → SmallestOn c zs costs (cond t (Some (smaller best n.place)) best)
      go true e = goes_by best s e
      go false e = stays_by best s e

-- behind the others
pub smallest_push : (c : Option Cost) (costs : List (Option Cost)) (ns : List Neighbour) (n : Neighbour) (best : Option ℕ) → SmallestOn c ns costs best → SmallestOn c (ns ++ (n ∷ [])) costs (better best c (cost_of costs n.place) n)
smallest_push c costs ns n best s = smallest_more c costs ns (ns ++ (n ∷ [])) n (λ m a. among_left m ns (n ∷ []) a) (among_right n ns (n ∷ []) (inl refl)) (λ m a. pick m (among_append m ns (n ∷ []) a)) best s
  where
    pick : (m : Neighbour) → Among m ns ⊎ Among m (n ∷ []) → Among m ns ⊎ (m ≡ n)
    pick m (inl a) = inl a
    pick m (inr (inl q)) = inr q
    pick m (inr (inr a)) = absurd a

-- there always is one, or none
pub smallest_any : (c : Option Cost) (costs : List (Option Cost)) (ns : List Neighbour) → (best : Option ℕ) × SmallestOn c ns costs best
smallest_any c costs [] = (None, smallest_none c costs)
smallest_any c costs (n ∷ ns) =
    let r = smallest_any c costs ns in
    (better r.0 c (cost_of costs n.place) n, smallest_more c costs ns (n ∷ ns) n (λ m a. inr a) (inl refl) (λ m a. pick m a) r.0 r.1)
  where
    pick : (m : Neighbour) → Among m (n ∷ ns) → Among m ns ⊎ (m ≡ n)
    pick m (inl q) = inr q
    pick m (inr a) = inl a

module _ (edges : List Edge) (goal : ℕ) (costs : List (Option Cost)) (few : length costs ≤ 1024) (inside : AllByRecursion (Inside (length costs)) edges) (settled : Settled edges goal (ranks costs)) (steps : FewSteps costs) where
  many : length (ranks costs) ≡ length costs
  many = length-map costs rank_of

  pub few' : length (ranks costs) ≤ 1024
  few' = omega (arith, many)

  pub inside' : AllByRecursion (Inside (length (ranks costs))) edges
  inside' = subst (λ n. AllByRecursion (Inside n) edges) (sym many) inside

  known_at : (i : ℕ) → cost_at (ranks costs) i < none → (c : Cost) × (cost_of costs i ≡ Some c) × (cost_at (ranks costs) i ≡ rank c) × (i < length costs) × (c.steps < length costs)
  known_at i l = go (cost_of costs i) refl
    where
      go : (x : Option Cost) → cost_of costs i ≡ x → (c : Cost) × (cost_of costs i ≡ Some c) × (cost_at (ranks costs) i ≡ rank c) × (i < length costs) × (c.steps < length costs)
      go None e = absurd (omega (arith, rank_at costs i, ap rank_of e))
      go (Some c) e =
          let m = settling.known edges goal (ranks costs) few' inside' settled i l in
          let k : i < length costs = omega (arith, many, m) in
          (c, e, rank_at costs i ∙ ap rank_of e, k, (steps i c k e).0)

  -- a step that leads on is tight, and the other way round
  tight_leads : (c n : Cost) (d : ℕ) → c.steps < 1024 → n.steps < 1024 → rank n + step_cost d ≡ rank c → leads_on (Some c) (Some n) d ≡ true
  tight_leads c n d a b e = grind (arith, nat_tests)

  leads_tight : (c n : Cost) (d : ℕ) → leads_on (Some c) (Some n) d ≡ true → rank n + step_cost d ≡ rank c
  leads_tight c n d e = grind (arith, nat_tests)

  -- where nothing leads on, the goal is reached
  module _ (at : ℕ) (l : cost_at (ranks costs) at < none) where
    abbrev c : Cost
    c = (known_at at l).0

    leads_when : (j d : ℕ) → Linked edges at j d → cost_at (ranks costs) j + step_cost d ≡ cost_at (ranks costs) at → leads_on (cost_of costs at) (cost_of costs j) d ≡ true
    leads_when j d k e =
        let x = known_at at l in
        let y = known_at j (omega arith) in
        subst (λ z. leads_on z (cost_of costs j) d ≡ true) (sym x.1) (subst (λ z. leads_on (Some x.0) z d ≡ true) (sym y.1) (tight_leads x.0 y.0 d (omega (arith, x.4)) (omega (arith, y.4)) (omega (arith, x.2, y.2))))

    when_leads : (j d : ℕ) → leads_on (cost_of costs at) (cost_of costs j) d ≡ true → cost_at (ranks costs) j + step_cost d ≡ cost_at (ranks costs) at
    when_leads j d e = go (cost_of costs j) refl
      where
        x : (c : Cost) × (cost_of costs at ≡ Some c) × (cost_at (ranks costs) at ≡ rank c) × (at < length costs) × (c.steps < length costs)
        x = known_at at l

        go : (y : Option Cost) → cost_of costs j ≡ y → cost_at (ranks costs) j + step_cost d ≡ cost_at (ranks costs) at
        go None f = absurd (both_ways (leads_on (Some x.0) None d) refl (subst (λ z. leads_on (Some x.0) z d ≡ true) f (subst (λ z. leads_on z (cost_of costs j) d ≡ true) x.1 e)))
        go (Some y) f = omega (arith, rank_at costs j, ap rank_of f, x.2, leads_tight x.0 y d (subst (λ z. leads_on (Some x.0) z d ≡ true) f (subst (λ z. leads_on z (cost_of costs j) d ≡ true) x.1 e)))

    pub ends_at_goal : (best : Option ℕ) → SmallestOn (cost_of costs at) (neighbours_of at edges) costs best → ((r : ℕ) → best ≡ Some r → ⊥) → cost_at (ranks costs) at ≡ 0
    ends_at_goal best (goes m a t s) e = absurd (e m.place refl)
    ends_at_goal best (ends f) e = go (cases_lt 0 (cost_at (ranks costs) at))
      where
        go : (0 < cost_at (ranks costs) at) ⊎ (cost_at (ranks costs) at ≤ 0) → cost_at (ranks costs) at ≡ 0
        go (inr z) = omega arith
        go (inl p) =
            let n = settling.next_of edges goal (ranks costs) few' inside' settled at p l in
            absurd (both_ways (leads_on (cost_of costs at) (cost_of costs n.place) n.apart) (f (neighbour n.place n.apart) (link_here edges at n.place n.apart n.linked)) (leads_when n.place n.apart n.linked n.tight))

    pub goes_onward : (best : Option ℕ) (r : ℕ) → SmallestOn (cost_of costs at) (neighbours_of at edges) costs best → best ≡ Some r → Onward edges (ranks costs) at r × (d : ℕ) × Linked edges at r d × (cost_at (ranks costs) r + step_cost d ≡ cost_at (ranks costs) at)
    goes_onward best r (ends f) e = absurd (true≢false (ap is_some (sym e)))
    goes_onward best r (goes m a t s) e =
        let q : m.place ≡ r = ap (place_or m.place) e in
        let link = here_link edges at m a in
        let tight = when_leads m.place m.length t in
        let k = subst (λ z. Linked edges at z m.length) q link in
        let u = subst (λ z. cost_at (ranks costs) z + step_cost m.length ≡ cost_at (ranks costs) at) q tight in
        (record { smallest = λ j d x y. omega (arith, q, s (neighbour j d) (link_here edges at j d x) (leads_when j d x y)); joined = λ _. (m.length, k, u) }, m.length, k, u)

-- one more written behind those written
pub over_set : (ns old : List ℕ) (w x : ℕ) → length ns ≡ w → w < length old → set (over ns old) w x ≡ over (ns ++ (x ∷ [])) old
over_set ns old w x e l =
    let rest = drop (length ns) old in
    let more : drop (length ns) old ≡ get_or old (length ns) 0 ∷ drop (length ns + 1) old = drop_more old (length ns) 0 (omega arith) in
    let zero' : w - w ≡ 0 = omega arith in
    let many : length (ns ++ (x ∷ [])) ≡ length ns + 1 = length-append ns (x ∷ []) in
    set-append_right ns rest w w x e (omega arith)
    ∙ (ap (λ k. ns ++ set rest k x) zero'
    ∙ (ap (λ z. ns ++ set z 0 x) more
    ∙ (sym (append_assoc ns (x ∷ []) (drop (length ns + 1) old))
    ∙ ap (λ k. (ns ++ (x ∷ [])) ++ drop k old) (sym many))))

-- A walk under way: those written are the first of the chosen chain, if what follows is the chosen chain from here.
pub record Walking (edges : List Edge) (costs : List (Option Cost)) (start goal : ℕ) (old list : List ℕ) (at written : ℕ) : Type 0 where
  pub reached : cost_at (ranks costs) at < none
  pub places : List ℕ
  pub count : length places ≡ written
  pub writes : list ≡ over places old
  pub back : (ns : List ℕ) (l : ℕ) → Route (λ i. i < length costs) (Linked edges) at goal ns l → (t : ℕ) × Route (λ i. i < length costs) (Linked edges) start goal (places ++ ns) t

pub walk_starts : (edges : List Edge) (costs : List (Option Cost)) (start goal : ℕ) (old : List ℕ) → cost_at (ranks costs) start < none → Walking edges costs start goal old old start 0
walk_starts edges costs start goal old l = record { reached = l; places = []; count = refl; writes = refl; back = λ ns t r. (t, r) }

steps_by : (c x : Option Cost) (d : ℕ) → leads_on c x d ≡ true → steps_of x + 1 ≡ steps_of c
steps_by None x d e = absurd (both_ways false refl e)
steps_by (Some c) None d e = absurd (both_ways false refl e)
steps_by (Some c) (Some n) d e = grind (arith, nat_tests)

-- a step to a place, of one step less
pub steps_less : (c : Option Cost) (ns : List Neighbour) (costs : List (Option Cost)) (best : Option ℕ) (r n : ℕ) → SmallestOn c ns costs best → best ≡ Some r → AllByRecursion (λ m. m.place < n) ns → (r < n) × (steps_of (cost_of costs r) + 1 ≡ steps_of c)
steps_less c ns costs best r n (ends f) e near = absurd (true≢false (ap is_some (sym e)))
steps_less c ns costs best r n (goes m a t s) e near =
    let q : m.place ≡ r = ap (place_or m.place) e in
    (omega (arith, q, all_among (λ m. m.place < n) m ns near a), subst (λ z. steps_of (cost_of costs z) + 1 ≡ steps_of c) q (steps_by c (cost_of costs m.place) m.length t))

module _ (edges : List Edge) (goal : ℕ) (costs : List (Option Cost)) (few : length costs ≤ 1024) (inside : AllByRecursion (Inside (length costs)) edges) (settled : Settled edges goal (ranks costs)) (steps : FewSteps costs) where
  as_many : length (ranks costs) ≡ length costs
  as_many = length-map costs rank_of

  onward_route : (at r d l : ℕ) (ns : List ℕ) → Onward edges (ranks costs) at r → Linked edges at r d → cost_at (ranks costs) r + step_cost d ≡ cost_at (ranks costs) at → Route (λ i. i < length costs) (Linked edges) r goal ns l → Route (λ i. i < length costs) (Linked edges) at goal (at ∷ ns) (d + l)
  onward_route at r d l ns o k t route =
      subst (λ n. Route (λ i. i < n) (Linked edges) at goal (at ∷ ns) (d + l)) as_many
      (settling.route_onward edges goal (ranks costs) (few' edges goal costs few inside settled steps) (inside' edges goal costs few inside settled steps) settled at r d l ns o k t (subst (λ n. Route (λ i. i < n) (Linked edges) r goal ns l) (sym as_many) route))

  goal_route : (at : ℕ) → cost_at (ranks costs) at ≡ 0 → Route (λ i. i < length costs) (Linked edges) at goal (at ∷ []) 0
  goal_route at z =
      let f = few' edges goal costs few inside settled steps in
      let i = inside' edges goal costs few inside settled steps in
      let e = settling.goal_only edges goal (ranks costs) f i settled at z in
      subst (λ n. Route (λ i. i < n) (Linked edges) at goal (at ∷ []) 0) as_many (subst (λ j. Route (λ i. i < length (ranks costs)) (Linked edges) j goal (j ∷ []) 0) (sym e) (settling.route_goal edges goal (ranks costs) f i settled))

  pub walk_more : (start : ℕ) (old list : List ℕ) (at written r : ℕ) (best : Option ℕ) → Walking edges costs start goal old list at written → written < length old → SmallestOn (cost_of costs at) (neighbours_of at edges) costs best → best ≡ Some r → Walking edges costs start goal old (set list written at) r (written + 1)
  walk_more start old list at written r best w room s e =
      let o = goes_onward edges goal costs few inside settled steps at w.reached best r s e in
      record {
        reached = omega (arith, o.3, w.reached);
        places = w.places ++ (at ∷ []);
        count = length-append w.places (at ∷ []) ∙ omega (arith, w.count);
        writes = ap (λ z. set z written at) w.writes ∙ over_set w.places old written at w.count room;
        back = λ ns l q.
            let x = w.back (at ∷ ns) (o.1 + l) (onward_route at r o.1 l ns o.0 o.2 o.3 q) in
            (x.0, subst (λ z. Route (λ i. i < length costs) (Linked edges) start goal z x.0) (sym (append_assoc w.places (at ∷ []) ns)) x.1);
      }

  pub walk_ends : (start : ℕ) (old list : List ℕ) (at written : ℕ) (best : Option ℕ) → Walking edges costs start goal old list at written → written < length old → SmallestOn (cost_of costs at) (neighbours_of at edges) costs best → ((r : ℕ) → best ≡ Some r → ⊥) → Walked edges (length costs) start goal old (set list written at)
  walk_ends start old list at written best w room s e =
      let x = w.back (at ∷ []) 0 (goal_route at (ends_at_goal edges goal costs few inside settled steps at w.reached best s e)) in
      record {
        numbers = w.places ++ (at ∷ []);
        long = x.0;
        route = x.1;
        writes = ap (λ z. set z written at) w.writes ∙ over_set w.places old written at w.count room;
      }

  -- some chain is the chosen one
  pub record ChosenFrom (at : ℕ) : Type 0 where
    pub numbers : List ℕ
    pub long : ℕ
    pub route : Route (λ i. i < length costs) (Linked edges) at goal numbers long

  chosen_by : (fuel at : ℕ) → cost_at (ranks costs) at ≤ fuel → cost_at (ranks costs) at < none → ChosenFrom at
  chosen_by zero at f l = record { numbers = at ∷ []; long = 0; route = goal_route at (omega arith) }
  chosen_by (suc fuel) at f l = go (smallest_any (cost_of costs at) costs (neighbours_of at edges)) (λ j a b. chosen_by fuel j a b)
    where
      go : (best : Option ℕ) × SmallestOn (cost_of costs at) (neighbours_of at edges) costs best → ((j : ℕ) → cost_at (ranks costs) j ≤ fuel → cost_at (ranks costs) j < none → ChosenFrom j) → ChosenFrom at
      go b next = pick b.0 refl b.1
        where
          pick : (best : Option ℕ) → b.0 ≡ best → SmallestOn (cost_of costs at) (neighbours_of at edges) costs b.0 → ChosenFrom at
          pick None e s = record { numbers = at ∷ []; long = 0; route = goal_route at (ends_at_goal edges goal costs few inside settled steps at l b.0 s (λ r q. true≢false (ap is_some (sym q ∙ e)))) }
          pick (Some r) e s =
              let o = goes_onward edges goal costs few inside settled steps at l b.0 r s e in
              let n = next r (omega (arith, o.3)) (omega (arith, o.3)) in
              record { numbers = at ∷ n.numbers; long = o.1 + n.long; route = onward_route at r o.1 n.long n.numbers o.0 o.2 o.3 n.route }

  pub chosen_from : (at : ℕ) → cost_at (ranks costs) at < none → ChosenFrom at
  chosen_from at l = chosen_by (cost_at (ranks costs) at) at (omega arith) l
