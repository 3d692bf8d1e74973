-- Settled costs are the least: what they say of the chains to the goal. Assumes nothing.
use Rattle.std.proofs.Common.{◌≡◌, ℕ, zero, suc, ◌+◌, ◌*◌, ◌<◌, ◌≤◌, Bool, true, false, cond, ltb, ◌⊎◌, List, [], ◌∷◌, length, get_or, set, sym, refl, ap, ◌∙◌, subst, inl, inr, arith, le-ltb, lt-ltb}
use Rattle.std.specs.List.{AllByRecursion}
use Rattle.std.proofs.lemmas.List.{get_or_past}
use Rattle.std.proofs.lemmas.Bool.{cases_lt, cases_order}
use Rattle.hits.proofs.Among.{all_among}
use Rattle.chains.specs.declared.Edge.{Edge}
use Rattle.chains.specs.Chains.{Starts, NotAfter, Preferred, Joins, Route}
use Rattle.chains.specs.Edges.{edge, Linked, Inside}
use Rattle.chains.specs.Costs.{none, step_cost, cost_at, Way, stays, goes, SettledAt, Settled, Onward}

-- how many costs are below c
abbrev pub flag : ℕ → ℕ → ℕ
flag x c = cond (ltb x c) 1 0

pub below : ℕ → List ℕ → ℕ
below c [] = 0
below c (x ∷ xs) = flag x c + below c xs

flag_in : (x c : ℕ) → x < c → flag x c ≡ 1
flag_in x c l = ap (λ b. cond b 1 0) (lt-ltb x c l)

flag_out : (x c : ℕ) → c ≤ x → flag x c ≡ 0
flag_out x c l = ap (λ b. cond b 1 0) (le-ltb x c l)

flag_less : (x b c : ℕ) → b ≤ c → flag x b ≤ flag x c
flag_less x b c l = go (cases_lt x b)
  where
    go : (x < b) ⊎ (b ≤ x) → flag x b ≤ flag x c
    go (inl y) = omega (arith, flag_in x b y, flag_in x c (omega arith))
    go (inr y) = omega (arith, flag_out x b y)

below_more : (b c : ℕ) (xs : List ℕ) → b ≤ c → below b xs ≤ below c xs
unfolding below
below_more b c [] l = omega arith
below_more b c (x ∷ xs) l = omega (arith, flag_less x b c l, below_more b c xs l)

pub below_one : (c i : ℕ) (xs : List ℕ) → i < length xs → get_or xs i none < c → below (get_or xs i none) xs < below c xs
unfolding below
below_one c i [] l m = absurd (omega arith)
below_one c zero (x ∷ xs) l m = omega (arith, flag_in x c m, flag_out x x (omega arith), below_more x c xs (omega arith))
below_one c (suc i) (x ∷ xs) l m =
    let ih = below_one c i xs (omega arith) m in
    omega (arith, flag_less x (get_or xs i none) c (omega arith))

flag_one : (x c : ℕ) → flag x c ≤ 1
flag_one x c = go (ltb x c)
  where
    go : (b : Bool) → cond b 1 0 ≤ 1
    go true = omega arith
    go false = omega arith

below_all : (c : ℕ) (xs : List ℕ) → below c xs ≤ length xs
unfolding below
below_all c [] = omega arith
below_all c (x ∷ xs) = omega (arith, flag_one x c, below_all c xs)

pub below_few : (i : ℕ) (xs : List ℕ) → i < length xs → below (get_or xs i none) xs < length xs
unfolding below
below_few i [] l = absurd (omega arith)
below_few zero (x ∷ xs) l = omega (arith, flag_out x x (omega arith), below_all x xs)
below_few (suc i) (x ∷ xs) l = omega (arith, flag_one x (get_or xs i none), below_few i xs (omega arith))

flag_more : (x y c : ℕ) → y ≤ x → flag x c ≤ flag y c
flag_more x y c l = go (cases_lt x c)
  where
    go : (x < c) ⊎ (c ≤ x) → flag x c ≤ flag y c
    go (inl m) = omega (arith, flag_in x c m, flag_in y c (omega arith))
    go (inr m) = omega (arith, flag_out x c m)

-- where a cost falls, no fewer are below c
pub below_set : (c : ℕ) (xs : List ℕ) (i v : ℕ) → i < length xs → v ≤ get_or xs i none → below c xs ≤ below c (set xs i v)
unfolding below
below_set c [] i v l m = absurd (omega arith)
below_set c (x ∷ xs) zero v l m = omega (arith, flag_more x v c m)
below_set c (x ∷ xs) (suc i) v l m = omega (arith, below_set c xs i v (omega arith) m)

-- one more number in front of a chain
pub longer : (Stands : ℕ → Type 0) (Step : ℕ → ℕ → ℕ → Type 0) (i j d b : ℕ) (ns : List ℕ) (l : ℕ) → Step i j d → Joins Stands Step j b ns l → Joins Stands Step i b (i ∷ ns) (d + l)
longer Stands Step i j d b [] l s x = absurd x.chain
longer Stands Step i j d b (n ∷ ns) l s x =
    let P : ℕ → Type 0 = λ z. Step i z d in
    record { chain = (d, l, subst P x.starts s, x.chain, refl); starts = refl; ends = x.ends }

-- the place that nodes are, inside a list of costs
abbrev pub Placed : List ℕ → ℕ → Type 0
Placed costs i = i < length costs

module _ (edges : List Edge) (goal : ℕ) (costs : List ℕ) (few : length costs ≤ 1024) (all : AllByRecursion (Inside (length costs)) edges) (settled : Settled edges goal costs) where
  -- both ends of a link are inside, and it is not long
  linked_inside : (i j d : ℕ) → Linked edges i j d → (i < length costs) × (j < length costs) × (d ≤ 1048576)
  linked_inside i j d (inl m) = let p = all_among (Inside (length costs)) (edge i j d) edges all m in (p.0, p.1, p.2)
  linked_inside i j d (inr m) = let p = all_among (Inside (length costs)) (edge j i d) edges all m in (p.1, p.0, p.2)

  lowest : (i j d : ℕ) → Linked edges i j d → cost_at costs j < none → cost_at costs i ≤ cost_at costs j + step_cost d
  lowest i j d (inl m) l = (all_among (SettledAt costs) (edge i j d) edges settled.settled m).elder l
  lowest i j d (inr m) l = (all_among (SettledAt costs) (edge j i d) edges settled.settled m).younger l

  -- no way costs less
  least : (i c : ℕ) → Way edges goal i c → c < none → cost_at costs i ≤ c
  least i c (stays n b e f) l = let z : cost_at costs n ≡ 0 = ap (cost_at costs) e ∙ settled.attained.start in omega arith
  least i c (goes n b j d rest k w e) l =
      let ih = least j rest w (omega arith) in
      omega (arith, lowest n j d k (omega arith))

  -- a cost below none is at a place inside
  pub known : (i : ℕ) → cost_at costs i < none → i < length costs
  known i l = go (cases_lt i (length costs))
    where
      go : (i < length costs) ⊎ (length costs ≤ i) → i < length costs
      go (inl y) = y
      go (inr y) = let z : cost_at costs i ≡ none = get_or_past costs i none y in absurd (omega arith)

  -- the next place on a way of least cost
  pub record Next (i : ℕ) : Type 0 where
    pub place : ℕ
    pub apart : ℕ
    pub linked : Linked edges i place apart
    pub tight : cost_at costs place + step_cost apart ≡ cost_at costs i

  next_by : (i c : ℕ) → 0 < c → c ≡ cost_at costs i → c < none → Way edges goal i c → Next i
  next_by i c p is l (stays n b e f) = absurd (omega arith)
  next_by i c p is l (goes n b j d rest k w e) =
      let x = least j rest w (omega arith) in
      let y = lowest n j d k (omega arith) in
      record { place = j; apart = d; linked = k; tight = omega arith }

  pub next_of : (i : ℕ) → 0 < cost_at costs i → cost_at costs i < none → Next i
  next_of i p l = next_by i (cost_at costs i) p refl l (settled.attained.attained i l)

  goal_by : (i c : ℕ) → c ≡ 0 → Way edges goal i c → i ≡ goal
  goal_by i c is (stays n b e f) = e
  goal_by i c is (goes n b j d rest k w e) = absurd (omega arith)

  -- only the goal costs nothing
  pub goal_only : (i : ℕ) → cost_at costs i ≡ 0 → i ≡ goal
  goal_only i z = goal_by i (cost_at costs i) z (settled.attained.attained i (omega arith))

  -- what a cost says: a length and a count of steps, and a chain that has them
  pub record Worth (i : ℕ) : Type 0 where
    pub long : ℕ
    pub steps : ℕ
    pub is : cost_at costs i ≡ long * 65536 + steps
    pub under : steps ≤ below (cost_at costs i) costs
    pub bound : long ≤ steps * 1048576
    pub numbers : List ℕ
    pub joins : Joins (Placed costs) (Linked edges) i goal numbers long
    pub count : length numbers ≡ steps + 1

  worth_goal : (i : ℕ) → cost_at costs i ≡ 0 → Worth i
  worth_goal i z =
      let e = goal_only i z in
      let P : ℕ → Type 0 = λ x. x < length costs in
      record { long = 0; steps = 0; is = z; under = omega arith; bound = omega arith; numbers = i ∷ []; joins = record { chain = (subst P (sym e) settled.attained.inside, refl); starts = refl; ends = sym e }; count = refl }

  worth_next : (i : ℕ) (n : Next i) → Worth n.place → Worth i
  worth_next i n w =
      let in' = linked_inside i n.place n.apart n.linked in
      let fewer = below_one (cost_at costs i) n.place costs in'.1 (omega (arith, n.tight)) in
      record {
        long = n.apart + w.long;
        steps = w.steps + 1;
        is = omega (arith, n.tight, w.is);
        under = omega (arith, w.under);
        bound = omega (arith, w.bound, in'.2);
        numbers = i ∷ w.numbers;
        joins = longer (Placed costs) (Linked edges) i n.place n.apart goal w.numbers w.long n.linked w.joins;
        count = omega (arith, w.count);
      }

  worth_by : (fuel i : ℕ) → cost_at costs i ≤ fuel → cost_at costs i < none → Worth i
  worth_by zero i f l = worth_goal i (omega arith)
  worth_by (suc fuel) i f l = go (cases_lt 0 (cost_at costs i)) (λ j a b. worth_by fuel j a b)
    where
      go : (0 < cost_at costs i) ⊎ (cost_at costs i ≤ 0) → ((j : ℕ) → cost_at costs j ≤ fuel → cost_at costs j < none → Worth j) → Worth i
      go (inr z) rec' = worth_goal i (omega arith)
      go (inl p) rec' = let n = next_of i p l in let t = n.tight in worth_next i n (rec' n.place (omega arith) (omega arith))

  pub worth : (i : ℕ) → cost_at costs i < none → Worth i
  worth i l = worth_by (cost_at costs i) i (omega arith) l

  -- fewer steps than places
  pub worth_few : (i : ℕ) → cost_at costs i < none → (w : Worth i) → w.steps < length costs
  worth_few i l w = omega (arith, w.under, below_few i costs (known i l))

  pub worth_small : (i : ℕ) → cost_at costs i < none → (w : Worth i) → cost_at costs i < 140737488355328
  worth_small i l w = omega (arith, w.is, w.bound, worth_few i l w)

  -- what a chain to the goal says of its first place: the cost is known, and no higher than the chain's
  pub record Beats (i : ℕ) (os : List ℕ) (t : ℕ) : Type 0 where
    pub reached : cost_at costs i < none
    pub beats : ((worth i reached).long < t) ⊎ (((worth i reached).long ≡ t) × ((worth i reached).steps + 1 ≤ length os))

  beats_goal : (i t : ℕ) → i ≡ goal → t ≡ 0 → Beats i (i ∷ []) t
  beats_goal i t e z =
      let c : cost_at costs i ≡ 0 = ap (cost_at costs) e ∙ settled.attained.start in
      let k : cost_at costs i < none = omega arith in
      let w = worth i k in
      record { reached = k; beats = inr (omega (arith, w.is), omega (arith, w.is)) }

  beats_step : (i j d t : ℕ) (os : List ℕ) → Linked edges i j d → Beats j os t → Beats i (i ∷ os) (d + t)
  beats_step i j d t os k b =
      let v = worth j b.reached in
      let fv = worth_few j b.reached v in
      let up = lowest i j d k b.reached in
      let in' = linked_inside i j d k in
      let sm = worth_small j b.reached v in
      let x : cost_at costs i < none = omega (arith, in'.2) in
      let w = worth i x in
      let fw = worth_few i x w in
      let vis = v.is in
      let wis = w.is in
      record { reached = x; beats = go x fv fw up vis wis b.beats }
    where
      go : (x : cost_at costs i < none) → (worth j b.reached).steps < length costs → (worth i x).steps < length costs → cost_at costs i ≤ cost_at costs j + step_cost d
          → cost_at costs j ≡ (worth j b.reached).long * 65536 + (worth j b.reached).steps
          → cost_at costs i ≡ (worth i x).long * 65536 + (worth i x).steps
          → ((worth j b.reached).long < t) ⊎ (((worth j b.reached).long ≡ t) × ((worth j b.reached).steps + 1 ≤ length os))
          → ((worth i x).long < d + t) ⊎ (((worth i x).long ≡ d + t) × ((worth i x).steps + 1 ≤ length (i ∷ os)))
      go x fv fw up vis wis (inl y) = inl (omega arith)
      go x fv fw up vis wis (inr y) = split (cases_lt (worth i x).long (d + t))
        where
          split : ((worth i x).long < d + t) ⊎ (d + t ≤ (worth i x).long) → ((worth i x).long < d + t) ⊎ (((worth i x).long ≡ d + t) × ((worth i x).steps + 1 ≤ length (i ∷ os)))
          split (inl z) = inl z
          split (inr z) = inr (omega (arith, y.0, y.1), omega (arith, y.0, y.1))

  pub beats_all : (i : ℕ) (os : List ℕ) (t : ℕ) → Joins (Placed costs) (Linked edges) i goal os t → Beats i os t
  beats_all i [] t x = absurd x.chain
  beats_all i (n ∷ []) t x =
      let P : ℕ → Type 0 = λ z. Beats z (n ∷ []) t in
      subst P (sym x.starts) (beats_goal n t (sym x.ends) x.chain.1)
  beats_all i (n ∷ (m ∷ rest)) t x =
      let y = beats_all m (m ∷ rest) x.chain.1 (record { chain = x.chain.3; starts = refl; ends = x.ends }) in
      let P : ℕ → Type 0 = λ z. Beats z (n ∷ (m ∷ rest)) t in
      let Q : ℕ → Type 0 = λ z. Beats n (n ∷ (m ∷ rest)) z in
      subst P (sym x.starts) (subst Q (sym x.chain.4) (beats_step n m x.chain.0 x.chain.1 (m ∷ rest) x.chain.2 y))

  pub reached_all : (i : ℕ) (os : List ℕ) (t : ℕ) → Joins (Placed costs) (Linked edges) i goal os t → cost_at costs i < none
  reached_all i os t x = (beats_all i os t x).reached

  -- a chain that the rule chooses costs what its first place says
  pub record Costs (i : ℕ) (ns : List ℕ) (l : ℕ) : Type 0 where
    pub reached : cost_at costs i < none
    pub is : cost_at costs i + 1 ≡ l * 65536 + length ns
    pub short : length ns ≤ length costs
    pub bound : l ≤ 1024 * 1048576

  pub route_costs : (i : ℕ) (ns : List ℕ) (l : ℕ) → Route (Placed costs) (Linked edges) i goal ns l → Costs i ns l
  route_costs i ns l r =
      let b = beats_all i ns l r.joins in
      let w = worth i b.reached in
      let few' = worth_few i b.reached w in
      go b w few' b.beats (r.best w.numbers w.long w.joins)
    where
      go : (b : Beats i ns l) (w : Worth i) → w.steps < length costs → (w.long < l) ⊎ ((w.long ≡ l) × (w.steps + 1 ≤ length ns)) → Preferred l ns w.long w.numbers → Costs i ns l
      go b w f (inl x) (inl y) = absurd (omega arith)
      go b w f (inl x) (inr y) = absurd (omega (arith, y.0))
      go b w f (inr x) (inl y) = absurd (omega (arith, x.0))
      go b w f (inr x) (inr y) = both y.1
        where
          both : (length ns < length w.numbers) ⊎ ((length ns ≡ length w.numbers) × NotAfter ns w.numbers) → Costs i ns l
          both (inl z) = absurd (omega (arith, x.1, w.count))
          both (inr z) = record { reached = b.reached; is = omega (arith, x.0, z.0, w.is, w.count); short = omega (arith, z.0, w.count); bound = omega (arith, x.0, w.bound) }

  -- from the goal to itself
  pub route_goal : Route (Placed costs) (Linked edges) goal goal (goal ∷ []) 0
  route_goal = record { joins = record { chain = (settled.attained.inside, refl); starts = refl; ends = refl }; best = best }
    where
      best : (os : List ℕ) (t : ℕ) → Joins (Placed costs) (Linked edges) goal goal os t → Preferred 0 (goal ∷ []) t os
      best [] t x = absurd x.chain
      best (n ∷ []) t x = inr (sym x.chain.1, inr (refl, inr (x.starts, tt)))
      best (n ∷ (m ∷ rest)) t x = go (cases_lt 0 t)
        where
          go : (0 < t) ⊎ (t ≤ 0) → Preferred 0 (goal ∷ []) t (n ∷ (m ∷ rest))
          go (inl y) = inl y
          go (inr y) = inr (omega arith, inl (omega arith))

  module _ (i r d l : ℕ) (ns : List ℕ) (onward : Onward edges costs i r) (link : Linked edges i r d) (tight : cost_at costs r + step_cost d ≡ cost_at costs i) (route : Route (Placed costs) (Linked edges) r goal ns l) where
    first : (m : ℕ) (os : List ℕ) → r < m → Starts r ns → NotAfter ns (m ∷ os)
    first m os x s = go ns s
      where
        go : (qs : List ℕ) → Starts r qs → NotAfter qs (m ∷ os)
        go [] e = absurd e
        go (q ∷ qs) e = inl (omega arith)

    -- another chain, as long and of as many numbers
    tie : (n m d' t' : ℕ) (rest : List ℕ) → i ≡ n → Linked edges n m d' → Joins (Placed costs) (Linked edges) m goal (m ∷ rest) t'
        → d + l ≡ d' + t' → length ns ≡ length (m ∷ rest) → NotAfter (i ∷ ns) (n ∷ (m ∷ rest))
    tie n m d' t' rest e k x long many =
        let b = beats_all m (m ∷ rest) t' x in
        let w = worth m b.reached in
        let few' = worth_few m b.reached w in
        let k' : Linked edges i m d' = (let P : ℕ → Type 0 = λ z. Linked edges z m d' in subst P (sym e) k) in
        let c = route_costs r ns l route in
        let tight' : cost_at costs m + step_cost d' ≡ cost_at costs i = omega (arith, lowest i m d' k' b.reached, low w few' b.beats, c.is) in
        inr (e, go k' tight' (cases_order r m))
      where
        low : (w : Worth m) → w.steps < length costs → (w.long < t') ⊎ ((w.long ≡ t') × (w.steps + 1 ≤ length (m ∷ rest))) → cost_at costs m + 1 ≤ t' * 65536 + length (m ∷ rest)
        low w f (inl y) = omega (arith, w.is)
        low w f (inr y) = omega (arith, w.is, y.0, y.1)

        same : r ≡ m → cost_at costs m + step_cost d' ≡ cost_at costs i → NotAfter ns (m ∷ rest)
        same e' t2 =
            let ce : cost_at costs r ≡ cost_at costs m = ap (cost_at costs) e' in
            let x' : Joins (Placed costs) (Linked edges) r goal (m ∷ rest) t' = record { chain = x.chain; starts = e'; ends = x.ends } in
            pick (omega arith) (route.best (m ∷ rest) t' x')
          where
            pick : l ≡ t' → Preferred l ns t' (m ∷ rest) → NotAfter ns (m ∷ rest)
            pick e2 (inl y) = absurd (omega arith)
            pick e2 (inr y) = pick2 y.1
              where
                pick2 : (length ns < length (m ∷ rest)) ⊎ ((length ns ≡ length (m ∷ rest)) × NotAfter ns (m ∷ rest)) → NotAfter ns (m ∷ rest)
                pick2 (inl z) = absurd (omega arith)
                pick2 (inr z) = z.1

        go : Linked edges i m d' → cost_at costs m + step_cost d' ≡ cost_at costs i → (r ≡ m) ⊎ ((r < m) ⊎ (m < r)) → NotAfter ns (m ∷ rest)
        go k' t2 (inl e2) = same e2 t2
        go k' t2 (inr (inl y)) = first m rest y route.joins.starts
        go k' t2 (inr (inr y)) = absurd (omega (arith, onward.smallest m d' k' t2))

    over_all : (os : List ℕ) (t : ℕ) → Joins (Placed costs) (Linked edges) i goal os t → Preferred (d + l) (i ∷ ns) t os
    over_all [] t x = absurd x.chain
    over_all (n ∷ []) t x =
        let z : cost_at costs i ≡ 0 = ap (cost_at costs) (x.starts ∙ sym x.ends) ∙ settled.attained.start in
        absurd (omega arith)
    over_all (n ∷ (m ∷ rest)) t x =
        let b = beats_all i (n ∷ (m ∷ rest)) t x in
        let w = worth i b.reached in
        let few' = worth_few i b.reached w in
        let c = route_costs r ns l route in
        let a1 : w.long ≡ d + l = omega (arith, w.is, c.is, c.short) in
        let a2 : w.steps ≡ length ns = omega (arith, w.is, c.is, c.short) in
        go w a1 a2 b.beats
      where
        go : (w : Worth i) → w.long ≡ d + l → w.steps ≡ length ns → (w.long < t) ⊎ ((w.long ≡ t) × (w.steps + 1 ≤ length (n ∷ (m ∷ rest)))) → Preferred (d + l) (i ∷ ns) t (n ∷ (m ∷ rest))
        go w a1 a2 (inl y) = inl (omega arith)
        go w a1 a2 (inr y) = inr (omega (arith, y.0), more (cases_lt (length (i ∷ ns)) (length (n ∷ (m ∷ rest)))))
          where
            more : (length (i ∷ ns) < length (n ∷ (m ∷ rest))) ⊎ (length (n ∷ (m ∷ rest)) ≤ length (i ∷ ns)) → (length (i ∷ ns) < length (n ∷ (m ∷ rest))) ⊎ ((length (i ∷ ns) ≡ length (n ∷ (m ∷ rest))) × NotAfter (i ∷ ns) (n ∷ (m ∷ rest)))
            more (inl z) = inl z
            more (inr z) = inr (omega (arith, y.1), tie n m x.chain.0 x.chain.1 rest x.starts x.chain.2 (record { chain = x.chain.3; starts = refl; ends = x.ends }) (omega (arith, y.0, x.chain.4)) (omega (arith, y.1)))

    -- the chosen chain from a place: the place, then the chosen chain from the smallest next one
    pub route_onward : Route (Placed costs) (Linked edges) i goal (i ∷ ns) (d + l)
    route_onward = record { joins = longer (Placed costs) (Linked edges) i r d goal ns l link route.joins; best = over_all }
