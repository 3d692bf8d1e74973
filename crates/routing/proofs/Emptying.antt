-- Costs are settled when no place waits. Assumes nothing.
use Rattle.std.proofs.Common.{◌≡◌, ℕ, zero, suc, ◌+◌, ◌*◌, ◌<◌, ◌≤◌, ◌⊎◌, true, false, List, [], ◌∷◌, length, get_or, set, replicate, sum, None, Some, Option, is_some, true≢false, sym, refl, ap, ◌∙◌, subst, inl, inr, arith, drop, ◌-◌, slice_index}
use Rattle.std.specs.List.{AllByRecursion}
use Rattle.std.proofs.ByRecursion.{All-weaker, All-take, All-drop}
use Rattle.std.proofs.lemmas.List.{length-map, length-set, get_or-set_same, get_or-set_other, get_or-replicate, get_or_past, length-replicate}
use Rattle.std.proofs.lemmas.Bool.{cases_eq, cases_lt, both_ways}
use Rattle.hits.specs.Samples.{Among}
use Rattle.hits.proofs.Among.{all_among}
use Rattle.chains.specs.declared.Edge.{Edge}
use Rattle.chains.specs.Edges.{Linked, Inside}
use Rattle.chains.specs.Costs.{none, cost_at, Way, stays, SettledAt, Attained, Settled}
use Rattle.routing.specs.declared.cost.Cost.{Cost}
use Rattle.routing.specs.declared.knockout.Waiting.{Waiting}
use Rattle.routing.specs.declared.neighbours.Neighbour.{Neighbour}
use Rattle.routing.specs.Ranks.{cost_of, rank, rank_of, ranks, lowers}
use Rattle.routing.specs.Layouts.{neighbour, neighbours_at, neighbours_of, Near}
use Rattle.routing.specs.Knockouts.{waits, places, OnlyAt, Taken, nobody, least, IsKnockout, Best, entry}
use Rattle.routing.specs.Settles.{Agrees, HandedOn, Offered, kept, lowered}
use Rattle.routing.proofs.Laying.{link_here, here_link}
use Rattle.routing.proofs.Offering.{Bounded, Waits, Served, CalmBut, Handed, NearIn, handed, handed_keeps, rank_at, some_or}
use Rattle.chains.proofs.Settling.{below}

-- costs of chains, of which each place waits or is served
pub record Underway (edges : List Edge) (goal : ℕ) (costs : List (Option Cost)) (waiting : List (Option Waiting)) : Type 0 where
  pub attained : Attained edges goal (ranks costs)
  pub calm : (j : ℕ) → j < length costs → Waits waiting j ⊎ Served edges (ranks costs) j

-- how many of the first n places wait
abbrev pub one_if : Option Waiting → ℕ
one_if None = 0
one_if (Some w) = 1

unfoldable pub waiters : List (Option Waiting) → ℕ → ℕ
waiters waiting zero = 0
waiters waiting (suc n) = waiters waiting n + one_if (waits waiting n)

one_at_most : (x : Option Waiting) → one_if x ≤ 1
one_at_most None = omega arith
one_at_most (Some w) = omega arith

pub waiters_few : (waiting : List (Option Waiting)) (n : ℕ) → waiters waiting n ≤ n
unfolding waiters
waiters_few waiting zero = omega arith
waiters_few waiting (suc n) = omega (arith, waiters_few waiting n, one_at_most (waits waiting n))

waiters_same : (before after : List (Option Waiting)) (n : ℕ) → ((q : ℕ) → q < n → waits after q ≡ waits before q) → waiters after n ≡ waiters before n
unfolding waiters
waiters_same before after zero e = refl
waiters_same before after (suc n) e = omega (arith, waiters_same before after n (λ q l. e q (omega arith)), ap one_if (e n (omega arith)))

-- one waits no more
waiters_less : (before after : List (Option Waiting)) (n p : ℕ) (w : Waiting) → p < n → waits before p ≡ Some w → waits after p ≡ None → ((q : ℕ) → q < n → (q ≡ p → ⊥) → waits after q ≡ waits before q) → waiters before n ≡ waiters after n + 1
unfolding waiters
waiters_less before after zero p w l s t e = absurd (omega arith)
waiters_less before after (suc n) p w l s t e = go (cases_eq n p) (λ m. waiters_less before after n p w m s t (λ q k u. e q (omega arith) u))
  where
    go : (n ≡ p) ⊎ (n ≡ p → ⊥) → (p < n → waiters before n ≡ waiters after n + 1) → waiters before n + one_if (waits before n) ≡ waiters after n + one_if (waits after n) + 1
    go (inl y) ih = omega (arith, waiters_same before after n (λ q k. e q (omega arith) (λ z. omega arith)), ap one_if (ap (waits before) y ∙ s), ap one_if (ap (waits after) y ∙ t))
    go (inr y) ih = omega (arith, ih (omega (arith, y)), ap one_if (e n (omega arith) y))

-- A place is taken out and handed on from.
module _ (costs costs' : List (Option Cost)) (before middle after : List (Option Waiting)) (w : Waiting) (ns : List Neighbour) (agrees : Agrees costs before) (bounded : Bounded costs)
    (l : w.place < places before) (is : waits before w.place ≡ Some w) (only : OnlyAt w.place before middle) (gone : waits middle w.place ≡ None) (near : NearIn (length costs) ns) (h : HandedOn w.cost ns costs middle costs' after) where
  in_costs : w.place < length costs
  in_costs = omega (arith, agrees.twice)

  pub known : cost_of costs w.place ≡ Some w.cost
  known = agrees.same w.place w in_costs is

  middle_twice : length middle ≡ 2 * length costs
  middle_twice = omega (arith, only.long, agrees.twice)

  pub done : Handed w.place w.cost ns costs costs' middle after
  done = handed w.place w.cost ns costs costs' middle after h bounded agrees.few in_costs known near

  pub lower : sum (ranks costs') * 1025 + waiters after (length costs') < sum (ranks costs) * 1025 + waiters before (length costs)
  lower = go done.fallen.less
    where
      long : length costs' ≡ length costs
      long = done.fallen.long

      fewer : waiters before (length costs) ≡ waiters middle (length costs) + 1
      fewer = waiters_less before middle (length costs) w.place w in_costs is gone (λ q k n. only.others q (omega (arith, agrees.twice)) (λ z. n z))

      go : ((costs' ≡ costs) × (after ≡ middle)) ⊎ (sum (ranks costs') < sum (ranks costs)) → sum (ranks costs') * 1025 + waiters after (length costs') < sum (ranks costs) * 1025 + waiters before (length costs)
      go (inl e) = omega (arith, ap (λ z. sum (ranks z)) e.0, ap (λ z. waiters after z) long, ap (λ z. waiters z (length costs)) e.1, fewer)
      go (inr s) = omega (arith, waiters_few after (length costs'), agrees.few, long)

  pub underway_on : (edges : List Edge) (goal : ℕ) → (ns ≡ neighbours_of w.place edges) → Underway edges goal costs before → Underway edges goal costs' after
  underway_on edges goal e u =
      let links : (n : Neighbour) → Among n ns → Linked edges w.place n.place n.length = λ n a. here_link edges w.place n (subst (Among n) e a) in
      let r = handed_keeps edges goal w.place w.cost ns costs costs' middle after h bounded agrees.few in_costs known near links middle_twice u.attained (λ j k n. first j k n (u.calm j k)) in
      record { attained = r.0; calm = λ j k. all j k r.1 (cases_eq j w.place) }
    where
      first : (j : ℕ) → j < length costs → (j ≡ w.place → ⊥) → Waits before j ⊎ Served edges (ranks costs) j → Waits middle j ⊎ Served edges (ranks costs) j
      first j k n (inl x) = inl (x.0, only.others j (omega (arith, agrees.twice)) (λ z. n z) ∙ x.1)
      first j k n (inr s) = inr s

      all : (j : ℕ) → j < length costs' → CalmBut edges w.place costs' after → (j ≡ w.place) ⊎ (j ≡ w.place → ⊥) → Waits after j ⊎ Served edges (ranks costs') j
      all j k calm (inr n) = calm j k n
      all j k calm (inl q) = inr (λ i d link m.
          let at : cost_at (ranks costs') j ≡ rank w.cost = ap (cost_at (ranks costs')) q ∙ (rank_at costs' w.place ∙ ap rank_of done.still) in
          omega (arith, done.served (neighbour i d) (subst (Among (neighbour i d)) (sym e) (link_here edges w.place i d (subst (λ z. Linked edges z i d) q link))), at))

-- nobody waits: no cost can be lowered
pub settled_when : (edges : List Edge) (goal n : ℕ) (costs : List (Option Cost)) (waiting : List (Option Waiting)) → length costs ≡ n → AllByRecursion (Inside n) edges → length waiting ≡ 2 * length costs → ((p : ℕ) → p < places waiting → waits waiting p ≡ None) → Underway edges goal costs waiting → Settled edges goal (ranks costs)
settled_when edges goal n costs waiting long inside twice none_waits u = record { attained = u.attained; settled = each edges (λ e a. at e a) }
  where
    served : (j : ℕ) → j < length costs → Waits waiting j ⊎ Served edges (ranks costs) j → Served edges (ranks costs) j
    served j l (inr s) = s
    served j l (inl w) = absurd (true≢false (ap is_some (sym w.1 ∙ none_waits j (omega (arith, twice)))))

    at : (e : Edge) → Among e edges → SettledAt (ranks costs) e
    at e a =
        let p = all_among (Inside n) e edges inside a in
        record {
          elder = λ m. served e.younger (omega (arith, p.1, long)) (u.calm e.younger (omega (arith, p.1, long))) e.elder e.length (inr a) m;
          younger = λ m. served e.elder (omega (arith, p.0, long)) (u.calm e.elder (omega (arith, p.0, long))) e.younger e.length (inl a) m;
        }

    each : (es : List Edge) → ((e : Edge) → Among e es → SettledAt (ranks costs) e) → AllByRecursion (SettledAt (ranks costs)) es
    each [] f = tt
    each (e ∷ es) f = (f e (inl refl), each es (λ x a. f x (inr a)))

-- nothing is known yet, and nobody waits
pub nobody_at : {X : Type 0} (n i : ℕ) (x : Option X) → x ≡ None → get_or (replicate n x) i None ≡ None
nobody_at n i x e = go (cases_lt i n)
  where
    go : (i < n) ⊎ (n ≤ i) → get_or (replicate n x) i None ≡ None
    go (inl l) = get_or-replicate n i x None l ∙ e
    go (inr l) = get_or_past (replicate n x) i None (omega (arith, length-replicate n x))

-- at first only the goal has a cost, and waits
module _ (goal : ℕ) (costs : List (Option Cost)) (none_known : (i : ℕ) → cost_of costs i ≡ None) (l : goal < length costs) where
  abbrev zero_cost : Cost
  zero_cost = record { length = 0; steps = 0 }

  goal_here : cost_of (set costs goal (Some zero_cost)) goal ≡ Some zero_cost
  goal_here = get_or-set_same costs goal (Some zero_cost) None l

  goal_only : (i : ℕ) → (i ≡ goal → ⊥) → cost_of (set costs goal (Some zero_cost)) i ≡ None
  goal_only i n = get_or-set_other costs goal i (Some zero_cost) None n ∙ none_known i

  pub start_bounded : (costs' : List (Option Cost)) (waiting waiting' : List (Option Waiting)) → Offered goal zero_cost costs waiting costs' waiting' → Bounded costs'
  start_bounded costs' waiting waiting' (kept e) i c m s = absurd (true≢false (ap is_some (sym s ∙ none_known i)))
  start_bounded costs' waiting waiting' (lowered after e t) i c m s = go (cases_eq i goal)
    where
      go : (i ≡ goal) ⊎ (i ≡ goal → ⊥) → (c.steps ≤ below (rank c) (ranks (set costs goal (Some zero_cost)))) × (c.length ≤ c.steps * 1048576)
      go (inl q) =
          let is : zero_cost ≡ c = ap (some_or zero_cost) (sym goal_here ∙ (ap (cost_of (set costs goal (Some zero_cost))) (sym q) ∙ s)) in
          subst (λ k. (k.steps ≤ below (rank k) (ranks (set costs goal (Some zero_cost)))) × (k.length ≤ k.steps * 1048576)) is (omega arith, omega arith)
      go (inr n) = absurd (true≢false (ap is_some (sym s ∙ goal_only i n)))

  pub start_underway : (edges : List Edge) (costs' : List (Option Cost)) (waiting waiting' : List (Option Waiting)) → Offered goal zero_cost costs waiting costs' waiting' → Underway edges goal costs' waiting'
  start_underway edges costs' waiting waiting' (kept e) = absurd (both_ways true (subst (λ k. lowers zero_cost k ≡ false) (none_known goal) e) refl)
  start_underway edges costs' waiting waiting' (lowered after e t) = record {
    attained = record {
      inside = omega (arith, length-map (set costs goal (Some zero_cost)) rank_of, length-set costs goal (Some zero_cost));
      start = at_goal;
      attained = λ i m. way i m (cases_eq i goal);
    };
    calm = λ j m. calm j (cases_eq j goal);
  }
    where
      at_goal : cost_at (ranks (set costs goal (Some zero_cost))) goal ≡ 0
      at_goal = rank_at (set costs goal (Some zero_cost)) goal ∙ (ap rank_of goal_here ∙ omega arith)

      elsewhere : (i : ℕ) → (i ≡ goal → ⊥) → cost_at (ranks (set costs goal (Some zero_cost))) i ≡ none
      elsewhere i n = rank_at (set costs goal (Some zero_cost)) i ∙ ap rank_of (goal_only i n)

      way : (i : ℕ) → cost_at (ranks (set costs goal (Some zero_cost))) i < none → (i ≡ goal) ⊎ (i ≡ goal → ⊥) → Way edges goal i (cost_at (ranks (set costs goal (Some zero_cost))) i)
      way i m (inl q) = stays i (cost_at (ranks (set costs goal (Some zero_cost))) i) q (ap (cost_at (ranks (set costs goal (Some zero_cost)))) q ∙ at_goal)
      way i m (inr n) = absurd (omega (arith, elsewhere i n))

      calm : (j : ℕ) → (j ≡ goal) ⊎ (j ≡ goal → ⊥) → Waits after j ⊎ Served edges (ranks (set costs goal (Some zero_cost))) j
      calm j (inl q) = inl (record { cost = zero_cost; place = goal }, ap (waits after) q ∙ t.waits)
      calm j (inr n) = inr (λ i d k m. absurd (omega (arith, elsewhere j n)))

-- nobody waits: all matches are decided
pub blank_agrees : (costs : List (Option Cost)) (waiting : List (Option Waiting)) → ((i : ℕ) → entry waiting i ≡ None) → length waiting ≡ 2 * length costs → length costs ≤ 1024 → Agrees costs waiting
blank_agrees costs waiting none_there twice few = record {
  knockout = record {
    even = omega (arith, twice);
    decided = λ i a b n. best_none (entry waiting i) (entry waiting (2 * i)) (entry waiting (2 * i + 1)) (none_there i) (none_there (2 * i)) (none_there (2 * i + 1));
    named = λ p w l s. absurd (true≢false (ap is_some (sym s ∙ none_there (places waiting + p))));
  };
  twice = twice;
  few = few;
  same = λ p w l s. absurd (true≢false (ap is_some (sym s ∙ none_there (places waiting + p))));
}
  where
    best_none : (x a b : Option Waiting) → x ≡ None → a ≡ None → b ≡ None → Best x a b
    best_none x a b e f g = subst (λ z. Best z a b) (sym e) (subst (λ z. Best None z b) (sym f) (subst (λ z. Best None None z) (sym g) (record { one = inl refl; first = tt; second = tt })))

-- what was taken out
pub record Out (before : List (Option Waiting)) (w : Waiting) (after : List (Option Waiting)) : Type 0 where
  pub inside : w.place < places before
  pub is : waits before w.place ≡ Some w
  pub knockout : IsKnockout after
  pub only : OnlyAt w.place before after
  pub gone : waits after w.place ≡ None

abbrev waiting_or : Waiting → Option Waiting → Waiting
waiting_or w None = w
waiting_or w (Some v) = v

pub taken_some : (before after : List (Option Waiting)) (r : Option Waiting) (w : Waiting) → Taken before r after → r ≡ Some w → Out before w after
taken_some before after r w (nobody e) s = absurd (true≢false (ap is_some (sym s)))
taken_some before after r w (least v m a b c d e f) s = subst (λ z. Out before z m) (ap (waiting_or v) s) (record { inside = a; is = b; knockout = d; only = e; gone = f })

pub taken_none : (before after : List (Option Waiting)) (r : Option Waiting) → Taken before r after → ((w : Waiting) → r ≡ Some w → ⊥) → (p : ℕ) → p < places before → waits before p ≡ None
taken_none before after r (nobody e) s p l = e p l
taken_none before after r (least v m a b c d e f) s p l = absurd (s v refl)

-- nobody waited: nothing is taken out
pub taken_same : (before after : List (Option Waiting)) (r : Option Waiting) → Taken before r after → ((w : Waiting) → r ≡ Some w → ⊥) → after ≡ before
taken_same before after r (nobody e) s = refl
taken_same before after r (least v m a b c d e f) s = absurd (s v refl)

-- the costs agree without the one taken out
pub agrees_out : (costs : List (Option Cost)) (before after : List (Option Waiting)) (w : Waiting) → Agrees costs before → Out before w after → Agrees costs after
agrees_out costs before after w a o = record { knockout = o.knockout; twice = o.only.long ∙ a.twice; few = a.few; same = λ p v l s. go p v l s (cases_eq p w.place) }
  where
    go : (p : ℕ) (v : Waiting) → p < length costs → waits after p ≡ Some v → (p ≡ w.place) ⊎ (p ≡ w.place → ⊥) → cost_of costs p ≡ Some v.cost
    go p v l s (inl e) = absurd (true≢false (ap is_some (sym s ∙ (ap (waits after) e ∙ o.gone))))
    go p v l s (inr n) = a.same p v l (sym (o.only.others p (omega (arith, a.twice)) (λ z. n z)) ∙ s)

-- the neighbours of a place are places
pub near_here : (ends : List ℕ) (all : List Neighbour) (n p : ℕ) → length ends ≡ n + 1 → Near ends all → NearIn n (neighbours_at ends all p)
near_here ends all n p long near =
    All-weaker (λ m. (m.place + 1 < length ends) × (m.length ≤ 1048576)) (λ m. (m.place < n) × (m.length ≤ 1048576)) (λ m x. (omega (arith, x.0, long), x.1)) (neighbours_at ends all p)
    (All-take (λ m. (m.place + 1 < length ends) × (m.length ≤ 1048576)) (slice_index ends (p + 1) - slice_index ends p) (drop (slice_index ends p) all) (All-drop (λ m. (m.place + 1 < length ends) × (m.length ≤ 1048576)) (slice_index ends p) all near))
