-- Costs that are offered: how far they fall, and that they stay costs of chains. Assumes nothing.
use Rattle.std.proofs.Common.{◌≡◌, ℕ, zero, suc, ◌+◌, ◌*◌, ◌<◌, ◌≤◌, true, false, ◌⊎◌, List, [], ◌∷◌, ◌++◌, length, set, sum, None, Some, Option, sym, refl, ap, ◌∙◌, subst, inl, inr, arith}
use Rattle.std.specs.List.{AllByRecursion}
use Rattle.std.proofs.lemmas.List.{map-set, length-map, length-set, get_or-set_same, get_or-set_other}
use Rattle.std.proofs.lemmas.List.Sums.{sum_by-set}
use Rattle.std.proofs.lemmas.Bool.{cases_eq, both_ways}
use Rattle.std.proofs.lemmas.Bool.Decides.{nat_tests}
use Rattle.hits.specs.Samples.{Among}
use Rattle.chains.specs.declared.Edge.{Edge}
use Rattle.chains.specs.Edges.{Linked}
use Rattle.chains.specs.Costs.{none, step_cost, cost_at, Way, goes, Attained}
use Rattle.chains.proofs.Settling.{below, below_one, below_few, below_set}
use Rattle.routing.specs.declared.cost.Cost.{Cost}
use Rattle.routing.specs.declared.knockout.Waiting.{Waiting}
use Rattle.routing.specs.declared.neighbours.Neighbour.{Neighbour}
use Rattle.routing.specs.Ranks.{cheaper, lowers, onward, cost_of, rank, rank_of, ranks}
use Rattle.routing.specs.Knockouts.{waits}
use Rattle.routing.specs.Settles.{Offered, kept, lowered, HandedOn, none_left, one_more}

-- one more neighbour is offered behind the others
pub handed_more : (c : Cost) (ns : List Neighbour) (n : Neighbour) (costs costs' costs'' : List (Option Cost)) (waiting waiting' waiting'' : List (Option Waiting))
    → HandedOn c ns costs waiting costs' waiting' → Offered n.place (onward c n.length) costs' waiting' costs'' waiting'' → HandedOn c (ns ++ (n ∷ [])) costs waiting costs'' waiting''
handed_more c ns n costs costs' costs'' waiting waiting' waiting'' (none_left a b) o = one_more n [] a costs'' costs'' b waiting'' waiting'' o (none_left costs'' waiting'')
handed_more c ns n costs costs' costs'' waiting waiting' waiting'' (one_more m ms a b d x y z p h) o = one_more m (ms ++ (n ∷ [])) a b costs'' x y waiting'' p (handed_more c ms n b d costs'' y z waiting'' h o)

-- the rank of a cost, among the ranks
pub rank_at : (costs : List (Option Cost)) (i : ℕ) → cost_at (ranks costs) i ≡ rank_of (cost_of costs i)
rank_at [] i = refl
rank_at (c ∷ cs) zero = refl
rank_at (c ∷ cs) (suc i) = rank_at cs i

cheaper_rank : (a b : Cost) → a.steps < 65536 → b.steps < 65536 → cheaper a b ≡ true → rank a < rank b
unfolding cheaper
cheaper_rank a b l m e = grind (arith, nat_tests)

not_cheaper_rank : (a b : Cost) → a.steps < 65536 → b.steps < 65536 → cheaper a b ≡ false → rank b ≤ rank a
unfolding cheaper
not_cheaper_rank a b l m e = grind (arith, nat_tests)

-- Of every cost: fewer steps than places cost less, and no step is long.
abbrev pub Bounded : List (Option Cost) → Type 0
Bounded costs = (i : ℕ) (c : Cost) → i < length costs → cost_of costs i ≡ Some c → (c.steps ≤ below (rank c) (ranks costs)) × (c.length ≤ c.steps * 1048576)

pub steps_few : (costs : List (Option Cost)) → Bounded costs → (i : ℕ) (c : Cost) → i < length costs → cost_of costs i ≡ Some c → c.steps < length costs
steps_few costs b i c l e =
    let is : cost_at (ranks costs) i ≡ rank c = rank_at costs i ∙ ap rank_of e in
    let many = length-map costs rank_of in
    omega (arith, (b i c l e).0, subst (λ z. below z (ranks costs) < length (ranks costs)) is (below_few i (ranks costs) (omega (arith, many))))

abbrev pub some_or : Cost → Option Cost → Cost
some_or x None = x
some_or x (Some y) = y

-- so a cost of a place is not long
pub cost_short : (costs : List (Option Cost)) → Bounded costs → length costs ≤ 1024 → (i : ℕ) (c : Cost) → i < length costs → cost_of costs i ≡ Some c → (c.length ≤ 1073741824) × (c.steps ≤ 1024)
cost_short costs b few i c l e = (omega (arith, (b i c l e).1, steps_few costs b i c l e), omega (arith, steps_few costs b i c l e))

-- What offers leave, whatever the edges are: costs only fall, and where one did their sum fell.
pub record Fallen (costs costs' : List (Option Cost)) (waiting waiting' : List (Option Waiting)) : Type 0 where
  pub long : length costs' ≡ length costs
  pub twice : length waiting' ≡ length waiting
  pub bounded : Bounded costs'
  pub falls : (i : ℕ) → cost_at (ranks costs') i ≤ cost_at (ranks costs) i
  pub less : ((costs' ≡ costs) × (waiting' ≡ waiting)) ⊎ (sum (ranks costs') < sum (ranks costs))

-- j waits
abbrev pub Waits : List (Option Waiting) → ℕ → Type 0
Waits waiting j = (w : Waiting) × (waits waiting j ≡ Some w)

-- no neighbour of j can be lowered by way of it
abbrev pub Served : List Edge → List ℕ → ℕ → Type 0
Served edges cs j = (i d : ℕ) → Linked edges j i d → cost_at cs j < none → cost_at cs i ≤ cost_at cs j + step_cost d

-- that is so of each place but one that does not wait
abbrev pub CalmBut : List Edge → ℕ → List (Option Cost) → List (Option Waiting) → Type 0
CalmBut edges at costs waiting = (j : ℕ) → j < length costs → (j ≡ at → ⊥) → Waits waiting j ⊎ Served edges (ranks costs) j

linked_back : (edges : List Edge) (i j d : ℕ) → Linked edges i j d → Linked edges j i d
linked_back edges i j d (inl a) = inr a
linked_back edges i j d (inr a) = inl a

-- what was offered at p by way of `at`, whose cost is b, d apart
module _ (costs : List (Option Cost)) (at p d : ℕ) (b : Cost) (bounded : Bounded costs) (few : length costs ≤ 1024) (in_at : at < length costs) (in_p : p < length costs) (known : cost_of costs at ≡ Some b) (short : d ≤ 1048576) where
  abbrev c : Cost
  c = onward b d

  few_b : b.steps < length costs
  few_b = steps_few costs bounded at b in_at known

  pub long_b : b.length ≤ 1073741824
  long_b = omega (arith, (bounded at b in_at known).1, few_b)

  at_is : cost_at (ranks costs) at ≡ rank b
  at_is = rank_at costs at ∙ ap rank_of known

  -- what is lowered was higher
  higher : lowers c (cost_of costs p) ≡ true → rank c < cost_at (ranks costs) p
  higher e = go (cost_of costs p) refl e
    where
      go : (x : Option Cost) → cost_of costs p ≡ x → lowers c x ≡ true → rank c < cost_at (ranks costs) p
      go None s f = let is : cost_at (ranks costs) p ≡ none = rank_at costs p ∙ ap rank_of s in omega (arith, long_b, few_b)
      go (Some k) s f = let is : cost_at (ranks costs) p ≡ rank k = rank_at costs p ∙ ap rank_of s in omega (arith, cheaper_rank c k (omega (arith, few_b)) (omega (arith, steps_few costs bounded p k in_p s)) f)

  not_higher : lowers c (cost_of costs p) ≡ false → cost_at (ranks costs) p ≤ rank c
  not_higher e = go (cost_of costs p) refl e
    where
      go : (x : Option Cost) → cost_of costs p ≡ x → lowers c x ≡ false → cost_at (ranks costs) p ≤ rank c
      go None s f = absurd (both_ways true f refl)
      go (Some k) s f = let is : cost_at (ranks costs) p ≡ rank k = rank_at costs p ∙ ap rank_of s in omega (arith, not_cheaper_rank c k (omega (arith, few_b)) (omega (arith, steps_few costs bounded p k in_p s)) f)

  new_ranks : ranks (set costs p (Some c)) ≡ set (ranks costs) p (rank c)
  new_ranks = map-set rank_of costs p (Some c)

  in_ranks : p < length (ranks costs)
  in_ranks = omega (arith, length-map costs rank_of)

  new_here : cost_at (ranks (set costs p (Some c))) p ≡ rank c
  new_here = ap (λ z. cost_at z p) new_ranks ∙ get_or-set_same (ranks costs) p (rank c) none in_ranks

  new_other : (i : ℕ) → (i ≡ p → ⊥) → cost_at (ranks (set costs p (Some c))) i ≡ cost_at (ranks costs) i
  new_other i n = ap (λ z. cost_at z i) new_ranks ∙ get_or-set_other (ranks costs) p i (rank c) none n

  -- costs only fall
  falls_at : lowers c (cost_of costs p) ≡ true → (i : ℕ) → cost_at (ranks (set costs p (Some c))) i ≤ cost_at (ranks costs) i
  falls_at e i = go (cases_eq i p)
    where
      go : (i ≡ p) ⊎ (i ≡ p → ⊥) → cost_at (ranks (set costs p (Some c))) i ≤ cost_at (ranks costs) i
      go (inl q) = omega (arith, ap (cost_at (ranks (set costs p (Some c)))) q, new_here, higher e, ap (cost_at (ranks costs)) q)
      go (inr n) = omega (arith, new_other i n)

  apart : lowers c (cost_of costs p) ≡ true → at ≡ p → ⊥
  apart e q = omega (arith, higher e, at_is, ap (cost_at (ranks costs)) q)

  fewer_below : lowers c (cost_of costs p) ≡ true → (x : ℕ) → below x (ranks costs) ≤ below x (ranks (set costs p (Some c)))
  fewer_below e x = subst (λ z. below x (ranks costs) ≤ below x z) (sym new_ranks) (below_set x (ranks costs) p (rank c) in_ranks (omega (arith, higher e)))

  bounded_new : lowers c (cost_of costs p) ≡ true → Bounded (set costs p (Some c))
  bounded_new e i k l s = go (cases_eq i p)
    where
      long : length (set costs p (Some c)) ≡ length costs
      long = length-set costs p (Some c)

      up : below (rank b) (ranks costs) < below (rank c) (ranks costs)
      up = subst (λ z. below z (ranks costs) < below (rank c) (ranks costs)) at_is (below_one (rank c) at (ranks costs) (omega (arith, length-map costs rank_of)) (omega (arith, at_is)))

      go : (i ≡ p) ⊎ (i ≡ p → ⊥) → (k.steps ≤ below (rank k) (ranks (set costs p (Some c)))) × (k.length ≤ k.steps * 1048576)
      go (inl q) =
          let is : Some k ≡ Some c = sym s ∙ (ap (cost_of (set costs p (Some c))) q ∙ get_or-set_same costs p (Some c) None in_p) in
          let same : c ≡ k = sym (ap (some_or c) is) in
          subst (λ z. (z.steps ≤ below (rank z) (ranks (set costs p (Some c)))) × (z.length ≤ z.steps * 1048576)) same
          (omega (arith, (bounded at b in_at known).0, up, fewer_below e (rank c)), omega (arith, (bounded at b in_at known).1))
      go (inr n) =
          let old = bounded i k (omega (arith, l, long)) (sym (get_or-set_other costs p i (Some c) None n) ∙ s) in
          (omega (arith, old.0, fewer_below e (rank k)), old.1)

  offered_fallen : (costs' : List (Option Cost)) (waiting waiting' : List (Option Waiting)) → Offered p c costs waiting costs' waiting' → Fallen costs costs' waiting waiting'
  offered_fallen costs' waiting waiting' (kept e) = record { long = refl; twice = refl; bounded = bounded; falls = λ i. omega arith; less = inl (refl, refl) }
  offered_fallen costs' waiting waiting' (lowered after e t) = record {
    long = length-set costs p (Some c);
    twice = t.only.long;
    bounded = bounded_new e;
    falls = falls_at e;
    less = inr (omega (arith, ap sum new_ranks, sum_by-set (λ x. x) (ranks costs) p (rank c) none in_ranks, higher e));
  }

  offered_still : (costs' : List (Option Cost)) (waiting waiting' : List (Option Waiting)) → Offered p c costs waiting costs' waiting' → cost_of costs' at ≡ Some b
  offered_still costs' waiting waiting' (kept e) = known
  offered_still costs' waiting waiting' (lowered after e t) = get_or-set_other costs p at (Some c) None (apart e) ∙ known

  offered_served : (costs' : List (Option Cost)) (waiting waiting' : List (Option Waiting)) → Offered p c costs waiting costs' waiting' → cost_at (ranks costs') p ≤ rank c
  offered_served costs' waiting waiting' (kept e) = not_higher e
  offered_served costs' waiting waiting' (lowered after e t) = omega (arith, new_here)

  -- over edges that have this link
  module _ (edges : List Edge) (goal : ℕ) (link : Linked edges at p d) where
    offered_attained : (costs' : List (Option Cost)) (waiting waiting' : List (Option Waiting)) → Offered p c costs waiting costs' waiting' → Attained edges goal (ranks costs) → Attained edges goal (ranks costs')
    offered_attained costs' waiting waiting' (kept e) a = a
    offered_attained costs' waiting waiting' (lowered after e t) a = record {
      inside = omega (arith, a.inside, ap length new_ranks, length-set (ranks costs) p (rank c));
      start = new_other goal (λ q. omega (arith, higher e, ap (cost_at (ranks costs)) q, a.start)) ∙ a.start;
      attained = λ i m. each i m (cases_eq i p);
    }
      where
        each : (i : ℕ) → cost_at (ranks (set costs p (Some c))) i < none → (i ≡ p) ⊎ (i ≡ p → ⊥) → Way edges goal i (cost_at (ranks (set costs p (Some c))) i)
        each i m (inr n) = subst (Way edges goal i) (sym (new_other i n)) (a.attained i (omega (arith, new_other i n)))
        each i m (inl q) =
            let is : cost_at (ranks (set costs p (Some c))) i ≡ rank c = ap (cost_at (ranks (set costs p (Some c)))) q ∙ new_here in
            goes i (cost_at (ranks (set costs p (Some c))) i) at d (cost_at (ranks costs) at) (subst (λ z. Linked edges z at d) (sym q) (linked_back edges at p d link)) (a.attained at (omega (arith, at_is, long_b, few_b))) (omega (arith, is, at_is))

    offered_calm : (costs' : List (Option Cost)) (waiting waiting' : List (Option Waiting)) → Offered p c costs waiting costs' waiting' → length waiting ≡ 2 * length costs → CalmBut edges at costs waiting → CalmBut edges at costs' waiting'
    offered_calm costs' waiting waiting' (kept e) twice calm j l n = calm j l n
    offered_calm costs' waiting waiting' (lowered after e t) twice calm j l n = go (cases_eq j p)
      where
        l' : j < length costs
        l' = omega (arith, l, length-set costs p (Some c))

        go : (j ≡ p) ⊎ (j ≡ p → ⊥) → Waits after j ⊎ Served edges (ranks (set costs p (Some c))) j
        go (inl q) = inl (record { cost = c; place = p }, ap (waits after) q ∙ t.waits)
        go (inr m) = pick (calm j l' n)
          where
            pick : Waits waiting j ⊎ Served edges (ranks costs) j → Waits after j ⊎ Served edges (ranks (set costs p (Some c))) j
            pick (inl w) = inl (w.0, t.only.others j (omega (arith, twice, l')) (λ z. m z) ∙ w.1)
            pick (inr s) = inr (λ i d' k h. omega (arith, new_other j m, falls_at e i, s i d' k (omega (arith, new_other j m, h))))

-- what handing on leaves
pub record Handed (at : ℕ) (b : Cost) (ns : List Neighbour) (costs costs' : List (Option Cost)) (waiting waiting' : List (Option Waiting)) : Type 0 where
  pub fallen : Fallen costs costs' waiting waiting'
  pub still : cost_of costs' at ≡ Some b
  pub served : (n : Neighbour) → Among n ns → cost_at (ranks costs') n.place ≤ rank b + step_cost n.length

less_on : (costs costs' costs'' : List (Option Cost)) (waiting waiting' waiting'' : List (Option Waiting)) → ((costs' ≡ costs) × (waiting' ≡ waiting)) ⊎ (sum (ranks costs') < sum (ranks costs)) → ((costs'' ≡ costs') × (waiting'' ≡ waiting')) ⊎ (sum (ranks costs'') < sum (ranks costs'))
    → ((costs'' ≡ costs) × (waiting'' ≡ waiting)) ⊎ (sum (ranks costs'') < sum (ranks costs))
less_on costs costs' costs'' waiting waiting' waiting'' (inl x) (inl y) = inl (y.0 ∙ x.0, y.1 ∙ x.1)
less_on costs costs' costs'' waiting waiting' waiting'' (inl x) (inr y) = inr (omega (arith, ap (λ z. sum (ranks z)) x.0))
less_on costs costs' costs'' waiting waiting' waiting'' (inr x) (inl y) = inr (omega (arith, ap (λ z. sum (ranks z)) y.0))
less_on costs costs' costs'' waiting waiting' waiting'' (inr x) (inr y) = inr (omega arith)

-- the neighbours are places, and near
abbrev pub NearIn : ℕ → List Neighbour → Type 0
NearIn n ns = AllByRecursion (λ m. (m.place < n) × (m.length ≤ 1048576)) ns

pub handed : (at : ℕ) (b : Cost) (ns : List Neighbour) (costs costs'' : List (Option Cost)) (waiting waiting'' : List (Option Waiting)) → HandedOn b ns costs waiting costs'' waiting''
    → Bounded costs → length costs ≤ 1024 → at < length costs → cost_of costs at ≡ Some b → NearIn (length costs) ns → Handed at b ns costs costs'' waiting waiting''
handed at b ns costs costs'' waiting waiting'' (none_left x y) bounded few l known near = record {
  fallen = record { long = refl; twice = refl; bounded = bounded; falls = λ i. omega arith; less = inl (refl, refl) };
  still = known;
  served = λ n a. absurd a;
}
handed at b ns costs costs'' waiting waiting'' (one_more n ms x x' x'' y y' y'' o h) bounded few l known near =
    let f = offered_fallen x at n.place n.length b bounded few l near.0.0 known near.0.1 x' y y' o in
    let st = offered_still x at n.place n.length b bounded few l near.0.0 known near.0.1 x' y y' o in
    let sv = offered_served x at n.place n.length b bounded few l near.0.0 known near.0.1 x' y y' o in
    let r = handed at b ms x' x'' y' y'' h f.bounded (omega (arith, f.long)) (omega (arith, f.long)) st (subst (λ z. NearIn z ms) (sym f.long) near.1) in
    record {
      fallen = record {
        long = r.fallen.long ∙ f.long;
        twice = r.fallen.twice ∙ f.twice;
        bounded = r.fallen.bounded;
        falls = λ i. omega (arith, r.fallen.falls i, f.falls i);
        less = less_on x x' x'' y y' y'' f.less r.fallen.less;
      };
      still = r.still;
      served = λ m a. pick m a r.served (omega (arith, r.fallen.falls n.place, sv));
    }
  where
    pick : (m : Neighbour) → Among m (n ∷ ms) → ((k : Neighbour) → Among k ms → cost_at (ranks x'') k.place ≤ rank b + step_cost k.length) → cost_at (ranks x'') n.place ≤ rank b + step_cost n.length → cost_at (ranks x'') m.place ≤ rank b + step_cost m.length
    pick m (inl e) rest first = subst (λ k. cost_at (ranks x'') k.place ≤ rank b + step_cost k.length) (sym e) first
    pick m (inr a) rest first = rest m a

pub handed_keeps : (edges : List Edge) (goal at : ℕ) (b : Cost) (ns : List Neighbour) (costs costs'' : List (Option Cost)) (waiting waiting'' : List (Option Waiting)) → HandedOn b ns costs waiting costs'' waiting''
    → Bounded costs → length costs ≤ 1024 → at < length costs → cost_of costs at ≡ Some b → NearIn (length costs) ns → ((n : Neighbour) → Among n ns → Linked edges at n.place n.length) → length waiting ≡ 2 * length costs
    → Attained edges goal (ranks costs) → CalmBut edges at costs waiting → Attained edges goal (ranks costs'') × CalmBut edges at costs'' waiting''
handed_keeps edges goal at b ns costs costs'' waiting waiting'' (none_left x y) bounded few l known near links twice a calm = (a, calm)
handed_keeps edges goal at b ns costs costs'' waiting waiting'' (one_more n ms x x' x'' y y' y'' o h) bounded few l known near links twice a calm =
    let f = offered_fallen x at n.place n.length b bounded few l near.0.0 known near.0.1 x' y y' o in
    let st = offered_still x at n.place n.length b bounded few l near.0.0 known near.0.1 x' y y' o in
    let a' = offered_attained x at n.place n.length b bounded few l near.0.0 known near.0.1 edges goal (links n (inl refl)) x' y y' o a in
    let calm' = offered_calm x at n.place n.length b bounded few l near.0.0 known near.0.1 edges goal (links n (inl refl)) x' y y' o twice calm in
    handed_keeps edges goal at b ms x' x'' y' y'' h f.bounded (omega (arith, f.long)) (omega (arith, f.long)) st (subst (λ z. NearIn z ms) (sym f.long) near.1) (λ m k. links m (inr k)) (omega (arith, f.long, f.twice)) a' calm'
