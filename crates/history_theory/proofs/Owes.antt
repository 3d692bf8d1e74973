-- What is owed of islands and routes, from what a history gives. Assumes nothing.
use Rattle.std.proofs.Common.{◌≡◌, ℕ, ◌≤◌, Bool, ◌⊎◌, List, [], ◌∷◌, ◌++◌, length, Some, None, Option, refl, ◌∙◌, subst, inl, inr, arith}
use Rattle.metric.specs.Laws.{MetricLaws}
use Rattle.hits.specs.Lists.{over}
use Rattle.chains.specs.Chains.{Preferred, Chain, Joined, Island, Route}
use Rattle.chains.proofs.Joining.{shared, joined_on, joined_back}
use Rattle.index.specs.Meaning.{element_at}
use Rattle.index.specs.Outcomes.{Outcome}
use Rattle.graph.specs.Routes.{Routed, apart, too_short, written}
use Rattle.roadmap.specs.Roads.{Stands}
use Rattle.history_theory.specs.History.{Asked, asks_add, asks_drop, asks_element, asks_tally, asks_near, asks_within, asks_island, asks_route, Reply, leads, refused, reply_of, Lists, number_list, History, samples, Brought, Admits, Pair, IslandGiven, RouteGiven, no_start, no_goal, between, Gives}
use Rattle.history_theory.specs.Owed.{StepPasses, StepsPass, IslandOwed, RouteOwed, Owed}

-- every checker of these calls passes a pair exactly if it passes its reverse
abbrev pub Even : {E : Type 0} → List (Asked E) → Type 0
Even [] = Unit {0}
Even (asks_add e p ∷ cs) = ((x y : _) → p x y ≡ p y x) × Even cs
Even (asks_drop n ∷ cs) = Even cs
Even (asks_element n ∷ cs) = Even cs
Even (asks_tally ∷ cs) = Even cs
Even (asks_near q k l ∷ cs) = Even cs
Even (asks_within q r l ∷ cs) = Even cs
Even (asks_island n ∷ cs) = Even cs
Even (asks_route a b l ∷ cs) = Even cs

even_rest : {E : Type 0} (c : Asked E) (cs : List (Asked E)) → Even (c ∷ cs) → Even cs
even_rest (asks_add e p) cs v = v.1
even_rest (asks_drop n) cs v = v
even_rest (asks_element n) cs v = v
even_rest asks_tally cs v = v
even_rest (asks_near q k l) cs v = v
even_rest (asks_within q r l) cs v = v
even_rest (asks_island n) cs v = v
even_rest (asks_route a b l) cs v = v

even_at : {E : Type 0} (later : List (Asked E)) (e : E) (p : E → E → Bool) (before : List (Asked E)) → Even (later ++ (asks_add e p ∷ before)) → (x y : E) → p x y ≡ p y x
even_at [] e p before v = v.0
even_at (c ∷ later) e p before v = even_at later e p before (even_rest c (later ++ (asks_add e p ∷ before)) v)

module _ {E : Type 0} (dist : E → E → ℕ) (top : ℕ) (laws : MetricLaws top dist) (h : History E) where
  pub pair_ends : (x y d : ℕ) → Pair dist h x y d → Stands (samples h) x × Stands (samples h) y
  pair_ends x y d p = go p.0
    where
      go : Admits dist h x y ⊎ Admits dist h y x → Stands (samples h) x × Stands (samples h) y
      go (inl a) = ((a.neighbour, a.elder_stands), (a.element, a.younger_stands))
      go (inr a) = ((a.element, a.younger_stands), (a.neighbour, a.elder_stands))

  pub apart_turned : (o p : Option E) → Rattle.history_theory.specs.History.apart dist o p ≡ Rattle.history_theory.specs.History.apart dist p o
  apart_turned None None = refl
  apart_turned None (Some f) = refl
  apart_turned (Some e) None = refl
  apart_turned (Some e) (Some f) = laws.symmetric e f

  pair_turns : (x y d : ℕ) → Pair dist h x y d → Pair dist h y x d
  pair_turns x y d p = (go p.0, p.1 ∙ apart_turned (element_at x (samples h).standing) (element_at y (samples h).standing))
    where
      go : Admits dist h x y ⊎ Admits dist h y x → Admits dist h y x ⊎ Admits dist h x y
      go (inl a) = inr a
      go (inr a) = inl a

  step_passes : Even h.calls → (x y d : ℕ) → Pair dist h x y d → StepPasses dist h x y
  step_passes v x y d p = go p.0
    where
      even : (n : ℕ) (e : E) (q : E → E → Bool) (b : History E) → Brought h n e q b → (s t : E) → q s t ≡ q t s
      even n e q b w = (let P : List (Asked E) → Type 0 = λ z. Even z in even_at w.later e q b.calls (subst P w.calls v))

      go : Admits dist h x y ⊎ Admits dist h y x → StepPasses dist h x y
      go (inl a) = inl (a.older, record { from = (a.neighbour, a.elder_stands); to = (a.element, a.younger_stands); element = a.element; passes = a.passes; before = a.before; brought = a.brought; passed = a.passed })
      go (inr a) = inr (a.older, record { from = (a.element, a.younger_stands); to = (a.neighbour, a.elder_stands); element = a.element; passes = a.passes; before = a.before; brought = a.brought; passed = even x a.element a.passes a.before a.brought a.element a.neighbour ∙ a.passed })

  steps_pass : Even h.calls → (ns : List ℕ) (l : ℕ) → Chain (Stands (samples h)) (Pair dist h) ns l → StepsPass dist h ns
  steps_pass v [] l c = tt
  steps_pass v (n ∷ []) l c = tt
  steps_pass v (n ∷ (m ∷ rest)) l c = (step_passes v n m c.0 c.2, steps_pass v (m ∷ rest) c.1 c.3)

  preferred_short : (l t : ℕ) (ns os : List ℕ) → Preferred l ns t os → l ≤ t
  preferred_short l t ns os (inl x) = omega arith
  preferred_short l t ns os (inr x) = omega (arith, x.0)

  island_owed : (n : ℕ) (a : Reply E) → Stands (samples h) n → IslandGiven dist h n a (element_at n (samples h).standing) → IslandOwed dist h n a
  island_owed n a st g =
      let P : Option E → Type 0 = λ z. IslandGiven dist h n a z in
      let x = subst P st.1 g in
      record { number = x.0; answers = x.1; smallest = x.2; shared = λ other its i. shared (Stands (samples h)) (Pair dist h) pair_ends pair_turns n x.0 other its x.2 i }

  owed_chain : Even h.calls → (x y : ℕ) (list : List ℕ) (a : Reply E) (l : Lists) (ns : List ℕ) (t : ℕ) → Route (Stands (samples h)) (Pair dist h) x y ns t → (length ns ≤ length list → (a ≡ leads t (length ns)) × (l ≡ number_list (over ns list))) → RouteOwed dist h x y list a l
  owed_chain v x y list a l ns t r g = record { chain = ns; long = t; chosen = r; shortest = λ os u j. preferred_short t u ns os (r.best os u j); passing = steps_pass v ns t r.joins.chain; given = g }

  route_owed : Even h.calls → (x y : ℕ) (list : List ℕ) (a : Reply E) (l : Lists) (after : List ℕ) → RouteGiven dist h x y list a after → l ≡ number_list after → (m : ℕ) → Island (Stands (samples h)) (Pair dist h) x m → Island (Stands (samples h)) (Pair dist h) y m → RouteOwed dist h x y list a l
  route_owed v x y list a l after (no_start e) i m ix iy = absurd (none x ix.joined e)
    where
      none : (n : ℕ) → Joined (Stands (samples h)) (Pair dist h) n m → element_at n (samples h).standing ≡ None → ⊥
      none n j f = let s = Rattle.chains.proofs.Joining.joins_start (Stands (samples h)) (Pair dist h) pair_ends n m j.numbers j.long j.joins in let w = s.1 in let z : ◌≡◌ {A = ℕ} 0 1 = cc in omega arith
  route_owed v x y list a l after (no_goal s e) i m ix iy = absurd (none y iy.joined e)
    where
      none : (n : ℕ) → Joined (Stands (samples h)) (Pair dist h) n m → element_at n (samples h).standing ≡ None → ⊥
      none n j f = let s = Rattle.chains.proofs.Joining.joins_start (Stands (samples h)) (Pair dist h) pair_ends n m j.numbers j.long j.joins in let w = s.1 in let z : ◌≡◌ {A = ℕ} 0 1 = cc in omega arith
  route_owed v x y list a l after (between s t o w r) i m ix iy = go o w r i
    where
      go : (o : Outcome (ℕ × ℕ)) (w : List ℕ) → Routed (Stands (samples h)) (Pair dist h) x y list o w → l ≡ number_list w → RouteOwed dist h x y list (reply_of (λ z. leads z.0 z.1) o) l
      go o w (apart f) i = absurd (f (joined_on (Stands (samples h)) (Pair dist h) pair_ends pair_turns x m y ix.joined (joined_back (Stands (samples h)) (Pair dist h) pair_ends pair_turns y m iy.joined)))
      go o w (too_short ns u q f) i = owed_chain v x y list (refused 7 (length ns ∷ [])) l ns u q (λ k. absurd (omega arith))
      go o w (written ns u q f) i = owed_chain v x y list (leads u (length ns)) l ns u q (λ k. (refl, i))

  pub owed : Even h.calls → (q : Asked E) (a : Reply E) (l : Lists) → Gives dist h q a l → Owed dist h q a l
  owed v (asks_add e p) a l g = tt
  owed v (asks_drop n) a l g = tt
  owed v (asks_element n) a l g = tt
  owed v asks_tally a l g = tt
  owed v (asks_near q k list) a l g = tt
  owed v (asks_within q r list) a l g = tt
  owed v (asks_island n) a l g = λ st. island_owed n a st g.0
  owed v (asks_route x y list) a l g = λ m ix iy. route_owed v x y list a l g.0 g.1 g.2 m ix iy
