-- What a roadmap tells is what the history gives that reached it. Assumes nothing.
use Rattle.std.proofs.Common.{◌≡◌, ℕ, List, [], Some, None, Option, sym, ap, ◌∙◌, subst}
use Rattle.metric.specs.Laws.{MetricLaws}
use Rattle.chains.specs.Edges.{Linked}
use Rattle.chains.proofs.Moving.{island_same, route_same, joined_same}
use Rattle.index.specs.Meaning.{Meaning, element_at}
use Rattle.index.specs.Outcomes.{Outcome}
use Rattle.index.specs.Calls.{drop_outcome, element_outcome, tally_of, near_outcome, near_list, within_count, within_list}
use Rattle.graph.specs.Routes.{Routed, apart, too_short, written}
use Rattle.roadmap.specs.Roads.{Road, Stands}
use Rattle.roadmap.specs.Calls.{grow_outcome, IslandToldAt, RouteTold}
use Rattle.roadmap.specs.Calls as told
use Rattle.history_theory.specs.History.{Asked, asks_add, asks_drop, asks_element, asks_tally, asks_near, asks_within, asks_island, asks_route, Reply, grew, shrank, shows, tallies, nears, withins, names, leads, reply_of, Lists, hit_list, History, samples, Pair, IslandGiven, RouteGiven, no_start, no_goal, between, Gives}
use Rattle.history_theory.specs.Tells.{Tells}
use Rattle.history_theory.proofs.Reaching.{Reached, graph_same, graph_back}

module _ {E : Type 0} (dist : E → E → ℕ) (top : ℕ) (laws : MetricLaws top dist) (h : History E) (road : Road E) (r : Reached dist h road) where
  S : ℕ → Type 0
  S = Stands road.index

  island_given : (n : ℕ) (a : Reply E) (o : Outcome ℕ) → a ≡ reply_of names o → (z : Option E) → IslandToldAt road n o z → IslandGiven dist h n a z
  island_given n a o e None t = e ∙ ap (reply_of names) t
  island_given n a o e (Some f) t = (t.0, e ∙ ap (reply_of names) t.1, island_same (Stands road.index) (Linked road.edges) (Stands (samples h)) (Pair dist h) (graph_same dist top laws h road r) n t.0 t.2)

  routed_given : (x y : ℕ) (list : List ℕ) (o : Outcome (ℕ × ℕ)) (w : List ℕ) → Routed (Stands road.index) (Linked road.edges) x y list o w → Routed (Stands (samples h)) (Pair dist h) x y list o w
  routed_given x y list o w (apart f) = apart (λ j. f (joined_same (Stands (samples h)) (Pair dist h) (Stands road.index) (Linked road.edges) (graph_back dist top laws h road r) x y j))
  routed_given x y list o w (too_short ns l q s) = too_short ns l (route_same (Stands road.index) (Linked road.edges) (Stands (samples h)) (Pair dist h) (graph_same dist top laws h road r) x y ns l q) s
  routed_given x y list o w (written ns l q s) = written ns l (route_same (Stands road.index) (Linked road.edges) (Stands (samples h)) (Pair dist h) (graph_same dist top laws h road r) x y ns l q) s

  stands : (n : ℕ) → Stands road.index n → Stands (samples h) n
  stands n s = (let P : Meaning E → Type 0 = λ z. Stands z n in subst P r.index s)

  none : (n : ℕ) → element_at n road.index.standing ≡ None → element_at n (samples h).standing ≡ None
  none n e = ap (λ z. element_at n z.standing) (sym r.index) ∙ e

  route_given : (x y : ℕ) (list : List ℕ) (a : Reply E) (o : Outcome (ℕ × ℕ)) (w : List ℕ) → a ≡ reply_of (λ z. leads z.0 z.1) o → RouteTold road x y list o w → RouteGiven dist h x y list a w
  route_given x y list a o w e (told.no_start f) = (let P : Reply E → Type 0 = λ z. RouteGiven dist h x y list z list in subst P (sym e) (no_start (none x f)))
  route_given x y list a o w e (told.no_goal s f) = (let P : Reply E → Type 0 = λ z. RouteGiven dist h x y list z list in subst P (sym e) (no_goal (stands x s) (none y f)))
  route_given x y list a o w e (told.between p v s t q) = (let P : Reply E → Type 0 = λ z. RouteGiven dist h x y list z v in subst P (sym e) (between (stands x s) (stands y t) p v (routed_given x y list p v q)))

  pub gives_of : (q : Asked E) (a : Reply E) (l : Lists) (after : Road E) → Tells dist road q a l after → Gives dist h q a l
  gives_of (asks_add e p) a l after t = (t.0 ∙ (λ i. reply_of (λ x. grew x.0 x.1) (grow_outcome dist p (record { index = r.index i; k = r.k i; edges = [] }) e)), t.1)
  gives_of (asks_drop n) a l after t = (t.0 ∙ ap (λ z. reply_of (λ x. shrank) (drop_outcome z n)) r.index, t.1)
  gives_of (asks_element n) a l after t = (t.0 ∙ ap (λ z. reply_of shows (element_outcome z n)) r.index, t.1)
  gives_of asks_tally a l after t = (t.0 ∙ ap (λ z. tallies (tally_of z).0 (tally_of z).1 (tally_of z).2) r.index, t.1)
  gives_of (asks_near q k list) a l after t = (t.0 ∙ ap (λ z. reply_of nears (near_outcome z k list)) r.index, t.1 ∙ ap (λ z. hit_list (near_list dist z q k list)) r.index)
  gives_of (asks_within q n list) a l after t = (t.0 ∙ ap (λ z. withins (within_count dist z q n)) r.index, t.1 ∙ ap (λ z. hit_list (within_list dist z q n list)) r.index)
  gives_of (asks_island n) a l after t =
      let P : Option E → Type 0 = λ z. IslandGiven dist h n a z in
      (subst P (ap (λ z. element_at n z.standing) r.index) (island_given n a t.0.0 t.0.1 (element_at n road.index.standing) t.0.2), t.1)
  gives_of (asks_route x y list) a l after t = (t.0.1, route_given x y list a t.0.0 t.0.1 t.0.2 t.0.3, t.0.4)
