-- What a history gives is unique. Assumes nothing.
use Rattle.std.proofs.Common.{◌≡◌, ℕ, List, [], ◌∷◌, length, Some, None, Option, sym, refl, ap, ◌∙◌, arith}
use Rattle.hits.specs.Lists.{over}
use Rattle.chains.proofs.Joining.{island_one, route_one}
use Rattle.index.specs.Meaning.{element_at}
use Rattle.index.specs.Outcomes.{Outcome, gives, refuses}
use Rattle.graph.specs.Routes.{Routed, apart, too_short, written}
use Rattle.roadmap.specs.Roads.{Stands}
use Rattle.history_theory.specs.History.{Asked, asks_add, asks_drop, asks_element, asks_tally, asks_near, asks_within, asks_island, asks_route, Reply, names, leads, Lists, number_list, History, samples, Pair, reply_of, IslandGiven, RouteGiven, no_start, no_goal, between, Gives}

-- between two that stand
routed_one : (S : ℕ → Type 0) (T : ℕ → ℕ → ℕ → Type 0) (x y : ℕ) (list : List ℕ) (a b : Outcome (ℕ × ℕ)) (l k : List ℕ) → Routed S T x y list a l → Routed S T x y list b k → (a ≡ b) × (l ≡ k)
routed_one S T x y list a b l k (apart f) (apart g) = (refl, refl)
routed_one S T x y list a b l k (apart f) (too_short ns t r s) = absurd (f (record { numbers = ns; long = t; joins = r.joins }))
routed_one S T x y list a b l k (apart f) (written ns t r s) = absurd (f (record { numbers = ns; long = t; joins = r.joins }))
routed_one S T x y list a b l k (too_short ns t r s) (apart f) = absurd (f (record { numbers = ns; long = t; joins = r.joins }))
routed_one S T x y list a b l k (too_short ns t r s) (too_short os u q v) = (ap (λ z. refuses 7 (length z ∷ [])) (route_one S T x y ns os t u r q).0, refl)
routed_one S T x y list a b l k (too_short ns t r s) (written os u q v) = let z = ap length (route_one S T x y ns os t u r q).0 in absurd (omega arith)
routed_one S T x y list a b l k (written ns t r s) (apart f) = absurd (f (record { numbers = ns; long = t; joins = r.joins }))
routed_one S T x y list a b l k (written ns t r s) (too_short os u q v) = let z = ap length (route_one S T x y ns os t u r q).0 in absurd (omega arith)
routed_one S T x y list a b l k (written ns t r s) (written os u q v) = let o = route_one S T x y ns os t u r q in ((λ i. gives (o.1 i, length (o.0 i))), ap (λ z. over z list) o.0)

module _ {E : Type 0} (dist : E → E → ℕ) (h : History E) where
  absent : (n : ℕ) {X : Type 0} → Stands (samples h) n → element_at n (samples h).standing ≡ None → X
  absent n s e = let i = s.1 in let z : ◌≡◌ {A = ℕ} 0 1 = cc in absurd (omega arith)

  route_given_one : (x y : ℕ) (list : List ℕ) (a b : Reply E) (l k : List ℕ) → RouteGiven dist h x y list a l → RouteGiven dist h x y list b k → (a ≡ b) × (l ≡ k)
  route_given_one x y list a b l k (no_start e) (no_start f) = (refl, refl)
  route_given_one x y list a b l k (no_start e) (no_goal s f) = absent x s e
  route_given_one x y list a b l k (no_start e) (between s t o m r) = absent x s e
  route_given_one x y list a b l k (no_goal s f) (no_start e) = absent x s e
  route_given_one x y list a b l k (no_goal s f) (no_goal t e) = (refl, refl)
  route_given_one x y list a b l k (no_goal s f) (between u t o m r) = absent y t f
  route_given_one x y list a b l k (between s t o m r) (no_start e) = absent x s e
  route_given_one x y list a b l k (between s t o m r) (no_goal u e) = absent y t e
  route_given_one x y list a b l k (between s t o m r) (between u v p n q) =
      let z = routed_one (Stands (samples h)) (Pair dist h) x y list o p m n r q in (ap (reply_of (λ z. leads z.0 z.1)) z.0, z.1)

  island_given_one : (n : ℕ) (a b : Reply E) (o : Option E) → IslandGiven dist h n a o → IslandGiven dist h n b o → a ≡ b
  island_given_one n a b None x y = x ∙ sym y
  island_given_one n a b (Some e) x y = x.1 ∙ (ap names (island_one (Stands (samples h)) (Pair dist h) n x.0 y.0 x.2 y.2) ∙ sym y.1)

  pub gives_one : (q : Asked E) (a b : Reply E) (l k : Lists) → Gives dist h q a l → Gives dist h q b k → (a ≡ b) × (l ≡ k)
  gives_one (asks_add e p) a b l k x y = (x.0 ∙ sym y.0, x.1 ∙ sym y.1)
  gives_one (asks_drop n) a b l k x y = (x.0 ∙ sym y.0, x.1 ∙ sym y.1)
  gives_one (asks_element n) a b l k x y = (x.0 ∙ sym y.0, x.1 ∙ sym y.1)
  gives_one asks_tally a b l k x y = (x.0 ∙ sym y.0, x.1 ∙ sym y.1)
  gives_one (asks_near q n list) a b l k x y = (x.0 ∙ sym y.0, x.1 ∙ sym y.1)
  gives_one (asks_within q r list) a b l k x y = (x.0 ∙ sym y.0, x.1 ∙ sym y.1)
  gives_one (asks_island n) a b l k x y = (island_given_one n a b (element_at n (samples h).standing) x.0 y.0, x.1 ∙ sym y.1)
  gives_one (asks_route s t list) a b l k x y =
      let r = route_given_one s t list a b x.0 y.0 x.1 y.1 in (r.0, x.2 ∙ (ap number_list r.1 ∙ sym y.2))
