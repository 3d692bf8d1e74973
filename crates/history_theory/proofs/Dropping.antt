-- A history that goes on with a call that brings no sample. Assumes nothing.
use Rattle.std.proofs.Common.{◌≡◌, ℕ, ◌≤◌, Bool, true, false, cond, eqb, ◌⊎◌, List, [], ◌∷◌, ◌++◌, Some, None, Option, sym, refl, ap, ◌∙◌, subst, inl, inr, arith}
use Rattle.std.proofs.lemmas.Bool.{eq-eqb, ne_eqb, eqb-false, cases_eq, or_parts, or_from}
use Rattle.hits.specs.Samples.{Sample, Among}
use Rattle.chains.specs.declared.Edge.{Edge}
use Rattle.chains.specs.Edges.{edge}
use Rattle.index.specs.Meaning.{Meaning, Lawful, dropped, without, element_at}
use Rattle.index.specs.Calls.{drop_leaves_at}
use Rattle.index.proofs.Standing.{rising_without, without_fewer}
use Rattle.links.specs.Records.{touches, edges_without}
use Rattle.roadmap.specs.Roads.{Road, Stands}
use Rattle.roadmap.specs.Calls.{shrunk_edges, shrink_leaves}
use Rattle.history_theory.specs.History.{Asked, asks_add, asks_drop, History, samples, then_asks, Brought}
use Rattle.history_theory.proofs.Owes.{Even}
use Rattle.history_theory.proofs.Reaching.{Reached, reached_less}

-- a call that is no add brings nothing
pub not_brought : {E : Type 0} (h : History E) (q : Asked E) → ((e : E) (p : E → E → Bool) → q ≡ asks_add e p → ⊥) → (n : ℕ) (e : E) (p : E → E → Bool) (b : History E) → Brought (then_asks h q) n e p b → Brought h n e p b
not_brought {E} h q never n e p b x = go x.later x.calls
  where
    go : (later : List (Asked E)) → q ∷ h.calls ≡ later ++ (asks_add e p ∷ b.calls) → Brought h n e p b
    go [] i = absurd (never e p (cc))
    go (c ∷ later) i = record { later = later; calls = cc; capacity = x.capacity; k = x.k; number = x.number }

-- a call that changes nothing
pub reached_quiet : {E : Type 0} (dist : E → E → ℕ) (h : History E) (q : Asked E) → ((n : ℕ) (e : E) (p : E → E → Bool) (b : History E) → Brought (then_asks h q) n e p b → Brought h n e p b) → samples (then_asks h q) ≡ samples h → Even (q ∷ h.calls) → (road after : Road E) → after ≡ road → Reached dist h road → Reached dist (then_asks h q) after
reached_quiet {E} dist h q other same ev road after is r =
    let P : Road E → Type 0 = λ z. Reached dist (then_asks h q) z in
    let L : Meaning E → Type 0 = λ z. Lawful z in
    let up : (n : ℕ) → Stands (samples h) n → Stands (samples (then_asks h q)) n = (λ n s. (s.0, ap (λ z. element_at n z.standing) same ∙ s.1)) in
    subst P (sym is) (reached_less dist h q (λ n e i. ap (λ z. element_at n z.standing) (sym same) ∙ i) other road road r (r.index ∙ sym same) refl (subst L (sym same) r.law) ev
    (λ x y d a. let s = (r.kept x y d a).0 in (a, up x (s.neighbour, s.elder_stands), up y (s.element, s.younger_stands)))
    (λ x y d a sx sy. a))

module _ {E : Type 0} where
  none_left : (n : ℕ) (st : List (Sample E)) → element_at n (without n st) ≡ None
  none_left n [] = refl
  none_left n (s ∷ st) = go (none_left n st) (eqb s.number n) refl
    where
      go : element_at n (without n st) ≡ None → (b : Bool) → eqb s.number n ≡ b → element_at n (cond (eqb s.number n) (without n st) (s ∷ without n st)) ≡ None
      go ih true i = rw i ih
      go ih false i = rw i (rw i ih)

  others_left : (m n : ℕ) (st : List (Sample E)) → (n ≡ m → ⊥) → element_at n (without m st) ≡ element_at n st
  others_left m n [] d = refl
  others_left m n (s ∷ st) d = go (cases_eq s.number m) (others_left m n st d)
    where
      go : (s.number ≡ m) ⊎ (s.number ≡ m → ⊥) → element_at n (without m st) ≡ element_at n st → element_at n (cond (eqb s.number m) (without m st) (s ∷ without m st)) ≡ element_at n (s ∷ st)
      go (inl e) ih = ap (λ b. element_at n (cond b (without m st) (s ∷ without m st))) (eq-eqb s.number m e) ∙ (ih ∙ sym (ap (λ b. cond b (Some s.element) (element_at n st)) (ne_eqb s.number n (λ f. d (sym f ∙ e)))))
      go (inr e) ih = ap (λ b. element_at n (cond b (without m st) (s ∷ without m st))) (ne_eqb s.number m e) ∙ ap (λ z. cond (eqb s.number n) (Some s.element) z) ih

  some_none : (n : ℕ) (o : Option E) (e : E) → o ≡ Some e → o ≡ None → ⊥
  some_none n o e p q = let z : ◌≡◌ {A = ℕ} 0 1 = cc in omega arith

edge_left : (n : ℕ) (es : List Edge) (e : Edge) → Among e (edges_without n es) → Among e es × (touches n e ≡ false)
edge_left n [] e a = absurd a
edge_left n (x ∷ es) e a = go (touches n x) refl a (λ b. edge_left n es e b)
  where
    go : (t : Bool) → touches n x ≡ t → Among e (cond t (edges_without n es) (x ∷ edges_without n es)) → (Among e (edges_without n es) → Among e es × (touches n e ≡ false)) → Among e (x ∷ es) × (touches n e ≡ false)
    go true i b ih = let p = ih b in (inr p.0, p.1)
    go false i (inl b) ih = (inl b, ap (touches n) b ∙ i)
    go false i (inr b) ih = let p = ih b in (inr p.0, p.1)

edge_stays : (n : ℕ) (es : List Edge) (e : Edge) → Among e es → touches n e ≡ false → Among e (edges_without n es)
edge_stays n [] e a f = absurd a
edge_stays n (x ∷ es) e (inl b) f =
    let P : Bool → Type 0 = λ t. Among e (cond t (edges_without n es) (x ∷ edges_without n es)) in
    subst P (sym (ap (touches n) (sym b) ∙ f)) (inl b)
edge_stays n (x ∷ es) e (inr b) f = go (touches n x) (edge_stays n es e b f)
  where
    go : (t : Bool) → Among e (edges_without n es) → Among e (cond t (edges_without n es) (x ∷ edges_without n es))
    go true c = c
    go false c = inr c

-- a sample is dropped
pub reached_drop : {E : Type 0} (dist : E → E → ℕ) (h : History E) (n : ℕ) → Even h.calls → (road after : Road E) → after ≡ shrink_leaves road n → Reached dist h road → Reached dist (then_asks h (asks_drop n)) after
reached_drop {E} dist h n ev road after is r = go (element_at n (samples h).standing) refl
  where
    other : (x : ℕ) (e : E) (p : E → E → Bool) (b : History E) → Brought (then_asks h (asks_drop n)) x e p b → Brought h x e p b
    other = not_brought h (asks_drop n) (λ e p i. let z : ◌≡◌ {A = ℕ} 0 1 = cc in omega arith)

    el : element_at n road.index.standing ≡ element_at n (samples h).standing
    el = ap (λ z. element_at n z.standing) r.index

    go : (o : Option E) → element_at n (samples h).standing ≡ o → Reached dist (then_asks h (asks_drop n)) after
    go None e = reached_quiet dist h (asks_drop n) other (ap (drop_leaves_at (samples h) n) e) ev road after (is ∙ (λ i. record { index = drop_leaves_at road.index n ((el ∙ e) i); k = road.k; edges = shrunk_edges n road.edges ((el ∙ e) i) })) r
    go (Some f) e =
        let left : samples (then_asks h (asks_drop n)) ≡ dropped (samples h) n = ap (drop_leaves_at (samples h) n) e in
        let same : after ≡ record { index = dropped road.index n; k = road.k; edges = edges_without n road.edges } = is ∙ (λ i. record { index = drop_leaves_at road.index n ((el ∙ e) i); k = road.k; edges = shrunk_edges n road.edges ((el ∙ e) i) }) in
        let P : Road E → Type 0 = λ z. Reached dist (then_asks h (asks_drop n)) z in
        let L : Meaning E → Type 0 = λ z. Lawful z in
        subst P (sym same) (reached_less dist h (asks_drop n) (shrinks left) other road (record { index = dropped road.index n; k = road.k; edges = edges_without n road.edges }) r
        (ap (λ z. dropped z n) r.index ∙ sym left) refl (subst L (sym left) lawful) ev (there left) (here left))
      where
        gone : samples (then_asks h (asks_drop n)) ≡ dropped (samples h) n → (x : ℕ) → Stands (samples (then_asks h (asks_drop n))) x → x ≡ n → ⊥
        gone left x s i = some_none x (element_at x (dropped (samples h) n).standing) s.0 (ap (λ z. element_at x z.standing) (sym left) ∙ s.1) (ap (λ z. element_at z (without n (samples h).standing)) i ∙ none_left n (samples h).standing)

        shrinks : samples (then_asks h (asks_drop n)) ≡ dropped (samples h) n → (x : ℕ) (g : E) → element_at x (samples (then_asks h (asks_drop n))).standing ≡ Some g → element_at x (samples h).standing ≡ Some g
        shrinks left x g i = sym (others_left n x (samples h).standing (gone left x (g, i))) ∙ (ap (λ z. element_at x z.standing) (sym left) ∙ i)

        lawful : Lawful (dropped (samples h) n)
        lawful = record { capacity_bound = r.law.capacity_bound; last_bound = r.law.last_bound; rising = rising_without n 0 (samples h).last (samples h).standing r.law.rising; room = omega (arith, without_fewer n (samples h).standing, r.law.room) }

        back : samples (then_asks h (asks_drop n)) ≡ dropped (samples h) n → (x : ℕ) → (x ≡ n → ⊥) → Stands (samples h) x → Stands (samples (then_asks h (asks_drop n))) x
        back left x d s = (s.0, ap (λ z. element_at x z.standing) left ∙ (others_left n x (samples h).standing d ∙ s.1))

        there : samples (then_asks h (asks_drop n)) ≡ dropped (samples h) n → (x y d : ℕ) → Among (edge x y d) (edges_without n road.edges) → Among (edge x y d) road.edges × Stands (samples (then_asks h (asks_drop n))) x × Stands (samples (then_asks h (asks_drop n))) y
        there left x y d a =
            let p = edge_left n road.edges (edge x y d) a in
            let t = or_parts (eqb x n) (eqb y n) p.1 in
            let s = (r.kept x y d p.0).0 in
            (p.0, back left x (eqb-false x n t.0) (s.neighbour, s.elder_stands), back left y (eqb-false y n t.1) (s.element, s.younger_stands))

        here : samples (then_asks h (asks_drop n)) ≡ dropped (samples h) n → (x y d : ℕ) → Among (edge x y d) road.edges → Stands (samples (then_asks h (asks_drop n))) x → Stands (samples (then_asks h (asks_drop n))) y → Among (edge x y d) (edges_without n road.edges)
        here left x y d a sx sy = edge_stays n road.edges (edge x y d) a (or_from (eqb x n) (eqb y n) (ne_eqb x n (gone left x sx)) (ne_eqb y n (gone left y sy)))
