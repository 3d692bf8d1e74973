-- What a roadmap means after a history. Assumes nothing.
use Rattle.std.proofs.Common.{◌≡◌, ℕ, ◌≤◌, Bool, ◌⊎◌, [], ◌∷◌, Some, sym, refl, ap, ◌∙◌, subst, inl, inr, arith}
use Rattle.metric.specs.Laws.{MetricLaws}
use Rattle.hits.specs.Samples.{Among}
use Rattle.chains.specs.Edges.{edge, Linked}
use Rattle.chains.proofs.Moving.{Same}
use Rattle.index.specs.Meaning.{Meaning, Lawful, fresh, element_at}
use Rattle.roadmap.specs.Roads.{Road, Stands}
use Rattle.history_theory.specs.History.{Asked, History, samples, start, then_asks, Brought, Admits, Pair, distance_of}
use Rattle.history_theory.proofs.Owes.{Even}

-- a history has reached this roadmap
pub record Reached {E : Type 0} (dist : E → E → ℕ) (h : History E) (road : Road E) : Type 0 where
  pub index : road.index ≡ samples h
  pub k : road.k ≡ h.k
  pub law : Lawful (samples h)
  pub even : Even h.calls
  pub kept : (x y d : ℕ) → Among (edge x y d) road.edges → Admits dist h x y × (d ≡ distance_of dist h x y)
  pub held : (x y : ℕ) → Admits dist h x y → Among (edge x y (distance_of dist h x y)) road.edges

-- a fresh roadmap
pub reached_start : {E : Type 0} (dist : E → E → ℕ) (k size : ℕ) → size ≤ 1024 → Reached dist (start k size) (record { index = fresh size; k = k; edges = [] })
reached_start dist k size l = record {
  index = refl;
  k = refl;
  law = record { capacity_bound = l; last_bound = omega arith; rising = tt; room = omega arith };
  even = tt;
  kept = λ x y d a. absurd a;
  held = λ x y a. absurd (let e = a.elder_stands in let z : ◌≡◌ {A = ℕ} 0 1 = cc in omega arith);
}

-- a new roadmap over a fresh index
pub reached_new : {E : Type 0} (dist : E → E → ℕ) (k size : ℕ) → size ≤ 1024 → (road : Road E) (m : Meaning E) → road ≡ record { index = m; k = k; edges = [] } → m ≡ fresh size → Reached dist (start k size) road
reached_new {E} dist k size l road m e f =
    let P : Road E → Type 0 = λ z. Reached dist (start k size) z in
    subst P (sym (e ∙ ap (λ z. record { index = z; k = k; edges = [] }) f)) (reached_start dist k size l)

-- A call that brings no sample: what stands afterwards stood before, and the edges are those whose ends still stand.
module _ {E : Type 0} (dist : E → E → ℕ) (h : History E) (q : Asked E)
    (shrinks : (n : ℕ) (e : E) → element_at n (samples (then_asks h q)).standing ≡ Some e → element_at n (samples h).standing ≡ Some e)
    (other : (n : ℕ) (e : E) (p : E → E → Bool) (b : History E) → Brought (then_asks h q) n e p b → Brought h n e p b) where
  brought_on : (n : ℕ) (e : E) (p : E → E → Bool) (b : History E) → Brought h n e p b → Brought (then_asks h q) n e p b
  brought_on n e p b x = record { later = q ∷ x.later; calls = ap (λ z. q ∷ z) x.calls; capacity = x.capacity; k = x.k; number = x.number }

  still : (n : ℕ) (e : E) → Stands (samples (then_asks h q)) n → element_at n (samples h).standing ≡ Some e → element_at n (samples (then_asks h q)).standing ≡ Some e
  still n e s i = let a = s.1 in let b = shrinks n s.0 s.1 in cc

  admits_on : (x y : ℕ) → Stands (samples (then_asks h q)) x → Stands (samples (then_asks h q)) y → Admits dist h x y → Admits dist (then_asks h q) x y
  admits_on x y s t a = record { older = a.older; neighbour = a.neighbour; elder_stands = still x a.neighbour s a.elder_stands; element = a.element; younger_stands = still y a.element t a.younger_stands; passes = a.passes; before = a.before; brought = brought_on y a.element a.passes a.before a.brought; among = a.among; passed = a.passed }

  admits_off : (x y : ℕ) → Admits dist (then_asks h q) x y → Admits dist h x y
  admits_off x y a = record { older = a.older; neighbour = a.neighbour; elder_stands = shrinks x a.neighbour a.elder_stands; element = a.element; younger_stands = shrinks y a.element a.younger_stands; passes = a.passes; before = a.before; brought = other y a.element a.passes a.before a.brought; among = a.among; passed = a.passed }

  as_far : (x y : ℕ) → Stands (samples (then_asks h q)) x → Stands (samples (then_asks h q)) y → distance_of dist h x y ≡ distance_of dist (then_asks h q) x y
  as_far x y s t = (λ i. Rattle.history_theory.specs.History.apart dist ((shrinks x s.0 s.1 ∙ sym s.1) i) ((shrinks y t.0 t.1 ∙ sym t.1) i))

  pub reached_less : (road after : Road E) → Reached dist h road → after.index ≡ samples (then_asks h q) → after.k ≡ road.k → Lawful (samples (then_asks h q)) → Even (q ∷ h.calls)
      → ((x y d : ℕ) → Among (edge x y d) after.edges → Among (edge x y d) road.edges × Stands (samples (then_asks h q)) x × Stands (samples (then_asks h q)) y)
      → ((x y d : ℕ) → Among (edge x y d) road.edges → Stands (samples (then_asks h q)) x → Stands (samples (then_asks h q)) y → Among (edge x y d) after.edges)
      → Reached dist (then_asks h q) after
  reached_less road after r i k law ev there here = record {
    index = i;
    k = k ∙ r.k;
    law = law;
    even = ev;
    kept = λ x y d a. let t = there x y d a in let s = r.kept x y d t.0 in (admits_on x y t.1 t.2 s.0, s.1 ∙ as_far x y t.1 t.2);
    held = λ x y a.
        let sx : Stands (samples (then_asks h q)) x = (a.neighbour, a.elder_stands) in
        let sy : Stands (samples (then_asks h q)) y = (a.element, a.younger_stands) in
        let P : ℕ → Type 0 = λ z. Among (edge x y z) after.edges in
        subst P (as_far x y sx sy) (here x y (distance_of dist h x y) (r.held x y (admits_off x y a)) sx sy);
  }

-- the same graph, by edges and by admitted pairs
module _ {E : Type 0} (dist : E → E → ℕ) (top : ℕ) (laws : MetricLaws top dist) (h : History E) (road : Road E) (r : Reached dist h road) where
  turned : (x y : ℕ) → distance_of dist h x y ≡ distance_of dist h y x
  turned x y = Rattle.history_theory.proofs.Owes.apart_turned dist top laws h (element_at x (samples h).standing) (element_at y (samples h).standing)

  to_pair : (x y d : ℕ) → Linked road.edges x y d → Pair dist h x y d
  to_pair x y d (inl a) = let s = r.kept x y d a in (inl s.0, s.1)
  to_pair x y d (inr a) = let s = r.kept y x d a in (inr s.0, s.1 ∙ turned y x)

  from_pair : (x y d : ℕ) → Pair dist h x y d → Linked road.edges x y d
  from_pair x y d p = go p.0
    where
      go : Admits dist h x y ⊎ Admits dist h y x → Linked road.edges x y d
      go (inl a) = inl (let P : ℕ → Type 0 = λ z. Among (edge x y z) road.edges in subst P (sym p.1) (r.held x y a))
      go (inr a) = inr (let P : ℕ → Type 0 = λ z. Among (edge y x z) road.edges in subst P (sym (p.1 ∙ turned x y)) (r.held y x a))

  pub graph_same : Same (Stands road.index) (Linked road.edges) (Stands (samples h)) (Pair dist h)
  graph_same = record {
    stands = λ n s. let P : Meaning E → Type 0 = λ z. Stands z n in subst P r.index s;
    stands' = λ n s. let P : Meaning E → Type 0 = λ z. Stands z n in subst P (sym r.index) s;
    step = to_pair;
    step' = from_pair;
    ends = λ x y d k.
        let p = Rattle.history_theory.proofs.Owes.pair_ends dist top laws h x y d (to_pair x y d k) in
        let P : Meaning E → Type 0 = λ z. Stands z x in
        let Q : Meaning E → Type 0 = λ z. Stands z y in
        (subst P (sym r.index) p.0, subst Q (sym r.index) p.1);
  }

  pub graph_back : Same (Stands (samples h)) (Pair dist h) (Stands road.index) (Linked road.edges)
  graph_back = record {
    stands = λ n s. let P : Meaning E → Type 0 = λ z. Stands z n in subst P (sym r.index) s;
    stands' = λ n s. let P : Meaning E → Type 0 = λ z. Stands z n in subst P r.index s;
    step = from_pair;
    step' = to_pair;
    ends = Rattle.history_theory.proofs.Owes.pair_ends dist top laws h;
  }
