-- A history that goes on with an add. Assumes nothing.
use Rattle.std.proofs.Common.{◌≡◌, ℕ, ◌+◌, ◌<◌, ◌≤◌, min, Bool, true, false, cond, eqb, ◌⊎◌, List, [], ◌∷◌, ◌++◌, map, length, take, Some, None, filter, Option, sym, refl, ap, ◌∙◌, subst, inl, inr, ⊎_elim, arith, length-append}
use Rattle.std.proofs.lemmas.Bool.{eq-eqb, ne_eqb}
use Rattle.metric.specs.Laws.{MetricLaws}
use Rattle.hits.specs.declared.Hit.{Hit}
use Rattle.hits.specs.Samples.{Sample, Among, Rising, hits, numbers_of}
use Rattle.hits.proofs.Ranking.{hits_ranked}
use Rattle.hits.proofs.Among.{all_among, among_left, among_right, among_append}
use Rattle.chains.specs.declared.Edge.{Edge}
use Rattle.chains.specs.Edges.{edge}
use Rattle.chains.proofs.Places.{among_map, among_unmap}
use Rattle.index.specs.Meaning.{Meaning, Lawful, added, next_sample, element_at}
use Rattle.index.specs.Outcomes.{Outcome, gives, refuses, given_room}
use Rattle.index.specs.Calls.{room_of, add_outcome, add_leaves, add_leaves_at, drop_leaves_at, near_hits, near_count}
use Rattle.index.proofs.Outcomes.{room_left, numbers_left}
use Rattle.index.proofs.Standing.{rising_push}
use Rattle.links.specs.Records.{edge_to}
use Rattle.roadmap.specs.Roads.{Road, Stands}
use Rattle.roadmap.specs.Calls.{passes_with, passes_hit, grow_leaves, grow_leaves_at}
use Rattle.roadmap.proofs.Standing.{rising_bound, stands_among}
use Rattle.history_theory.specs.History.{Asked, asks_add, asks_drop, asks_element, asks_tally, asks_near, asks_within, asks_island, asks_route, History, samples, samples_after, left_by, then_asks, Brought, Admits, HitAmong, distance_of}
use Rattle.history_theory.specs.History as words
use Rattle.history_theory.proofs.Reaching.{Reached}
use Rattle.history_theory.proofs.Dropping.{reached_quiet}

module _ {E : Type 0} where
  at_other : (x : ℕ) (s : Sample E) (xs : List (Sample E)) → (s.number ≡ x → ⊥) → element_at x (xs ++ (s ∷ [])) ≡ element_at x xs
  at_other x s [] d = ap (λ b. cond b (Some s.element) None) (ne_eqb s.number x d)
  at_other x s (y ∷ xs) d = ap (λ z. cond (eqb y.number x) (Some y.element) z) (at_other x s xs d)

  at_new : (s : Sample E) (xs : List (Sample E)) → element_at s.number xs ≡ None → element_at s.number (xs ++ (s ∷ [])) ≡ Some s.element
  at_new s [] e = ap (λ b. cond b (Some s.element) None) (eq-eqb s.number s.number refl)
  at_new s (y ∷ xs) e = go (eqb y.number s.number) e (λ f. at_new s xs f)
    where
      go : (b : Bool) → cond b (Some y.element) (element_at s.number xs) ≡ None → (element_at s.number xs ≡ None → element_at s.number (xs ++ (s ∷ [])) ≡ Some s.element) → cond b (Some y.element) (element_at s.number (xs ++ (s ∷ []))) ≡ Some s.element
      go true f ih = absurd (let z : ◌≡◌ {A = ℕ} 0 1 = cc in omega arith)
      go false f ih = ih f

  stands_bound : (m : Meaning E) → Lawful m → (x : ℕ) → Stands m x → x ≤ m.last
  stands_bound m law x s = all_among (λ n. n ≤ m.last) x (numbers_of m.standing) (rising_bound 0 m.last m.standing law.rising) (stands_among x m.standing s.0 s.1)

  -- a sample stands under its own number
  stands_own : (low high : ℕ) (xs : List (Sample E)) (s : Sample E) → Rising low high xs → Among s xs → element_at s.number xs ≡ Some s.element
  stands_own low high [] s r a = absurd a
  stands_own low high (x ∷ xs) s r (inl e) = ap (λ b. cond b (Some x.element) (element_at s.number xs)) (eq-eqb x.number s.number (ap (λ z. z.number) (sym e))) ∙ ap (λ z. Some z.element) (sym e)
  stands_own low high (x ∷ xs) s r (inr a) = ap (λ b. cond b (Some x.element) (element_at s.number xs)) (ne_eqb x.number s.number (λ e. omega (arith, above x.number high xs s r.2 a))) ∙ stands_own x.number high xs s r.2 a
    where
      above : (low high : ℕ) (xs : List (Sample E)) (s : Sample E) → Rising low high xs → Among s xs → low < s.number
      above low high [] s r a = absurd a
      above low high (x ∷ xs) s r (inl e) = omega (arith, r.0, ap (λ z. z.number) e)
      above low high (x ∷ xs) s r (inr a) = omega (arith, r.0, above x.number high xs s r.2 a)

  -- numbers given only rise
  last_after : (c : Asked E) (m : Meaning E) → m.last ≤ (left_by c m).last
  last_after (asks_add e p) m = go (room_of m)
    where
      go : (o : Outcome Unit) → m.last ≤ (add_leaves_at m e o).last
      go (gives u) = omega arith
      go (refuses n f) = omega arith
  last_after (asks_drop n) m = go (element_at n m.standing)
    where
      go : (o : Option E) → m.last ≤ (drop_leaves_at m n o).last
      go None = omega arith
      go (Some e) = omega arith
  last_after (asks_element n) m = omega arith
  last_after asks_tally m = omega arith
  last_after (asks_near q k l) m = omega arith
  last_after (asks_within q r l) m = omega arith
  last_after (asks_island n) m = omega arith
  last_after (asks_route a b l) m = omega arith

  last_later : (cap : ℕ) (later before : List (Asked E)) → (samples_after cap before).last ≤ (samples_after cap (later ++ before)).last
  last_later cap [] before = omega arith
  last_later cap (c ∷ later) before = omega (arith, last_later cap later before, last_after c (samples_after cap (later ++ before)))

  outcome_number : (m : Meaning E) (e : E) (n : ℕ) → add_outcome m ≡ gives n → (n ≡ m.last + 1) × ((add_leaves m e).last ≡ n)
  outcome_number m e n i = go (room_of m) i
    where
      go : (o : Outcome Unit) → given_room o (m.last + 1) ≡ gives n → (n ≡ m.last + 1) × ((add_leaves_at m e o).last ≡ n)
      go (gives u) j = let k : m.last + 1 ≡ n = cc in (sym k, k)
      go (refuses a f) j = absurd (let z : ◌≡◌ {A = ℕ} 0 1 = cc in omega arith)

  brought_bound : (h : History E) (n : ℕ) (e : E) (p : E → E → Bool) (b : History E) → Brought h n e p b → n ≤ (samples h).last
  brought_bound h n e p b x =
      let o = outcome_number (samples b) e n x.number in
      let l = last_later b.capacity x.later (asks_add e p ∷ b.calls) in
      let same : samples h ≡ samples_after b.capacity (x.later ++ (asks_add e p ∷ b.calls)) = (λ i. samples_after (x.capacity i) (x.calls i)) in
      omega (arith, ap (λ z. z.last) same, o.1)

hit_split : (n : ℕ) (hs : List Hit) → HitAmong n hs → (g : Hit) × Among g hs × (g.number ≡ n)
hit_split n [] a = absurd a
hit_split n (x ∷ xs) (inl e) = (x, inl refl, e)
hit_split n (x ∷ xs) (inr a) = let r = hit_split n xs a in (r.0, inr r.1, r.2)

hit_join : (g : Hit) (hs : List Hit) → Among g hs → HitAmong g.number hs
hit_join g [] a = absurd a
hit_join g (x ∷ xs) (inl e) = inl (ap (λ z. z.number) (sym e))
hit_join g (x ∷ xs) (inr a) = inr (hit_join g xs a)

take_among : {X : Type 0} (k : ℕ) (xs : List X) (x : X) → Among x (take k xs) → Among x xs
take_among k xs x a = (let P : List _ → Type 0 = λ z. Among x z in subst P (Rattle.std.proofs.lemmas.List.take-append-drop k xs) (left (take k xs) (lib.ListN.drop k xs) a))
  where
    left : (ys zs : List _) → Among x ys → Among x (ys ++ zs)
    left [] zs b = absurd b
    left (y ∷ ys) zs (inl e) = inl e
    left (y ∷ ys) zs (inr b) = inr (left ys zs b)

kept_split : (t : Hit → Bool) (hs : List Hit) (g : Hit) → Among g (filter t hs) → Among g hs × (t g ≡ true)
kept_split t [] g a = absurd a
kept_split t (x ∷ xs) g a = go (t x) refl a (λ b. kept_split t xs g b)
  where
    go : (b : Bool) → t x ≡ b → Among g (cond b (x ∷ filter t xs) (filter t xs)) → (Among g (filter t xs) → Among g xs × (t g ≡ true)) → Among g (x ∷ xs) × (t g ≡ true)
    go true i (inl e) ih = (inl e, ap t e ∙ i)
    go true i (inr c) ih = let r = ih c in (inr r.0, r.1)
    go false i c ih = let r = ih c in (inr r.0, r.1)

kept_join : (t : Hit → Bool) (hs : List Hit) (g : Hit) → Among g hs → t g ≡ true → Among g (filter t hs)
kept_join t [] g a i = absurd a
kept_join t (x ∷ xs) g (inl e) i = (let P : Bool → Type 0 = λ b. Among g (cond b (x ∷ filter t xs) (filter t xs)) in subst P (sym (ap t (sym e) ∙ i)) (inl e))
kept_join t (x ∷ xs) g (inr a) i = go (t x) (kept_join t xs g a i)
  where
    go : (b : Bool) → Among g (filter t xs) → Among g (cond b (x ∷ filter t xs) (filter t xs))
    go true c = inr c
    go false c = c

module _ {E : Type 0} (dist : E → E → ℕ) (top : ℕ) (laws : MetricLaws top dist) (h : History E) (e : E) (p : E → E → Bool) (law : Lawful (samples h)) (free : room_of (samples h) ≡ gives tt) where
  m : Meaning E
  m = samples h

  n : ℕ
  n = (samples h).last + 1

  h' : History E
  h' = then_asks h (asks_add e p)

  left : samples (then_asks h (asks_add e p)) ≡ added (samples h) e
  left = ap (add_leaves_at (samples h) e) free

  outcome : add_outcome (samples h) ≡ gives ((samples h).last + 1)
  outcome = ap (λ o. given_room o ((samples h).last + 1)) free

  old_el : (x : ℕ) → x ≤ (samples h).last → element_at x (samples (then_asks h (asks_add e p))).standing ≡ element_at x (samples h).standing
  old_el x l = ap (λ z. element_at x z.standing) left ∙ at_other x (next_sample (samples h) e) (samples h).standing (λ i. omega arith)

  none_yet : element_at ((samples h).last + 1) (samples h).standing ≡ None
  none_yet = go (element_at ((samples h).last + 1) (samples h).standing) refl
    where
      go : (o : Option E) → element_at ((samples h).last + 1) (samples h).standing ≡ o → element_at ((samples h).last + 1) (samples h).standing ≡ None
      go None i = i
      go (Some f) i = absurd (omega (arith, stands_bound (samples h) law ((samples h).last + 1) (f, i)))

  new_el : element_at ((samples h).last + 1) (samples (then_asks h (asks_add e p))).standing ≡ Some e
  new_el = ap (λ z. element_at ((samples h).last + 1) z.standing) left ∙ at_new (next_sample (samples h) e) (samples h).standing none_yet

  pub add_lawful : Lawful (samples (then_asks h (asks_add e p)))
  add_lawful =
      let L : Meaning E → Type 0 = λ z. Lawful z in
      let full = room_left (samples h).capacity (length (samples h).standing) (samples h).last (sym free) in
      let used = numbers_left (samples h).capacity (length (samples h).standing) (samples h).last (sym free) in
      subst L (sym left) (record {
        capacity_bound = law.capacity_bound;
        last_bound = omega (arith, law.last_bound, used);
        rising = rising_push 0 (samples h).last ((samples h).last + 1) (samples h).standing (next_sample (samples h) e) (omega arith) (omega arith) (omega arith) law.rising;
        room = omega (arith, length-append (samples h).standing (next_sample (samples h) e ∷ []), law.room, full);
      })

  -- an old pair stays admitted
  pub admits_old : (x y : ℕ) → Admits dist h x y → Admits dist (then_asks h (asks_add e p)) x y × (distance_of dist h x y ≡ distance_of dist (then_asks h (asks_add e p)) x y)
  admits_old x y a =
      let bx = stands_bound (samples h) law x (a.neighbour, a.elder_stands) in
      let by = stands_bound (samples h) law y (a.element, a.younger_stands) in
      let b = a.brought in (
        record { older = a.older; neighbour = a.neighbour; elder_stands = old_el x bx ∙ a.elder_stands; element = a.element; younger_stands = old_el y by ∙ a.younger_stands; passes = a.passes; before = a.before; brought = record { later = asks_add e p ∷ b.later; calls = ap (λ z. asks_add e p ∷ z) b.calls; capacity = b.capacity; k = b.k; number = b.number }; among = a.among; passed = a.passed },
        (λ i. words.apart dist (sym (old_el x bx) i) (sym (old_el y by) i)),
      )

  near : List Hit
  near = near_hits dist (samples h) e h.k

  abbrev pub new_edges : List Edge
  new_edges = map (edge_to ((samples h).last + 1)) (filter (passes_hit p e (samples h)) (near_hits dist (samples h) e h.k))

  -- a new edge is an admitted pair
  pub admits_new : (x y d : ℕ) → Among (edge x y d) new_edges → Admits dist (then_asks h (asks_add e p)) x y × (d ≡ distance_of dist (then_asks h (asks_add e p)) x y)
  admits_new x y d a =
      let u = among_unmap (edge_to ((samples h).last + 1)) (filter (passes_hit p e (samples h)) (near_hits dist (samples h) e h.k)) (edge x y d) a in
      let g = u.0 in
      let ks = kept_split (passes_hit p e (samples h)) (near_hits dist (samples h) e h.k) g u.1 in
      let all = take_among (near_count (samples h) h.k) (hits dist e (samples h).standing) g ks.0 in
      let o = (hits_ranked dist e 0 (samples h).last (samples h).standing law.rising).only g all in
      let s = o.0 in
      let own = stands_own 0 (samples h).last (samples h).standing s law.rising o.1 in
      let ex : x ≡ s.number = ap (λ z. z.elder) u.2 ∙ ap (λ z. z.number) o.2 in
      let ey : y ≡ (samples h).last + 1 = ap (λ z. z.younger) u.2 in
      let ed : d ≡ dist e s.element = ap (λ z. z.length) u.2 ∙ ap (λ z. z.distance) o.2 in
      let st : element_at x (samples h).standing ≡ Some s.element = ap (λ z. element_at z (samples h).standing) ex ∙ own in
      let bx = stands_bound (samples h) law x (s.element, st) in
      let sy : element_at y (samples (then_asks h (asks_add e p))).standing ≡ Some e = ap (λ z. element_at z (samples (then_asks h (asks_add e p))).standing) ey ∙ new_el in
      let P : ℕ → Type 0 = λ z. HitAmong z (near_hits dist (samples h) e h.k) in
      let passed : p s.element e ≡ true = ap (passes_with p e) (sym own) ∙ (ap (λ z. passes_with p e (element_at z.number (samples h).standing)) (sym o.2) ∙ ks.1) in (
        record { older = omega arith; neighbour = s.element; elder_stands = old_el x bx ∙ st; element = e; younger_stands = sy; passes = p; before = h; brought = record { later = []; calls = refl; capacity = refl; k = refl; number = outcome ∙ ap gives (sym ey) }; among = subst P (sym (ap (λ z. z.elder) u.2)) (hit_join g (near_hits dist (samples h) e h.k) ks.0); passed = passed },
        ed ∙ (laws.symmetric e s.element ∙ (λ i. words.apart dist (sym (old_el x bx ∙ st) i) (sym sy i))),
      )

  -- an admitted pair is an old one or a new edge
  pub admits_which : (x y : ℕ) → Admits dist (then_asks h (asks_add e p)) x y → Admits dist h x y ⊎ Among (edge x y (distance_of dist (then_asks h (asks_add e p)) x y)) new_edges
  admits_which x y a = go a.brought.later a.brought.calls
    where
      b : History E
      b = a.before

      go : (later : List (Asked E)) → asks_add e p ∷ h.calls ≡ later ++ (asks_add a.element a.passes ∷ a.before.calls) → Admits dist h x y ⊎ Among (edge x y (distance_of dist (then_asks h (asks_add e p)) x y)) new_edges
      go (c ∷ later) i =
          let w : Brought h y a.element a.passes a.before = record { later = later; calls = cc; capacity = a.brought.capacity; k = a.brought.k; number = a.brought.number } in
          let by = brought_bound h y a.element a.passes a.before w in
          let bx : x ≤ (samples h).last = omega (arith, a.older) in
          inl (record { older = a.older; neighbour = a.neighbour; elder_stands = sym (old_el x bx) ∙ a.elder_stands; element = a.element; younger_stands = sym (old_el y by) ∙ a.younger_stands; passes = a.passes; before = a.before; brought = w; among = a.among; passed = a.passed })
      go [] i =
          let ee : e ≡ a.element = cc in
          let ep : p ≡ a.passes = cc in
          let ec : h.calls ≡ a.before.calls = cc in
          let same : samples a.before ≡ samples h = (λ j. samples_after (sym a.brought.capacity j) (sym ec j)) in
          let num : y ≡ (samples h).last + 1 = (outcome_number (samples h) e y (ap add_outcome (sym same) ∙ a.brought.number)).0 in
          let bx : x ≤ (samples h).last = omega (arith, a.older) in
          let st : element_at x (samples h).standing ≡ Some a.neighbour = sym (old_el x bx) ∙ a.elder_stands in
          let P : Meaning E → E → Type 0 = λ z w. HitAmong x (take (min h.k (length z.standing)) (hits dist w z.standing)) in
          let among : HitAmong x (near_hits dist (samples h) e h.k) = subst (λ (w : E). P (samples h) w) (sym ee) (subst (λ (z : Meaning E). P z a.element) same a.among) in
          let g = hit_split x (near_hits dist (samples h) e h.k) among in
          let hit = g.0 in
          let o = (hits_ranked dist e 0 (samples h).last (samples h).standing law.rising).only hit (take_among (near_count (samples h) h.k) (hits dist e (samples h).standing) hit g.1) in
          let s = o.0 in
          let own = stands_own 0 (samples h).last (samples h).standing s law.rising o.1 in
          let ex : x ≡ s.number = sym g.2 ∙ ap (λ z. z.number) o.2 in
          let both : Some s.element ≡ Some a.neighbour = sym own ∙ (ap (λ z. element_at z (samples h).standing) (sym ex) ∙ st) in
          let el : s.element ≡ a.neighbour = cc in
          let t : passes_hit p e (samples h) hit ≡ true = ap (λ z. passes_with p e (element_at z (samples h).standing)) g.2 ∙ (ap (passes_with p e) st ∙ ((λ j. ep j a.neighbour (ee j)) ∙ a.passed)) in
          let far : distance_of dist (then_asks h (asks_add e p)) x y ≡ hit.distance = (λ j. words.apart dist (a.elder_stands j) (a.younger_stands j)) ∙ (laws.symmetric a.neighbour a.element ∙ ((λ j. dist (sym ee j) (sym el j)) ∙ sym (ap (λ z. z.distance) o.2))) in
          let Q : Edge → Type 0 = λ z. Among z new_edges in
          let is : edge_to ((samples h).last + 1) hit ≡ edge x y (distance_of dist (then_asks h (asks_add e p)) x y) = (λ j. edge (g.2 j) (sym num j) (sym far j)) in
          inr (subst Q is (among_map (edge_to ((samples h).last + 1)) (filter (passes_hit p e (samples h)) (near_hits dist (samples h) e h.k)) hit (kept_join (passes_hit p e (samples h)) (near_hits dist (samples h) e h.k) hit g.1 t)))

-- an add, accepted or refused
pub reached_add : {E : Type 0} (dist : E → E → ℕ) (top : ℕ) (laws : MetricLaws top dist) (h : History E) (e : E) (p : E → E → Bool) → ((x y : E) → p x y ≡ p y x) → (road after : Road E) → after ≡ grow_leaves dist p road e → Reached dist h road → Reached dist (then_asks h (asks_add e p)) after
reached_add {E} dist top laws h e p even road after is r = go (room_of (samples h)) refl
  where
    rooms : room_of road.index ≡ room_of (samples h)
    rooms = ap room_of r.index

    go : (o : Outcome Unit) → room_of (samples h) ≡ o → Reached dist (then_asks h (asks_add e p)) after
    go (refuses code f) i = reached_quiet dist h (asks_add e p) other (ap (add_leaves_at (samples h) e) i) (even, r.even) road after (is ∙ ap (grow_leaves_at dist p road e) (rooms ∙ i)) r
      where
        other : (n : ℕ) (g : E) (q : E → E → Bool) (b : History E) → Brought (then_asks h (asks_add e p)) n g q b → Brought h n g q b
        other n g q b x = pick x.later x.calls
          where
            pick : (later : List (Asked E)) → asks_add e p ∷ h.calls ≡ later ++ (asks_add g q ∷ b.calls) → Brought h n g q b
            pick (c ∷ later) j = record { later = later; calls = cc; capacity = x.capacity; k = x.k; number = x.number }
            pick [] j =
                let ec : h.calls ≡ b.calls = cc in
                let same : samples h ≡ samples b = (λ z. samples_after (x.capacity z) (ec z)) in
                let bad : refuses code f ≡ gives n = sym (ap (λ o. given_room o ((samples h).last + 1)) i) ∙ (ap add_outcome same ∙ x.number) in
                absurd (let z : ◌≡◌ {A = ℕ} 0 1 = cc in omega arith)
    go (gives u) i =
        let free : room_of (samples h) ≡ gives tt = i in
        let N = new_edges dist top laws h e p r.law free in
        let same : after ≡ record { index = added (samples h) e; k = h.k; edges = road.edges ++ N } = is ∙ (ap (grow_leaves_at dist p road e) (rooms ∙ i) ∙ (λ j. record { index = added (r.index j) e; k = r.k j; edges = road.edges ++ map (edge_to ((r.index j).last + 1)) (filter (passes_hit p e (r.index j)) (near_hits dist (r.index j) e (r.k j))) })) in
        let P : Road E → Type 0 = λ z. Reached dist (then_asks h (asks_add e p)) z in
        subst P (sym same) (record {
          index = sym (ap (add_leaves_at (samples h) e) free);
          k = refl;
          law = add_lawful dist top laws h e p r.law free;
          even = (even, r.even);
          kept = λ x y d a. ⊎_elim
              (λ b. let s = r.kept x y d b in let t = admits_old dist top laws h e p r.law free x y s.0 in (t.0, s.1 ∙ t.1))
              (λ b. admits_new dist top laws h e p r.law free x y d b)
              (among_append (edge x y d) road.edges N a);
          held = λ x y a. ⊎_elim
              (λ b. let t = admits_old dist top laws h e p r.law free x y b in let Q : ℕ → Type 0 = λ z. Among (edge x y z) (road.edges ++ N) in subst Q t.1 (among_left (edge x y (distance_of dist h x y)) road.edges N (r.held x y b)))
              (λ b. among_right (edge x y (distance_of dist (then_asks h (asks_add e p)) x y)) road.edges N b)
              (admits_which dist top laws h e p r.law free x y a);
        })
