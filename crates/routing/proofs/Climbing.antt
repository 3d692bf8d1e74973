-- Ways up a forest. Assumes nothing.
use Rattle.std.proofs.Common.{◌≡◌, ℕ, zero, suc, ◌<◌, ◌≤◌, ◌⊎◌, List, [], ◌∷◌, length, get_or, set, slice_index, sym, refl, ap, ◌∙◌, subst, inl, inr, arith}
use Rattle.std.specs.List.{AllByRecursion}
use Rattle.std.proofs.lemmas.List.{get_or-set_same, get_or-set_other, length-set}
use Rattle.std.proofs.lemmas.Bool.{cases_eq, cases_lt}
use Rattle.std.proofs.ByRecursion.{All-get_or}
use Rattle.hits.specs.Samples.{Among}
use Rattle.hits.proofs.Among.{all_among}
use Rattle.chains.specs.declared.Edge.{Edge}
use Rattle.chains.specs.Chains.{Starts, Ends, Chain}
use Rattle.chains.specs.Edges.{Linked, Inside, edge}
use Rattle.chains.proofs.Joining.{joined_on, joined_back}
use Rattle.routing.specs.Forests.{IsForest, Top, ends, climbs, JoinedIn, Grown, Together}

-- no way up ends above where it starts
pub top_below : (parents : List ℕ) (p r : ℕ) → Top parents p r → r ≤ p
top_below parents p r (ends q e) = omega arith
top_below parents p r (climbs q s l t) = omega (arith, top_below parents (slice_index parents q) s t)

-- a way up ends at one place
pub top_one : (parents : List ℕ) (p r s : ℕ) → Top parents p r → Top parents p s → r ≡ s
top_one parents p r s (ends q e) (ends u f) = refl
top_one parents p r s (ends q e) (climbs u v l t) = absurd (omega arith)
top_one parents p r s (climbs q w l t) (ends u f) = absurd (omega arith)
top_one parents p r s (climbs q w l t) (climbs u v m y) = top_one parents (slice_index parents q) w v t y

-- where a way up ends is a place that is its own parent
pub top_is : (parents : List ℕ) (p r : ℕ) → Top parents p r → slice_index parents r ≡ r
top_is parents p r (ends q e) = e
top_is parents p r (climbs q s l t) = top_is parents (slice_index parents q) s t

-- every place has a way up
top_by : (parents : List ℕ) → IsForest parents → (fuel p : ℕ) → p ≤ fuel → p < length parents → (r : ℕ) × Top parents p r
top_by parents forest zero p f l = (p, ends p (omega (arith, forest p l)))
top_by parents forest (suc fuel) p f l = go (cases_lt (slice_index parents p) p) (λ q a b. top_by parents forest fuel q a b)
  where
    go : (slice_index parents p < p) ⊎ (p ≤ slice_index parents p) → ((q : ℕ) → q ≤ fuel → q < length parents → (r : ℕ) × Top parents q r) → (r : ℕ) × Top parents p r
    go (inl y) ih = let r = ih (slice_index parents p) (omega arith) (omega arith) in (r.0, climbs p r.0 y r.1)
    go (inr y) ih = (p, ends p (omega (arith, forest p l)))

pub top_of : (parents : List ℕ) → IsForest parents → (p : ℕ) → p < length parents → (r : ℕ) × Top parents p r
top_of parents forest p l = top_by parents forest p p (omega arith) l

-- the way up from a place's parent ends where that from the place does
pub parent_top : (parents : List ℕ) (p r : ℕ) → Top parents p r → Top parents (slice_index parents p) r
parent_top parents p r (ends q e) = subst (λ z. Top parents z q) (sym e) (ends q e)
parent_top parents p r (climbs q s l t) = t

-- and the other way round
pub top_by_parent : (parents : List ℕ) → IsForest parents → (p r : ℕ) → p < length parents → Top parents (slice_index parents p) r → Top parents p r
top_by_parent parents forest p r l t = go (cases_lt (slice_index parents p) p)
  where
    go : (slice_index parents p < p) ⊎ (p ≤ slice_index parents p) → Top parents p r
    go (inl y) = climbs p r y t
    go (inr y) = let e : slice_index parents p ≡ p = omega (arith, forest p l) in subst (λ z. Top parents z r) e t

-- places of one parent are together
pub same_parent : (parents : List ℕ) → IsForest parents → (p q : ℕ) → p < length parents → q < length parents → slice_index parents p ≡ slice_index parents q → Together parents p q
same_parent parents forest p q l m e =
    let t = top_of parents forest p l in
    (t.0, t.1, top_by_parent parents forest q t.0 m (subst (λ z. Top parents z t.0) e (parent_top parents p t.0 t.1)))

-- another parent, above which the way up ends at the same place or at a new one
module _ (parents : List ℕ) (at to : ℕ) (inside : at < length parents) where
  here : slice_index (set parents at to) at ≡ to
  here = get_or-set_same parents at to 0 inside

  other : (p : ℕ) → (p ≡ at → ⊥) → slice_index (set parents at to) p ≡ slice_index parents p
  other p n = get_or-set_other parents at p to 0 n

  pub forest_set : IsForest parents → to ≤ at → IsForest (set parents at to)
  forest_set forest le p l = go (cases_eq p at)
    where
      go : (p ≡ at) ⊎ (p ≡ at → ⊥) → slice_index (set parents at to) p ≤ p
      go (inl e) = omega (arith, ap (slice_index (set parents at to)) e, here)
      go (inr e) = omega (arith, other p e, forest p (omega (arith, l, length-set parents at to)))

  -- from another place: by what is so above it
  elsewhere : (p r : ℕ) → (p ≡ at → ⊥) → Top parents p r → ((q s : ℕ) → q < p → Top parents q s → Top (set parents at to) q s) → Top (set parents at to) p r
  elsewhere p r n (ends q e) ih = ends q (other q n ∙ e)
  elsewhere p r n (climbs q s l u) ih =
      let same = other q n in
      climbs q s (omega (arith, same)) (subst (λ z. Top (set parents at to) z s) (sym same) (ih (slice_index parents q) s l u))

  -- `at` gets its parent's parent: every way up ends as before
  pub kept_by : slice_index parents at < at → to ≡ slice_index parents (slice_index parents at) → to < at → (fuel p r : ℕ) → p ≤ fuel → Top parents p r → Top (set parents at to) p r
  kept_by low is lt zero p r f t = elsewhere p r (λ z. omega arith) t (λ q s l u. absurd (omega arith))
  kept_by low is lt (suc fuel) p r f t = go (cases_eq p at) t (λ q s a b. kept_by low is lt fuel q s a b)
    where
      go : (p ≡ at) ⊎ (p ≡ at → ⊥) → Top parents p r → ((q s : ℕ) → q ≤ fuel → Top parents q s → Top (set parents at to) q s) → Top (set parents at to) p r
      go (inl e) t ih =
          let up = parent_top parents (slice_index parents at) r (parent_top parents at r (subst (λ z. Top parents z r) e t)) in
          let on = ih to r (omega arith) (subst (λ z. Top parents z r) (sym is) up) in
          subst (λ z. Top (set parents at to) z r) (sym e) (climbs at r (omega (arith, here)) (subst (λ z. Top (set parents at to) z r) (sym here) on))
      go (inr e) t ih = elsewhere p r e t (λ q s l u. ih q s (omega arith) u)

  linked_elsewhere : (p r : ℕ) → (p ≡ at → ⊥) → Top parents p r → ((q s : ℕ) → q < p → Top parents q s → (s ≡ at → Top (set parents at to) q to) × ((s ≡ at → ⊥) → Top (set parents at to) q s)) → (r ≡ at → Top (set parents at to) p to) × ((r ≡ at → ⊥) → Top (set parents at to) p r)
  linked_elsewhere p r n (ends q e) ih = (λ y. absurd (n y), λ _. ends q (other q n ∙ e))
  linked_elsewhere p r n (climbs q s l u) ih =
      let same = other q n in
      let on = ih (slice_index parents q) s l u in (
        λ y. climbs q to (omega (arith, same)) (subst (λ z. Top (set parents at to) z to) (sym same) (on.0 y)),
        λ y. climbs q s (omega (arith, same)) (subst (λ z. Top (set parents at to) z s) (sym same) (on.1 y)),
      )

  -- `at` was its own parent and gets another, which is its own: ways up to `at` end there now, and others as before
  pub linked_by : slice_index parents at ≡ at → slice_index parents to ≡ to → to ≤ at → (fuel p r : ℕ) → p ≤ fuel → Top parents p r → (r ≡ at → Top (set parents at to) p to) × ((r ≡ at → ⊥) → Top (set parents at to) p r)
  linked_by own own' le zero p r f (climbs q s l t) = absurd (omega arith)
  linked_by own own' le zero p r f (ends q e) = go (cases_eq q at)
    where
      go : (q ≡ at) ⊎ (q ≡ at → ⊥) → (q ≡ at → Top (set parents at to) q to) × ((q ≡ at → ⊥) → Top (set parents at to) q q)
      go (inl y) = let z : to ≡ q = omega arith in (λ _. subst (λ x. Top (set parents at to) q x) (sym z) (ends q (ap (slice_index (set parents at to)) y ∙ (here ∙ z))), λ n. absurd (n y))
      go (inr n) = (λ y. absurd (n y), λ _. ends q (other q n ∙ e))
  linked_by own own' le (suc fuel) p r f t = go (cases_eq p at) t (λ q s a b. linked_by own own' le fuel q s a b)
    where
      go : (p ≡ at) ⊎ (p ≡ at → ⊥) → Top parents p r → ((q s : ℕ) → q ≤ fuel → Top parents q s → (s ≡ at → Top (set parents at to) q to) × ((s ≡ at → ⊥) → Top (set parents at to) q s)) → (r ≡ at → Top (set parents at to) p to) × ((r ≡ at → ⊥) → Top (set parents at to) p r)
      go (inl e) t ih = (λ _. subst (λ z. Top (set parents at to) z to) (sym e) (mine (cases_eq to at)), λ n. absurd (n (top_one parents p r at t (subst (λ z. Top parents z at) (sym e) (ends at own)))))
        where
          mine : (to ≡ at) ⊎ (to ≡ at → ⊥) → Top (set parents at to) at to
          mine (inl y) = subst (Top (set parents at to) at) (sym y) (ends at (here ∙ y))
          mine (inr n) = climbs at to (omega (arith, here)) (subst (λ z. Top (set parents at to) z to) (sym here) (ends to (other to n ∙ own')))
      go (inr n) t ih = linked_elsewhere p r n t (λ q s l u. ih q s (omega arith) u)

  -- a chain joins `at` to its new parent
  pub grown_set : (edges : List Edge) → Grown edges parents → JoinedIn (length parents) edges at to → Grown edges (set parents at to)
  grown_set edges g j =
      let long = length-set parents at to in
      record {
        inside = subst (λ n. AllByRecursion (Inside n) edges) (sym long) g.inside;
        joined = λ p l. subst (λ n. JoinedIn n edges p (slice_index (set parents at to) p)) (sym long) (go p (omega (arith, l, long)) (cases_eq p at));
      }
    where
      go : (p : ℕ) → p < length parents → (p ≡ at) ⊎ (p ≡ at → ⊥) → JoinedIn (length parents) edges p (slice_index (set parents at to) p)
      go p l (inl e) = subst (λ z. JoinedIn (length parents) edges z (slice_index (set parents at to) z)) (sym e) (subst (JoinedIn (length parents) edges at) (sym here) j)
      go p l (inr e) = subst (JoinedIn (length parents) edges p) (sym (other p e)) (g.joined p l)

among_get_or : (edges : List Edge) (i : ℕ) (d : Edge) → i < length edges → Among (get_or edges i d) edges
among_get_or [] i d l = absurd (omega arith)
among_get_or (e ∷ es) zero d l = inl refl
among_get_or (e ∷ es) (suc i) d l = inr (among_get_or es i d (omega arith))

-- chains between places
module _ (n : ℕ) (edges : List Edge) (inside : AllByRecursion (Inside n) edges) where
  within : (x y d : ℕ) → Linked edges x y d → (x < n) × (y < n)
  within x y d (inl k) = let p = all_among (Inside n) (edge x y d) edges inside k in (p.0, p.1)
  within x y d (inr k) = let p = all_among (Inside n) (edge y x d) edges inside k in (p.1, p.0)

  turned : (x y d : ℕ) → Linked edges x y d → Linked edges y x d
  turned x y d (inl k) = inr k
  turned x y d (inr k) = inl k

  pub on : (a b c : ℕ) → JoinedIn n edges a b → JoinedIn n edges b c → JoinedIn n edges a c
  on a b c x y = joined_on (λ i. i < n) (Linked edges) within turned a b c x y

  pub back : (a b : ℕ) → JoinedIn n edges a b → JoinedIn n edges b a
  back a b x = joined_back (λ i. i < n) (Linked edges) within turned a b x

pub itself : (n : ℕ) (edges : List Edge) (p : ℕ) → p < n → JoinedIn n edges p p
itself n edges p l = record { numbers = p ∷ []; long = 0; joins = record { chain = (l, refl); starts = refl; ends = refl } }

-- an edge joins its ends
pub one_edge : (n : ℕ) (edges : List Edge) (i : ℕ) → i < length edges → AllByRecursion (Inside n) edges → JoinedIn n edges (get_or edges i (edge 0 0 0)).elder (get_or edges i (edge 0 0 0)).younger
one_edge n edges i l inside =
    let e = get_or edges i (edge 0 0 0) in
    let p = All-get_or (Inside n) edges i (edge 0 0 0) l inside in
    record { numbers = e.elder ∷ (e.younger ∷ []); long = e.length; joins = record { chain = (e.length, 0, inl (among_get_or edges i (edge 0 0 0) l), (p.1, refl), omega arith); starts = refl; ends = refl } }

-- a chain joins a place to the end of its way up
pub top_joined : (edges : List Edge) (parents : List ℕ) → IsForest parents → Grown edges parents → (p r : ℕ) → p < length parents → Top parents p r → JoinedIn (length parents) edges p r
top_joined edges parents forest g p r l (ends q e) = itself (length parents) edges q l
top_joined edges parents forest g p r l (climbs q s m t) =
    on (length parents) edges g.inside q (slice_index parents q) s (g.joined q l) (top_joined edges parents forest g (slice_index parents q) s (omega arith) t)

pub together_on : (parents : List ℕ) (p q s : ℕ) → Together parents p q → Together parents q s → Together parents p s
together_on parents p q s x y = let e = top_one parents q x.0 y.0 x.2 y.1 in (x.0, x.1, subst (Top parents s) (sym e) y.2)

pub together_back : (parents : List ℕ) (p q : ℕ) → Together parents p q → Together parents q p
together_back parents p q x = (x.0, x.2, x.1)

-- where every edge has both ends together, so has every chain
module _ (edges : List Edge) (parents : List ℕ) (forest : IsForest parents) (all : AllByRecursion (λ e. Together parents e.elder e.younger) edges) where
  step_together : (x y d : ℕ) → Linked edges x y d → Together parents x y
  step_together x y d (inl k) = all_among (λ e. Together parents e.elder e.younger) (edge x y d) edges all k
  step_together x y d (inr k) = together_back parents y x (all_among (λ e. Together parents e.elder e.younger) (edge y x d) edges all k)

  chain_together : (ns : List ℕ) (l a b : ℕ) → Chain (λ i. i < length parents) (Linked edges) ns l → Starts a ns → Ends b ns → Together parents a b
  chain_together [] l a b c s e = absurd c
  chain_together (n ∷ []) l a b c s e =
      let t = top_of parents forest n c.0 in
      subst (λ z. Together parents z b) (sym s) (subst (Together parents n) (sym e) (t.0, t.1, t.1))
  chain_together (n ∷ (m ∷ rest)) l a b c s e =
      subst (λ z. Together parents z b) (sym s) (together_on parents n m b (step_together n m c.0 c.2) (chain_together (m ∷ rest) c.1 m b c.3 refl e))

  pub joined_together : (a b : ℕ) → JoinedIn (length parents) edges a b → Together parents a b
  joined_together a b j = chain_together j.numbers j.long a b j.joins.chain j.joins.starts j.joins.ends

-- a way up under way from a place: it ends where that from the place reached does, and no way up ends elsewhere than before
pub record Climbing (from : ℕ) (old parents : List ℕ) (at : ℕ) : Type 0 where
  pub long : length parents ≡ length old
  pub forest : IsForest parents
  pub inside : at < length parents
  pub last : ℕ
  pub from_top : Top parents from last
  pub at_top : Top parents at last
  pub same : (p q : ℕ) → Top old p q → Top parents p q
  pub grown : (edges : List Edge) → Grown edges old → Grown edges parents

pub climb_starts : (from : ℕ) (parents : List ℕ) → IsForest parents → from < length parents → Climbing from parents parents from
climb_starts from parents forest l =
    let t = top_of parents forest from l in
    record { long = refl; forest = forest; inside = l; last = t.0; from_top = t.1; at_top = t.1; same = λ p q x. x; grown = λ e g. g }

pub climb_step : (from : ℕ) (old parents : List ℕ) (at : ℕ) → (c : Climbing from old parents at) → slice_index parents at < at → Climbing from old (set parents at (slice_index parents (slice_index parents at))) (slice_index parents (slice_index parents at))
climb_step from old parents at c low =
    let above = slice_index parents at in
    let to = slice_index parents above in
    let i' = c.inside in
    let ia : above < length parents = omega arith in
    let le = c.forest above ia in
    let lt : to < at = omega arith in
    let keep : (p r : ℕ) → Top parents p r → Top (set parents at to) p r = λ p r t. kept_by parents at to i' low refl lt p p r (omega arith) t in
    record {
      long = length-set parents at to ∙ c.long;
      forest = forest_set parents at to i' c.forest (omega arith);
      inside = omega (arith, length-set parents at to);
      last = c.last;
      from_top = keep from c.last c.from_top;
      at_top = keep to c.last (parent_top parents above c.last (parent_top parents at c.last c.at_top));
      same = λ p q t. keep p q (c.same p q t);
      grown = λ e g. let h = c.grown e g in grown_set parents at to i' e h (on (length parents) e h.inside at above to (h.joined at i') (h.joined above ia));
    }

-- two places whose ways up end at `one` and at `other`, of which the greater gets the smaller as its parent
module _ (parents : List ℕ) (forest : IsForest parents) (low high a b : ℕ) (order : low ≤ high) (inside : high < length parents) (tops : (Top parents a low × Top parents b high) ⊎ (Top parents a high × Top parents b low)) where
  own_low : slice_index parents low ≡ low
  own_low = go tops
    where
      go : (Top parents a low × Top parents b high) ⊎ (Top parents a high × Top parents b low) → slice_index parents low ≡ low
      go (inl t) = top_is parents a low t.0
      go (inr t) = top_is parents b low t.1

  own_high : slice_index parents high ≡ high
  own_high = go tops
    where
      go : (Top parents a low × Top parents b high) ⊎ (Top parents a high × Top parents b low) → slice_index parents high ≡ high
      go (inl t) = top_is parents b high t.1
      go (inr t) = top_is parents a high t.0

  linked : (p r : ℕ) → Top parents p r → (r ≡ high → Top (set parents high low) p low) × ((r ≡ high → ⊥) → Top (set parents high low) p r)
  linked p r t = linked_by parents high low inside own_high own_low order p p r (omega arith) t

  -- who ended at either ends at the smaller
  to_low : (p r : ℕ) → Top parents p r → (r ≡ low) ⊎ (r ≡ high) → Top (set parents high low) p low
  to_low p r t (inr e) = (linked p r t).0 e
  to_low p r t (inl e) = go (cases_eq r high)
    where
      go : (r ≡ high) ⊎ (r ≡ high → ⊥) → Top (set parents high low) p low
      go (inl y) = (linked p r t).0 y
      go (inr n) = subst (Top (set parents high low) p) e ((linked p r t).1 n)

  pub link_together : Together (set parents high low) a b
  link_together = go tops
    where
      go : (Top parents a low × Top parents b high) ⊎ (Top parents a high × Top parents b low) → Together (set parents high low) a b
      go (inl t) = (low, to_low a low t.0 (inl refl), to_low b high t.1 (inr refl))
      go (inr t) = (low, to_low a high t.0 (inr refl), to_low b low t.1 (inl refl))

  pub link_still : (p q : ℕ) → Together parents p q → Together (set parents high low) p q
  link_still p q x = go (cases_eq x.0 high)
    where
      go : (x.0 ≡ high) ⊎ (x.0 ≡ high → ⊥) → Together (set parents high low) p q
      go (inl y) = (low, (linked p x.0 x.1).0 y, (linked q x.0 x.2).0 y)
      go (inr n) = (x.0, (linked p x.0 x.1).1 n, (linked q x.0 x.2).1 n)

  pub link_forest : IsForest (set parents high low)
  link_forest = forest_set parents high low inside forest order

  pub link_grown : (edges : List Edge) → a < length parents → b < length parents → JoinedIn (length parents) edges a b → Grown edges parents → Grown edges (set parents high low)
  link_grown edges la lb j g = grown_set parents high low inside edges g (go tops)
    where
      up : (p r : ℕ) → p < length parents → Top parents p r → JoinedIn (length parents) edges p r
      up p r l t = top_joined edges parents forest g p r l t

      link : (x y : ℕ) → JoinedIn (length parents) edges a x → JoinedIn (length parents) edges b y → JoinedIn (length parents) edges y x
      link x y u v = on (length parents) edges g.inside y b x (back (length parents) edges g.inside b y v) (on (length parents) edges g.inside b a x (back (length parents) edges g.inside a b j) u)

      go : (Top parents a low × Top parents b high) ⊎ (Top parents a high × Top parents b low) → JoinedIn (length parents) edges high low
      go (inl t) = link low high (up a low la t.0) (up b high lb t.1)
      go (inr t) = back (length parents) edges g.inside low high (link high low (up a high la t.0) (up b low lb t.1))
