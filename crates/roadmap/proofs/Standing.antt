-- The standing samples and the numbers of their records. Assumes nothing.
use Rattle.std.proofs.Common.{◌≡◌, ℕ, ◌≤◌, Bool, true, false, cond, eqb, ◌⊎◌, List, [], ◌∷◌, ◌++◌, map, length, Some, None, filter, Option, sym, refl, ap, ◌∙◌, subst, inl, inr, ⊎_elim, arith}
use Rattle.std.specs.List.{AllByRecursion}
use Rattle.std.proofs.lemmas.List.{length-map}
use Rattle.std.proofs.lemmas.Bool.{eq-eqb, ne_eqb, eqb-true, eqb-false, cases_eq, both_ways, or_cases, or_left, or_right, or_parts}
use Rattle.hits.specs.declared.Hit.{Hit}
use Rattle.hits.specs.Samples.{Sample, Among, Rising, numbers_of}
use Rattle.hits.proofs.Among.{among_append}
use Rattle.chains.specs.Chains.{Island}
use Rattle.chains.specs.Edges.{edge, Linked, Rises}
use Rattle.chains.proofs.Moving.{Same, joined_same, island_same, route_same}
use Rattle.index.specs.Meaning.{Meaning, Lawful, element_at, without}
use Rattle.index.specs.Outcomes.{Outcome}
use Rattle.links.specs.declared.Links.{Links}
use Rattle.links.specs.Records.{numbers, elders, Sound, Good, has, edge_to, record_edges, edges_among, edges_of}
use Rattle.links.proofs.Changing.{numbers_without}
use Rattle.graph.specs.Routes.{Standing, Routed, apart, too_short, written}
use Rattle.roadmap.specs.Roads.{Stands, sample_numbers}

pub has_among : (ns : List ℕ) (n : ℕ) → has ns n ≡ true → Among n ns
has_among [] n e = absurd (both_ways false refl e)
has_among (x ∷ xs) n e = ⊎_elim (λ a. inl (sym (eqb-true x n a))) (λ a. inr (has_among xs n a)) (or_cases (eqb x n) (has xs n) e)

pub among_has : (ns : List ℕ) (n : ℕ) → Among n ns → has ns n ≡ true
among_has [] n a = absurd a
among_has (x ∷ xs) n (inl e) = or_left (eqb x n) (has xs n) (eq-eqb x n (sym e))
among_has (x ∷ xs) n (inr a) = or_right (eqb x n) (has xs n) (among_has xs n a)

module _ {E : Type 0} where
  pub rising_rises : (low high : ℕ) (xs : List (Sample E)) → Rising low high xs → Rises low (numbers_of xs)
  rising_rises low high [] r = tt
  rising_rises low high (x ∷ xs) r = (r.0, rising_rises x.number high xs r.2)

  pub rising_bound : (low high : ℕ) (xs : List (Sample E)) → Rising low high xs → AllByRecursion (λ n. n ≤ high) (numbers_of xs)
  rising_bound low high [] r = tt
  rising_bound low high (x ∷ xs) r = (r.1, rising_bound x.number high xs r.2)

  at_here : (n : ℕ) (x : Sample E) (xs : List (Sample E)) → x.number ≡ n → element_at n (x ∷ xs) ≡ Some x.element
  at_here n x xs e = ap (λ b. cond b (Some x.element) (element_at n xs)) (eq-eqb x.number n e)

  at_there : (n : ℕ) (x : Sample E) (xs : List (Sample E)) → (x.number ≡ n → ⊥) → element_at n (x ∷ xs) ≡ element_at n xs
  at_there n x xs e = ap (λ b. cond b (Some x.element) (element_at n xs)) (ne_eqb x.number n e)

  pub some_not_none : (o : Option E) (e : E) → o ≡ Some e → o ≡ None → ⊥
  some_not_none o e p q = let z : ◌≡◌ {A = ℕ} 0 1 = cc in omega arith

  pub stands_among : (n : ℕ) (xs : List (Sample E)) (e : E) → element_at n xs ≡ Some e → Among n (numbers_of xs)
  stands_among n [] e p = absurd (some_not_none None e p refl)
  stands_among n (x ∷ xs) e p = go (cases_eq x.number n) (λ q. stands_among n xs e q)
    where
      go : (x.number ≡ n) ⊎ (x.number ≡ n → ⊥) → (element_at n xs ≡ Some e → Among n (numbers_of xs)) → Among n (numbers_of (x ∷ xs))
      go (inl q) ih = inl (sym q)
      go (inr q) ih = inr (ih (sym (at_there n x xs q) ∙ p))

  pub among_stands : (n : ℕ) (xs : List (Sample E)) → Among n (numbers_of xs) → (e : E) × (element_at n xs ≡ Some e)
  among_stands n [] a = absurd a
  among_stands n (x ∷ xs) a = go (cases_eq x.number n) a (λ q. among_stands n xs q)
    where
      go : (x.number ≡ n) ⊎ (x.number ≡ n → ⊥) → Among n (numbers_of (x ∷ xs)) → (Among n (numbers_of xs) → (e : E) × (element_at n xs ≡ Some e)) → (e : E) × (element_at n (x ∷ xs) ≡ Some e)
      go (inl q) b ih = (x.element, at_here n x xs q)
      go (inr q) (inl b) ih = absurd (q (sym b))
      go (inr q) (inr b) ih = let r = ih b in (r.0, at_there n x xs q ∙ r.1)

  pub none_there : (n : ℕ) (xs : List (Sample E)) → has (numbers_of xs) n ≡ false → element_at n xs ≡ None
  none_there n [] p = refl
  none_there n (x ∷ xs) p =
      let q = or_parts (eqb x.number n) (has (numbers_of xs) n) p in
      at_there n x xs (eqb-false x.number n q.0) ∙ none_there n xs q.1

  pub without_numbers : (n : ℕ) (xs : List (Sample E)) → numbers_of (without n xs) ≡ numbers_without n (numbers_of xs)
  without_numbers n [] = refl
  without_numbers n (x ∷ xs) = go (eqb x.number n) (without_numbers n xs)
    where
      go : (b : Bool) → numbers_of (without n xs) ≡ numbers_without n (numbers_of xs) → numbers_of (cond b (without n xs) (x ∷ without n xs)) ≡ cond b (numbers_without n (numbers_of xs)) (x.number ∷ numbers_without n (numbers_of xs))
      go true ih = ih
      go false ih = ap (λ z. x.number ∷ z) ih

-- an edge of a record ends at an elder that stands and at the record's number
record_ends : (ns : List ℕ) (m x y d : ℕ) (hs : List Hit) → Among (edge x y d) (map (edge_to m) (filter (λ h. has ns h.number) hs)) → (has ns x ≡ true) × (y ≡ m)
record_ends ns m x y d [] a = absurd a
record_ends ns m x y d (h ∷ hs) a = go (has ns h.number) refl a (λ b. record_ends ns m x y d hs b)
  where
    go : (t : Bool) → has ns h.number ≡ t → Among (edge x y d) (map (edge_to m) (cond t (h ∷ filter (λ h. has ns h.number) hs) (filter (λ h. has ns h.number) hs))) → (Among (edge x y d) (map (edge_to m) (filter (λ h. has ns h.number) hs)) → (has ns x ≡ true) × (y ≡ m)) → (has ns x ≡ true) × (y ≡ m)
    go true e (inl b) ih = (ap (λ z. has ns z.elder) b ∙ e, ap (λ z. z.younger) b)
    go true e (inr b) ih = ih b
    go false e b ih = ih b

pub edges_end : (ns : List ℕ) (links : List Links) (x y d : ℕ) → Among (edge x y d) (edges_among ns links) → (has ns x ≡ true) × Among y (numbers links)
edges_end ns [] x y d a = absurd a
edges_end ns (r ∷ rs) x y d a = go (among_append (edge x y d) (record_edges ns r) (edges_among ns rs) a) (λ b. edges_end ns rs x y d b)
  where
    go : Among (edge x y d) (record_edges ns r) ⊎ Among (edge x y d) (edges_among ns rs) → (Among (edge x y d) (edges_among ns rs) → (has ns x ≡ true) × Among y (numbers rs)) → (has ns x ≡ true) × Among y (r.number ∷ numbers rs)
    go (inl b) ih = let p = record_ends ns r.number x y d (elders r) b in (p.0, inl p.1)
    go (inr b) ih = let p = ih b in (p.0, inr p.1)

pub linked_ends : (links : List Links) (x y d : ℕ) → Linked (edges_of links) x y d → Standing links x × Standing links y
linked_ends links x y d (inl a) = let p = edges_end (numbers links) links x y d a in (has_among (numbers links) x p.0, p.1)
linked_ends links x y d (inr a) = let p = edges_end (numbers links) links y x d a in (p.1, has_among (numbers links) y p.0)

module _ {E : Type 0} (m : Meaning E) (law : Lawful m) (links : List Links) (named : numbers links ≡ sample_numbers m) where
  pub count : length links ≡ length m.standing
  count = sym (length-map links (λ r. r.number)) ∙ (ap length named ∙ length-map m.standing (λ s. s.number))

  pub good : AllByRecursion Sound links → Good links
  good s =
      let P : List ℕ → Type 0 = λ z. Rises 0 z in
      record { rises = subst P (sym named) (rising_rises 0 m.last m.standing law.rising); sound = s; few = omega (arith, count, law.room, law.capacity_bound) }

  pub stands_in : (n : ℕ) → Stands m n → Standing links n
  stands_in n s = (let P : List ℕ → Type 0 = λ z. Among n z in subst P (sym named) (stands_among n m.standing s.0 s.1))

  pub stands_out : (n : ℕ) → Standing links n → Stands m n
  stands_out n a = (let P : List ℕ → Type 0 = λ z. Among n z in among_stands n m.standing (subst P named a))

  same : Same (Standing links) (Linked (edges_of links)) (Stands m) (Linked (edges_of links))
  same = record { stands = stands_out; stands' = stands_in; step = λ x y d k. k; step' = λ x y d k. k; ends = linked_ends links }

  pub same_back : Same (Stands m) (Linked (edges_of links)) (Standing links) (Linked (edges_of links))
  same_back = record { stands = stands_in; stands' = stands_out; step = λ x y d k. k; step' = λ x y d k. k; ends = λ x y d k. let p = linked_ends links x y d k in (stands_out x p.0, stands_out y p.1) }

  pub island_stands : (n i : ℕ) → Island (Standing links) (Linked (edges_of links)) n i → Island (Stands m) (Linked (edges_of links)) n i
  island_stands n i x = island_same (Standing links) (Linked (edges_of links)) (Stands m) (Linked (edges_of links)) same n i x

  pub routed_stands : (a b : ℕ) (list : List ℕ) (o : Outcome (ℕ × ℕ)) (after : List ℕ) → Routed (Standing links) (Linked (edges_of links)) a b list o after → Routed (Stands m) (Linked (edges_of links)) a b list o after
  routed_stands a b list o after (apart f) = apart (λ j. f (joined_same (Stands m) (Linked (edges_of links)) (Standing links) (Linked (edges_of links)) same_back a b j))
  routed_stands a b list o after (too_short ns l r s) = too_short ns l (route_same (Standing links) (Linked (edges_of links)) (Stands m) (Linked (edges_of links)) same a b ns l r) s
  routed_stands a b list o after (written ns l r s) = written ns l (route_same (Standing links) (Linked (edges_of links)) (Stands m) (Linked (edges_of links)) same a b ns l r) s

  pub absent : (n : ℕ) → has (numbers links) n ≡ false → element_at n m.standing ≡ None
  absent n e = none_there n m.standing (ap (λ z. has z n) (sym named) ∙ e)
