-- Records for the samples that stand already. Assumes nothing.
use Rattle.std.proofs.Common.{◌≡◌, ℕ, ◌+◌, ◌<◌, ◌≤◌, ◌⊎◌, List, [], ◌∷◌, ◌++◌, length, take, set, replicate, Some, None, sym, refl, ap, ◌∙◌, subst, inl, inr, arith, length-append, length-set, length-take}
use Rattle.std.specs.List.{AllByRecursion}
use Rattle.std.proofs.lemmas.List.{take_more_set, map_push, append_assoc, append-nil, length-map}
use Rattle.std.proofs.ByRecursion.{All-push, All-weaker}
use Rattle.std.proofs.lemmas.Bool.{cases_order}
use Rattle.hits.specs.Samples.{Among}
use Rattle.hits.proofs.Among.{all_right, all_among, among_right, among_append}
use Rattle.chains.specs.Edges.{Rises}
use Rattle.index.specs.Meaning.{Meaning, Lawful, element_at}
use Rattle.links.specs.declared.Links.{Links}
use Rattle.links.specs.Records.{numbers}
use Rattle.roadmap.specs.Roads.{sample_numbers}
use Rattle.roadmap.specs.Calls.{Filled}
use Rattle.roadmap.proofs.Standing.{rising_rises, rising_bound, stands_among, among_stands, some_not_none}

-- the samples up to `below` have their records, the rest have larger numbers
pub record Filling {E : Type 0} (m : Meaning E) (i used : ℕ) (links : List Links) : Type 0 where
  pub below : ℕ
  pub is : i ≡ below + 1
  pub rest : List ℕ
  pub split : sample_numbers m ≡ numbers (take used links) ++ rest
  pub low : AllByRecursion (λ n. n ≤ below) (numbers (take used links))
  pub high : Rises below rest
  pub used_bound : used ≤ length links
  pub unlinked : AllByRecursion (λ r. r.count ≡ 0) (take used links)
  pub places : AllByRecursion (λ r. length r.elders ≡ 8) (take used links)

not_among : (ns : List ℕ) (b n : ℕ) → AllByRecursion (λ x. x ≤ b) ns → b < n → Among n ns → ⊥
not_among ns b n a l m = let k : n ≤ b = all_among (λ x. x ≤ b) n ns a m in absurd (omega arith)

not_above : (ns : List ℕ) (b n : ℕ) → Rises b ns → n ≤ b → Among n ns → ⊥
not_above [] b n r l m = m
not_above (x ∷ xs) b n r l (inl e) = omega (arith, r.0)
not_above (x ∷ xs) b n r l (inr m) = not_above xs x n r.1 (omega (arith, r.0)) m

module _ {E : Type 0} (m : Meaning E) (law : Lawful m) where
  pub fill_starts : (links : List Links) → Filling m 1 0 links
  fill_starts links = record { below = 0; is = refl; rest = sample_numbers m; split = refl; low = tt; high = rising_rises 0 m.last m.standing law.rising; used_bound = omega arith; unlinked = tt; places = tt }

  pub fill_ends : (i used : ℕ) (links : List Links) → m.last < i → Filling m i used links → Filled m used links
  fill_ends i used links l f = record { used_bound = f.used_bound; unlinked = f.unlinked; places = f.places; numbered = sym (f.split ∙ (ap (λ z. numbers (take used links) ++ z) (none f.rest f.high bounded) ∙ append-nil (numbers (take used links)))) }
    where
      bounded : AllByRecursion (λ n. n ≤ m.last) f.rest
      bounded = (let P : List ℕ → Type 0 = λ z. AllByRecursion (λ n. n ≤ m.last) z in all_right (λ n. n ≤ m.last) (numbers (take used links)) f.rest (subst P f.split (rising_bound 0 m.last m.standing law.rising)))

      none : (ns : List ℕ) → Rises f.below ns → AllByRecursion (λ n. n ≤ m.last) ns → ns ≡ []
      none [] r a = refl
      none (x ∷ xs) r a = absurd (omega (arith, r.0, a.0, f.is))

  module _ (i used : ℕ) (links : List Links) (f : Filling m i used links) where
    -- no sample of this number
    pub fill_not : element_at i m.standing ≡ None → Filling m (i + 1) used links
    fill_not e = record { below = i; is = refl; rest = f.rest; split = f.split; low = All-weaker (λ n. n ≤ f.below) (λ n. n ≤ i) (λ n l. omega (arith, f.is)) (numbers (take used links)) f.low; high = up f.rest f.split f.high; used_bound = f.used_bound; unlinked = f.unlinked; places = f.places }
      where
        up : (ns : List ℕ) → sample_numbers m ≡ numbers (take used links) ++ ns → Rises f.below ns → Rises i ns
        up [] s r = tt
        up (x ∷ xs) s r = go (cases_order x i)
          where
            go : (x ≡ i) ⊎ ((x < i) ⊎ (i < x)) → Rises i (x ∷ xs)
            go (inl q) =
                let P : List ℕ → Type 0 = λ z. Among i z in
                let st = among_stands i m.standing (subst P (sym s) (among_right i (numbers (take used links)) (x ∷ xs) (inl (sym q)))) in
                absurd (some_not_none (element_at i m.standing) st.0 st.1 e)
            go (inr (inl q)) = absurd (omega (arith, r.0, f.is))
            go (inr (inr q)) = (q, r.1)

    -- the next is this number
    pub record Next : Type 0 where
      pub after : List ℕ
      pub is : f.rest ≡ i ∷ after
      pub higher : Rises i after

    pub next : (e : E) → element_at i m.standing ≡ Some e → Next
    next e p = go (among_append i (numbers (take used links)) f.rest (let P : List ℕ → Type 0 = λ z. Among i z in subst P f.split (stands_among i m.standing e p)))
      where
        here : (ns : List ℕ) → f.rest ≡ ns → Rises f.below ns → Among i ns → Next
        here [] q r a = absurd a
        here (x ∷ xs) q r (inl b) = record { after = xs; is = q ∙ ap (λ z. z ∷ xs) (sym b); higher = (let P : ℕ → Type 0 = λ z. Rises z xs in subst P (sym b) r.1) }
        here (x ∷ xs) q r (inr b) = absurd (not_above xs x i r.1 (omega (arith, r.0, f.is)) b)

        go : Among i (numbers (take used links)) ⊎ Among i f.rest → Next
        go (inl a) = absurd (not_among (numbers (take used links)) f.below i f.low (omega (arith, f.is)) a)
        go (inr a) = here f.rest refl f.high a

    pub fill_room : (e : E) → element_at i m.standing ≡ Some e → m.capacity ≤ length links → used < length links
    fill_room e p room =
        let n = next e p in
        let a = ap length f.split in
        let b = length-append (numbers (take used links)) f.rest in
        let c = ap length n.is in
        let d = length-map m.standing (λ s. s.number) in
        let q = length-map (take used links) (λ r. r.number) in
        let t = length-take used links in
        omega (arith, law.room, f.used_bound)

    pub fill_more : (e : E) → element_at i m.standing ≡ Some e → m.capacity ≤ length links → (own : Links) → own ≡ record { number = i; count = 0; elders = replicate 8 (record { number = 0; distance = 0 }) } → Filling m (i + 1) (used + 1) (set links used own)
    fill_more e p room own is =
        let n = next e p in
        let l = fill_room e p room in
        let front : take (used + 1) (set links used own) ≡ take used links ++ (own ∷ []) = take_more_set links used own l in
        let num : own.number ≡ i = ap (λ z. z.number) is in
        let names : numbers (take (used + 1) (set links used own)) ≡ numbers (take used links) ++ (i ∷ []) = ap numbers front ∙ (map_push (λ r. r.number) (take used links) own ∙ ap (λ z. numbers (take used links) ++ (z ∷ [])) num) in
        let P : List ℕ → Type 0 = λ z. AllByRecursion (λ n. n ≤ i) z in
        let Q : List Links → Type 0 = λ z. AllByRecursion (λ r. r.count ≡ 0) z in
        let R : List Links → Type 0 = λ z. AllByRecursion (λ r. length r.elders ≡ 8) z in
        record {
          below = i;
          is = refl;
          rest = n.after;
          split = f.split ∙ (ap (λ z. numbers (take used links) ++ z) n.is ∙ (sym (append_assoc (numbers (take used links)) (i ∷ []) n.after) ∙ ap (λ z. z ++ n.after) (sym names)));
          low = subst P (sym names) (All-push (λ n. n ≤ i) (numbers (take used links)) i (All-weaker (λ n. n ≤ f.below) (λ n. n ≤ i) (λ n l. omega (arith, f.is)) (numbers (take used links)) f.low) (omega arith));
          high = n.higher;
          used_bound = simp length-set (omega arith);
          unlinked = subst Q (sym front) (All-push (λ r. r.count ≡ 0) (take used links) own f.unlinked (ap (λ z. z.count) is));
          places = subst R (sym front) (All-push (λ r. length r.elders ≡ 8) (take used links) own f.places (ap (λ z. length z.elders) is));
        }

pub filling_as : {E : Type 0} (m : Meaning E) (i used more : ℕ) (links after : List Links) → used ≡ more → links ≡ after → Filling m i more after → Filling m i used links
filling_as m i used more links after e f x =
    let P : ℕ → Type 0 = λ z. Filling m i z links in
    let Q : List Links → Type 0 = λ z. Filling m i more z in
    subst P (sym e) (subst Q (sym f) x)
