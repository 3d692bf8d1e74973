-- Finding records, and writing their edges by place. Assumes nothing.
use Rattle.std.proofs.Common.{◌≡◌, ℕ, zero, suc, ◌+◌, ◌*◌, ◌<◌, ◌≤◌, Bool, true, false, cond, eqb, ◌⊎◌, List, [], ◌∷◌, ◌++◌, map, length, get_or, take, drop, ◌-◌, set, filter, Less, Equal, Greater, Ok, Err, Result, sym, refl, ap, ◌∙◌, subst, inl, inr, arith}
use Rattle.std.specs.List.{flat_map, AllByRecursion}
use Rattle.std.specs.List.Sorted.{IsBinarySearchResult}
use Rattle.std.specs.Ordering.{nat_cmp, is_lt}
use Rattle.std.specs.Result.{MatchResult, result_ok}
use Rattle.std.proofs.lemmas.Cmp.{ranked, nat_cmp_total}
use Rattle.std.proofs.lemmas.List.Sorted.{searchable_from_sorted}
use Rattle.std.proofs.lemmas.Bool.Decides.{nat_tests}
use Rattle.std.proofs.lemmas.List.{length-map, get_or-map, take_more_set, drop-set-lt, drop-drop, map_push, append_assoc, append-nil, take_more}
use Rattle.std.proofs.lemmas.List.Elements.{filter_more}
use Rattle.std.proofs.lemmas.List.Sums.{sum_by-cons, sum_by_more, sum_by_more_le}
use Rattle.std.proofs.ByRecursion.{All-push, All-get_or}
use Rattle.std.proofs.lemmas.Bool.{cases_lt, ne_eqb, eq-eqb, or_from, or_right, or_left}
use Rattle.hits.specs.declared.Hit.{Hit}
use Rattle.chains.specs.declared.Edge.{Edge}
use Rattle.chains.specs.Edges.{edge, renamed, Inside, Rises}
use Rattle.chains.proofs.Places.{rises_at}
use Rattle.links.specs.declared.Links.{Links}
use Rattle.links.specs.Records.{numbers, number_at, held, elders, Sound, has, edge_to, record_edges, Resolved, OneMore, Found}

pub number_is : (links : List Links) (i : ℕ) (d : Links) → i < length links → (get_or links i d).number ≡ number_at links i
number_is links i d l = sym (get_or-map (λ r. r.number) links i d 0 l)

-- a number that is at no place is not there
pub has_not : (ns : List ℕ) (n : ℕ) → ((i : ℕ) → i < length ns → get_or ns i 0 ≡ n → ⊥) → has ns n ≡ false
has_not [] n f = refl
has_not (x ∷ xs) n f = or_from (eqb x n) (has xs n) (ne_eqb x n (f 0 (omega arith))) (has_not xs n (λ i l. f (suc i) (omega arith)))

pub has_at : (ns : List ℕ) (n i : ℕ) → i < length ns → get_or ns i 0 ≡ n → has ns n ≡ true
has_at [] n i l e = absurd (omega arith)
has_at (x ∷ xs) n zero l e = or_left (eqb x n) (has xs n) (eq-eqb x n e)
has_at (x ∷ xs) n (suc i) l e = or_right (eqb x n) (has xs n) (has_at xs n i (omega arith) e)

-- lists that are alike from a place on are alike from a later one on
pub drop_less : {X : Type 0} (i j : ℕ) (xs ys : List X) → i ≤ j → drop i xs ≡ drop i ys → drop j xs ≡ drop j ys
drop_less i j xs ys l e =
    let s : i + (j - i) ≡ j = omega arith in
    ap (λ z. drop z xs) (sym s) ∙ (sym (drop-drop (j - i) i xs) ∙ (ap (drop (j - i)) e ∙ (drop-drop (j - i) i ys ∙ ap (λ z. drop z ys) s)))

-- The first i elders of a record: those that stand have their edge, by place, behind the first `made`.
pub record SoFar (links : List Links) (r : Links) (before : List Edge) (made : ℕ) (after : List Edge) (all i : ℕ) : Type 0 where
  pub low : made ≤ all
  pub few : all ≤ made + i
  pub rest : drop all after ≡ drop all before
  pub inside : AllByRecursion (Inside (length links)) (take made before) → AllByRecursion (Inside (length links)) (take all after)
  pub named : map (renamed (number_at links)) (take all after) ≡ map (renamed (number_at links)) (take made before) ++ map (edge_to r.number) (filter (λ h. has (numbers links) h.number) (take i r.elders))

module _ (links : List Links) (r : Links) (before : List Edge) (made : ℕ) where
  module _ (after : List Edge) (all i : ℕ) (s : SoFar links r before made after all i) (l : i < length r.elders) (h : Hit) (is : h ≡ get_or r.elders i h) where
    test : Hit → Bool
    test = λ x. has (numbers links) x.number

    -- an elder that does not stand
    pub so_far_not : has (numbers links) h.number ≡ false → SoFar links r before made after all (i + 1)
    so_far_not e =
        let more = filter_more (λ x. has (numbers links) x.number) r.elders i h l in
        let skip : cond (has (numbers links) (get_or r.elders i h).number) (get_or r.elders i h ∷ []) [] ≡ [] = ap (λ z. cond (has (numbers links) z.number) (z ∷ []) []) (sym is) ∙ ap (λ b. cond b (h ∷ []) []) e in
        let same : filter (λ x. has (numbers links) x.number) (take (i + 1) r.elders) ≡ filter (λ x. has (numbers links) x.number) (take i r.elders) = more ∙ (ap (λ z. filter (λ x. has (numbers links) x.number) (take i r.elders) ++ z) skip ∙ append-nil (filter (λ x. has (numbers links) x.number) (take i r.elders))) in
        record { low = s.low; few = omega (arith, s.few); rest = s.rest; inside = s.inside; named = s.named ∙ ap (λ z. map (renamed (number_at links)) (take made before) ++ map (edge_to r.number) z) (sym same) }

    -- an elder that stands
    pub so_far_more : (place at : ℕ) → all < length after → place < length links → at < length links → number_at links place ≡ h.number → number_at links at ≡ r.number → h.distance ≤ 1048576 → SoFar links r before made (set after all (edge place at h.distance)) (all + 1) (i + 1)
    so_far_more place at room in_p in_a isP is_a short =
        let e : Edge = edge place at h.distance in
        let front : take (all + 1) (set after all e) ≡ take all after ++ (e ∷ []) = take_more_set after all e room in
        let more = filter_more (λ x. has (numbers links) x.number) r.elders i h l in
        let here : cond (has (numbers links) (get_or r.elders i h).number) (get_or r.elders i h ∷ []) [] ≡ h ∷ [] = ap (λ z. cond (has (numbers links) z.number) (z ∷ []) []) (sym is) ∙ ap (λ b. cond b (h ∷ []) []) (has_at (numbers links) h.number place (omega (arith, length-map links (λ r. r.number))) isP) in
        let ks = filter (λ x. has (numbers links) x.number) (take i r.elders) in
        let next : filter (λ x. has (numbers links) x.number) (take (i + 1) r.elders) ≡ ks ++ (h ∷ []) = more ∙ ap (λ z. ks ++ z) here in
        let name : renamed (number_at links) e ≡ edge_to r.number h = (λ k. edge (isP k) (is_a k) h.distance) in
        let old = map (renamed (number_at links)) (take made before) in
        let P : List Edge → Type 0 = λ z. AllByRecursion (Inside (length links)) z in
        record {
          low = omega (arith, s.low);
          few = omega (arith, s.few);
          rest = drop-set-lt (all + 1) after all e (omega arith) ∙ drop_less all (all + 1) after before (omega arith) s.rest;
          inside = λ a. subst P (sym front) (All-push (Inside (length links)) (take all after) e (s.inside a) (in_p, in_a, short));
          named = ap (map (renamed (number_at links))) front
              ∙ (map_push (renamed (number_at links)) (take all after) e
              ∙ (ap (λ z. z ++ (renamed (number_at links) e ∷ [])) s.named
              ∙ (append_assoc old (map (edge_to r.number) ks) (renamed (number_at links) e ∷ [])
              ∙ (ap (λ z. old ++ (map (edge_to r.number) ks ++ (z ∷ []))) name
              ∙ (ap (λ z. old ++ z) (sym (map_push (edge_to r.number) ks h))
              ∙ ap (λ z. old ++ map (edge_to r.number) z) (sym next))))));
        }

  -- all of its elders
  pub one_more : (at : ℕ) (after : List Edge) (all : ℕ) → ((d : Links) → r ≡ get_or links at d) → r.count ≤ 8 → SoFar links r before made after all r.count → OneMore links at before made after all
  one_more at after all is c s = record { few = omega (arith, s.few); fits = λ d. omega (arith, s.few, ap (λ x. x.count) (is d)); inside = s.inside; named = λ d. s.named ∙ ap (λ z. map (renamed (number_at links)) (take made before) ++ record_edges (numbers links) z) (is d) }

joined_more : {X A : Type 0} (f : X → List A) (xs : List X) (i : ℕ) (d : X) → i < length xs → flat_map f (take (i + 1) xs) ≡ flat_map f (take i xs) ++ f (get_or xs i d)
joined_more f xs i d l = ap (flat_map f) (take_more xs i d l) ∙ go (take i xs)
  where
    go : (ys : List _) → flat_map f (ys ++ (get_or xs i d ∷ [])) ≡ flat_map f ys ++ f (get_or xs i d)
    go [] = append-nil (f (get_or xs i d))
    go (y ∷ ys) = ap (λ z. f y ++ z) (go ys) ∙ sym (append_assoc (f y) (flat_map f ys) (f (get_or xs i d)))

module _ (links : List Links) where
  pub none_resolved : (edges : List Edge) → Resolved links 0 edges 0
  none_resolved edges = record { few = omega arith; fits = omega arith; inside = tt; named = refl }

  pub one_resolved : (at : ℕ) (before after : List Edge) (made n : ℕ) (d : Links) → at < length links → Resolved links at before made → OneMore links at before made after n → Resolved links (at + 1) after n
  one_resolved at before after made n d l s o = record {
    few = omega (arith, s.few, o.few);
    fits = omega (arith, s.fits, o.fits d, sum_by_more (λ r. r.count) links at d l);
    inside = o.inside s.inside;
    named = o.named d ∙ (ap (λ z. z ++ record_edges (numbers links) (get_or links at d)) s.named ∙ sym (joined_more (record_edges (numbers links)) links at d l));
  }

nowhere : (links : List Links) (n low high : ℕ) → high ≤ low → ((i : ℕ) → i < low → number_at links i < n) → ((i : ℕ) → high ≤ i → i < length links → n < number_at links i) → has (numbers links) n ≡ false
nowhere links n low high h below above = has_not (numbers links) n none
  where
    none : (i : ℕ) → i < length (numbers links) → get_or (numbers links) i 0 ≡ n → ⊥
    none i l e = go (cases_lt i low)
      where
        go : (i < low) ⊎ (low ≤ i) → ⊥
        go (inl x) = omega (arith, below i x)
        go (inr x) = omega (arith, above i (omega arith) (omega (arith, length-map links (λ r. r.number))))

falls : (a b : ℕ) → a < b → is_lt (nat_cmp b a) ≡ false
falls a b l = grind (arith, nat_tests)

-- what a search by halving finds among records by rising number
pub found_by : (links : List Links) → Rises 0 (numbers links) → (n : ℕ) (r : Result ℕ ℕ) → MatchResult r (λ i. i < length links) (λ i. i ≤ length links) → IsBinarySearchResult (λ y. nat_cmp y.number n) links r → Found n links (result_ok r)
found_by links rise n (Ok i) b p =
    let d : Links = record { number = 0; count = 0; elders = [] } in
    (b, sym (number_is links i d b) ∙ ranked (get_or links i d).number n Equal (sym (p d)))
found_by links rise n (Err i) b p =
    let d : Links = record { number = 0; count = 0; elders = [] } in
    let many = length-map links (λ r. r.number) in
    let up : (k : ℕ) (e : Links) → 0 ≤ k → k + 1 < length links → is_lt (nat_cmp (get_or links (k + 1) e).number (get_or links k e).number) ≡ false =
    λ k e _ l. falls (get_or links k e).number (get_or links (k + 1) e).number (omega (arith, number_is links k e (omega arith), number_is links (k + 1) e l, rises_at 0 (numbers links) k (k + 1) rise (omega arith) (omega (arith, many)))) in
    let parts = p (searchable_from_sorted nat_cmp_total (λ r. r.number) links n up) in
    nowhere links n i i (omega arith)
    (λ k l. let m = ranked (get_or links k d).number n Less (sym (parts.0 k d (omega arith) l)) in omega (arith, number_is links k d (omega arith)))
    (λ k l h. let m = ranked (get_or links k d).number n Greater (sym (parts.1 k d l h)) in omega (arith, number_is links k d h))

pub all_resolved : (links : List Links) (at : ℕ) (edges : List Edge) (n : ℕ) → length links ≤ at → at ≤ length links → Resolved links at edges n → Resolved links (length links) edges n
all_resolved links at edges n a b r =
    let P : ℕ → Type 0 = λ k. Resolved links k edges n in
    let e : at ≡ length links = omega arith in
    subst P e r

-- what the records before a place hold, and the one there, is held
pub held_more : (links : List Links) (at : ℕ) → at < length links → held (take at links) + (get_or links at (record { number = 0; count = 0; elders = [] })).count ≤ held links
held_more links at l = sum_by_more_le (λ r. r.count) links at (record { number = 0; count = 0; elders = [] }) l

-- no record holds more than eight
pub held_few : (links : List Links) → AllByRecursion Sound links → held links ≤ 8 * length links
held_few [] a = omega arith
held_few (r ∷ rs) a = omega (arith, sum_by-cons (λ r. r.count) r rs, a.0.count_bound, held_few rs a.1)

-- the record at a place is sound
pub record_sound : (links : List Links) (at : ℕ) → at < length links → AllByRecursion Sound links → Sound (get_or links at (record { number = 0; count = 0; elders = [] }))
record_sound links at l all = All-get_or Sound links at (record { number = 0; count = 0; elders = [] }) l all

pub elder_less : (r : Links) (i : ℕ) → Sound r → i < length (elders r) → (get_or (elders r) i (record { number = 0; distance = 0 })).number < r.number
elder_less r i s l = (All-get_or (λ h. (h.number < r.number) × (h.distance ≤ 1048576)) (elders r) i (record { number = 0; distance = 0 }) l s.elder).0

pub elder_short : (r : Links) (i : ℕ) → Sound r → i < length (elders r) → (get_or (elders r) i (record { number = 0; distance = 0 })).distance ≤ 1048576
elder_short r i s l = (All-get_or (λ h. (h.number < r.number) × (h.distance ≤ 1048576)) (elders r) i (record { number = 0; distance = 0 }) l s.elder).1

pub so_far_as : (links : List Links) (r : Links) (before : List Edge) (made : ℕ) (xs ys : List Edge) (a b i : ℕ) → xs ≡ ys → a ≡ b → SoFar links r before made ys b i → SoFar links r before made xs a i
so_far_as links r before made xs ys a b i e f s =
    let P : List Edge → Type 0 = λ z. SoFar links r before made z a i in
    let Q : ℕ → Type 0 = λ z. SoFar links r before made ys z i in
    subst P (sym e) (subst Q (sym f) s)
