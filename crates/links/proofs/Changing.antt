-- The edges that records hold after one more record, and after one less. Assumes nothing.
use Rattle.std.proofs.Common.{◌≡◌, ℕ, zero, suc, ◌<◌, ◌≤◌, Bool, true, false, cond, ◌||◌, eqb, ◌⊎◌, List, [], ◌∷◌, ◌++◌, map, length, take, drop, filter, sym, refl, ap, ◌∙◌, inl, inr, arith}
use Rattle.std.specs.List.{flat_map, AllByRecursion}
use Rattle.std.proofs.ByRecursion.{All-weaker}
use Rattle.std.proofs.lemmas.List.{map_push, append_assoc, append-nil, length-map}
use Rattle.std.proofs.lemmas.Bool.{ne_eqb, eq-eqb, eqb-true, cases_eq, both_ways, or_left, or_right, or_from}
use Rattle.hits.specs.declared.Hit.{Hit}
use Rattle.chains.specs.declared.Edge.{Edge}
use Rattle.chains.specs.Edges.{Rises}
use Rattle.chains.proofs.Places.{rises_above}
use Rattle.links.specs.declared.Links.{Links}
use Rattle.links.specs.Records.{numbers, number_at, elders, has, edge_to, record_edges, edges_among, edges_of, touches, edges_without}

kept_alike : {X : Type 0} (p q : X → Bool) (xs : List X) → AllByRecursion (λ x. p x ≡ q x) xs → filter p xs ≡ filter q xs
kept_alike p q [] a = refl
kept_alike p q (x ∷ xs) a = ap (λ b. cond b (x ∷ filter p xs) (filter p xs)) a.0 ∙ ap (λ z. cond (q x) (x ∷ z) z) (kept_alike p q xs a.1)

kept_whole : {X : Type 0} (p : X → Bool) (xs : List X) → AllByRecursion (λ x. p x ≡ true) xs → filter p xs ≡ xs
kept_whole p [] a = refl
kept_whole p (x ∷ xs) a = ap (λ b. cond b (x ∷ filter p xs) (filter p xs)) a.0 ∙ ap (λ z. x ∷ z) (kept_whole p xs a.1)

has_push_other : (ns : List ℕ) (n x : ℕ) → (n ≡ x → ⊥) → has (ns ++ (n ∷ [])) x ≡ has ns x
has_push_other [] n x e = or_from (eqb n x) false (ne_eqb n x e) refl
has_push_other (y ∷ ns) n x e = ap (λ b. eqb y x || b) (has_push_other ns n x e)

pub has_push_more : (ns : List ℕ) (n x : ℕ) → has ns x ≡ true → has (ns ++ (n ∷ [])) x ≡ true
has_push_more [] n x e = absurd (both_ways false refl e)
has_push_more (y ∷ ns) n x e = go (eqb y x) e (λ h. has_push_more ns n x h)
  where
    go : (b : Bool) → (b || has ns x) ≡ true → (has ns x ≡ true → has (ns ++ (n ∷ [])) x ≡ true) → (b || has (ns ++ (n ∷ [])) x) ≡ true
    go true f ih = refl
    go false f ih = ih f

edges_alike : (ns ms : List ℕ) (links : List Links) → AllByRecursion (λ r. AllByRecursion (λ h. has ns h.number ≡ has ms h.number) (elders r)) links → edges_among ns links ≡ edges_among ms links
edges_alike ns ms [] a = refl
edges_alike ns ms (r ∷ rs) a =
    ap (λ z. map (edge_to r.number) z ++ edges_among ns rs) (kept_alike (λ h. has ns h.number) (λ h. has ms h.number) (elders r) a.0)
    ∙ ap (λ z. record_edges ms r ++ z) (edges_alike ns ms rs a.1)

joined_push : {X A : Type 0} (f : X → List A) (xs : List X) (x : X) → flat_map f (xs ++ (x ∷ [])) ≡ flat_map f xs ++ f x
joined_push f [] x = append-nil (f x)
joined_push f (y ∷ ys) x = ap (λ z. f y ++ z) (joined_push f ys x) ∙ sym (append_assoc (f y) (flat_map f ys) (f x))

-- one more record, whose number is above those of all elders, and whose elders stand
pub edges_push : (links : List Links) (r : Links) → AllByRecursion (λ x. AllByRecursion (λ h. h.number < r.number) (elders x)) links → AllByRecursion (λ h. has (numbers links) h.number ≡ true) (elders r) → edges_of (links ++ (r ∷ [])) ≡ edges_of links ++ map (edge_to r.number) (elders r)
edges_push links r young there =
    let ns = numbers links in
    let n = r.number in
    let names : numbers (links ++ (r ∷ [])) ≡ ns ++ (n ∷ []) = map_push (λ x. x.number) links r in
    let same : edges_among (ns ++ (n ∷ [])) links ≡ edges_among ns links = edges_alike (ns ++ (n ∷ [])) ns links (All-weaker (λ x. AllByRecursion (λ h. h.number < n) (elders x)) (λ x. AllByRecursion (λ h. has (ns ++ (n ∷ [])) h.number ≡ has ns h.number) (elders x)) (λ x a. All-weaker (λ h. h.number < n) (λ h. has (ns ++ (n ∷ [])) h.number ≡ has ns h.number) (λ h l. has_push_other ns n h.number (λ e. omega arith)) (elders x) a) links young) in
    let all : filter (λ h. has (ns ++ (n ∷ [])) h.number) (elders r) ≡ elders r = kept_whole (λ h. has (ns ++ (n ∷ [])) h.number) (elders r) (All-weaker (λ h. has ns h.number ≡ true) (λ h. has (ns ++ (n ∷ [])) h.number ≡ true) (λ h e. has_push_more ns n h.number e) (elders r) there) in
    ap (λ z. edges_among z (links ++ (r ∷ []))) names
    ∙ (joined_push (record_edges (ns ++ (n ∷ []))) links r
    ∙ (ap (λ z. z ++ record_edges (ns ++ (n ∷ [])) r) same
    ∙ ap (λ z. edges_among ns links ++ map (edge_to n) z) all))

-- without a number
abbrev pub numbers_without : ℕ → List ℕ → List ℕ
numbers_without n [] = []
numbers_without n (x ∷ xs) = cond (eqb x n) (numbers_without n xs) (x ∷ numbers_without n xs)

abbrev pub links_without : ℕ → List Links → List Links
links_without n [] = []
links_without n (r ∷ rs) = cond (eqb r.number n) (links_without n rs) (r ∷ links_without n rs)

pub numbers_left : (n : ℕ) (links : List Links) → numbers (links_without n links) ≡ numbers_without n (numbers links)
numbers_left n [] = refl
numbers_left n (r ∷ rs) = go (eqb r.number n) (numbers_left n rs)
  where
    go : (b : Bool) → numbers (links_without n rs) ≡ numbers_without n (numbers rs) → numbers (cond b (links_without n rs) (r ∷ links_without n rs)) ≡ cond b (numbers_without n (numbers rs)) (r.number ∷ numbers_without n (numbers rs))
    go true ih = ih
    go false ih = ap (λ z. r.number ∷ z) ih

has_left_same : (n : ℕ) (ns : List ℕ) → has (numbers_without n ns) n ≡ false
has_left_same n [] = refl
has_left_same n (x ∷ xs) = go (eqb x n) refl (has_left_same n xs)
  where
    go : (b : Bool) → eqb x n ≡ b → has (numbers_without n xs) n ≡ false → has (cond b (numbers_without n xs) (x ∷ numbers_without n xs)) n ≡ false
    go true e ih = ih
    go false e ih = or_from (eqb x n) (has (numbers_without n xs) n) e ih

has_left_other : (n x : ℕ) (ns : List ℕ) → (x ≡ n → ⊥) → has (numbers_without n ns) x ≡ has ns x
has_left_other n x [] d = refl
has_left_other n x (y ∷ ys) d = go (eqb y n) refl (has_left_other n x ys d)
  where
    go : (b : Bool) → eqb y n ≡ b → has (numbers_without n ys) x ≡ has ys x → has (cond b (numbers_without n ys) (y ∷ numbers_without n ys)) x ≡ (eqb y x || has ys x)
    go true e ih = ih ∙ ap (λ b. b || has ys x) (sym (ne_eqb y x (λ f. d (sym f ∙ eqb-true y n e))))
    go false e ih = ap (λ b. eqb y x || b) ih

skip : (n : ℕ) (e : Edge) (es : List Edge) → touches n e ≡ true → edges_without n (e ∷ es) ≡ edges_without n es
skip n e es t = ap (λ b. cond b (edges_without n es) (e ∷ edges_without n es)) t

keep : (n : ℕ) (e : Edge) (es : List Edge) → touches n e ≡ false → edges_without n (e ∷ es) ≡ e ∷ edges_without n es
keep n e es t = ap (λ b. cond b (edges_without n es) (e ∷ edges_without n es)) t

without_append : (n : ℕ) (xs ys : List Edge) → edges_without n (xs ++ ys) ≡ edges_without n xs ++ edges_without n ys
without_append n [] ys = refl
without_append n (x ∷ xs) ys = go (touches n x) (without_append n xs ys)
  where
    go : (b : Bool) → edges_without n (xs ++ ys) ≡ edges_without n xs ++ edges_without n ys → cond b (edges_without n (xs ++ ys)) (x ∷ edges_without n (xs ++ ys)) ≡ cond b (edges_without n xs) (x ∷ edges_without n xs) ++ edges_without n ys
    go true ih = ih
    go false ih = ap (λ z. x ∷ z) ih

-- all edges of the record of n end at n
own_edges : (n m : ℕ) (hs : List Hit) → m ≡ n → edges_without n (map (edge_to m) hs) ≡ []
own_edges n m [] e = refl
own_edges n m (h ∷ hs) e = skip n (edge_to m h) (map (edge_to m) hs) (or_right (eqb h.number n) (eqb m n) (eq-eqb m n e)) ∙ own_edges n m hs e

-- of another record, those to n
other_edges : (n m : ℕ) (ns : List ℕ) (hs : List Hit) → (m ≡ n → ⊥) → map (edge_to m) (filter (λ h. has (numbers_without n ns) h.number) hs) ≡ edges_without n (map (edge_to m) (filter (λ h. has ns h.number) hs))
other_edges n m ns [] d = refl
other_edges n m ns (h ∷ hs) d = go (cases_eq h.number n) (other_edges n m ns hs d)
  where
    L : List Hit
    L = filter (λ h. has (numbers_without n ns) h.number) hs

    Goal : Type 0
    Goal = map (edge_to m) (filter (λ h. has (numbers_without n ns) h.number) (h ∷ hs)) ≡ edges_without n (map (edge_to m) (filter (λ h. has ns h.number) (h ∷ hs)))

    go : (h.number ≡ n) ⊎ (h.number ≡ n → ⊥) → map (edge_to m) (filter (λ h. has (numbers_without n ns) h.number) hs) ≡ edges_without n (map (edge_to m) (filter (λ h. has ns h.number) hs))
        → map (edge_to m) (cond (has (numbers_without n ns) h.number) (h ∷ filter (λ h. has (numbers_without n ns) h.number) hs) (filter (λ h. has (numbers_without n ns) h.number) hs)) ≡ edges_without n (map (edge_to m) (cond (has ns h.number) (h ∷ filter (λ h. has ns h.number) hs) (filter (λ h. has ns h.number) hs)))
    go (inl e) ih =
        let gone : has (numbers_without n ns) h.number ≡ false = ap (has (numbers_without n ns)) e ∙ has_left_same n ns in
        ap (λ b. map (edge_to m) (cond b (h ∷ filter (λ h. has (numbers_without n ns) h.number) hs) (filter (λ h. has (numbers_without n ns) h.number) hs))) gone ∙ (ih ∙ sym (either (has ns h.number)))
      where
        either : (b : Bool) → edges_without n (map (edge_to m) (cond b (h ∷ filter (λ h. has ns h.number) hs) (filter (λ h. has ns h.number) hs))) ≡ edges_without n (map (edge_to m) (filter (λ h. has ns h.number) hs))
        either true = skip n (edge_to m h) (map (edge_to m) (filter (λ h. has ns h.number) hs)) (or_left (eqb h.number n) (eqb m n) (eq-eqb h.number n e))
        either false = refl
    go (inr e) ih = ap (λ b. map (edge_to m) (cond b (h ∷ filter (λ h. has (numbers_without n ns) h.number) hs) (filter (λ h. has (numbers_without n ns) h.number) hs))) (has_left_other n h.number ns e) ∙ both (has ns h.number)
      where
        both : (b : Bool) → map (edge_to m) (cond b (h ∷ filter (λ h. has (numbers_without n ns) h.number) hs) (filter (λ h. has (numbers_without n ns) h.number) hs)) ≡ edges_without n (map (edge_to m) (cond b (h ∷ filter (λ h. has ns h.number) hs) (filter (λ h. has ns h.number) hs)))
        both true = ap (λ z. edge_to m h ∷ z) ih ∙ sym (keep n (edge_to m h) (map (edge_to m) (filter (λ h. has ns h.number) hs)) (or_from (eqb h.number n) (eqb m n) (ne_eqb h.number n e) (ne_eqb m n d)))
        both false = ih

edges_less : (n : ℕ) (ns : List ℕ) (links : List Links) → edges_among (numbers_without n ns) (links_without n links) ≡ edges_without n (edges_among ns links)
edges_less n ns [] = refl
edges_less n ns (r ∷ rs) = go (cases_eq r.number n) (edges_less n ns rs)
  where
    go : (r.number ≡ n) ⊎ (r.number ≡ n → ⊥) → edges_among (numbers_without n ns) (links_without n rs) ≡ edges_without n (edges_among ns rs) → edges_among (numbers_without n ns) (cond (eqb r.number n) (links_without n rs) (r ∷ links_without n rs)) ≡ edges_without n (record_edges ns r ++ edges_among ns rs)
    go (inl e) ih =
        ap (λ b. edges_among (numbers_without n ns) (cond b (links_without n rs) (r ∷ links_without n rs))) (eq-eqb r.number n e)
        ∙ (ih ∙ (ap (λ z. z ++ edges_without n (edges_among ns rs)) (sym (own_edges n r.number (filter (λ h. has ns h.number) (elders r)) e)) ∙ sym (without_append n (record_edges ns r) (edges_among ns rs))))
    go (inr e) ih =
        ap (λ b. edges_among (numbers_without n ns) (cond b (links_without n rs) (r ∷ links_without n rs))) (ne_eqb r.number n e)
        ∙ (ap (λ z. z ++ edges_among (numbers_without n ns) (links_without n rs)) (other_edges n r.number ns (elders r) e)
        ∙ (ap (λ z. edges_without n (record_edges ns r) ++ z) ih ∙ sym (without_append n (record_edges ns r) (edges_among ns rs))))

-- the record of n taken out
pub edges_drop : (n : ℕ) (links : List Links) → edges_of (links_without n links) ≡ edges_without n (edges_of links)
edges_drop n links = ap (λ z. edges_among z (links_without n links)) (numbers_left n links) ∙ edges_less n (numbers links) links

links_below : (n low : ℕ) (links : List Links) → n ≤ low → Rises low (numbers links) → links_without n links ≡ links
links_below n low [] l r = refl
links_below n low (x ∷ xs) l r = ap (λ b. cond b (links_without n xs) (x ∷ links_without n xs)) (ne_eqb x.number n (λ e. omega (arith, r.0))) ∙ ap (λ z. x ∷ z) (links_below n x.number xs (omega (arith, r.0)) r.1)

pub taken_out : (n low at : ℕ) (links : List Links) → at < length links → Rises low (numbers links) → number_at links at ≡ n → take at links ++ drop (suc at) links ≡ links_without n links
taken_out n low at [] l r e = absurd (omega arith)
taken_out n low zero (x ∷ xs) l r e = sym (ap (λ b. cond b (links_without n xs) (x ∷ links_without n xs)) (eq-eqb x.number n e) ∙ links_below n x.number xs (omega arith) r.1)
taken_out n low (suc at) (x ∷ xs) l r e =
    let up = rises_above x.number (numbers xs) at r.1 (omega (arith, length-map xs (λ r. r.number))) in
    ap (λ z. x ∷ z) (taken_out n x.number at xs (omega arith) r.1 e)
    ∙ sym (ap (λ b. cond b (links_without n xs) (x ∷ links_without n xs)) (ne_eqb x.number n (λ f. omega arith)))

pub all_without : (P : Links → Type 0) (n : ℕ) (links : List Links) → AllByRecursion P links → AllByRecursion P (links_without n links)
all_without P n [] a = tt
all_without P n (r ∷ rs) a = go (eqb r.number n) (all_without P n rs a.1)
  where
    go : (b : Bool) → AllByRecursion P (links_without n rs) → AllByRecursion P (cond b (links_without n rs) (r ∷ links_without n rs))
    go true x = x
    go false x = (a.0, x)

-- a record without elders has no edges
pub no_edges : (ns : List ℕ) (links : List Links) → AllByRecursion (λ r. r.count ≡ 0) links → edges_among ns links ≡ []
no_edges ns [] a = refl
no_edges ns (r ∷ rs) a = ap (λ k. map (edge_to r.number) (filter (λ h. has ns h.number) (take k r.elders)) ++ edges_among ns rs) a.0 ∙ no_edges ns rs a.1
