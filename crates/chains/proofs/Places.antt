-- Places of rising numbers: the same chains by place and by number. Assumes nothing.
use Rattle.std.proofs.Common.{◌≡◌, ℕ, zero, suc, ◌<◌, cond, eqb, ◌⊎◌, List, [], ◌∷◌, map, length, get_or, sym, refl, ap, ◌∙◌, subst, inl, inr, ⊎_elim, arith, eq-eqb, ne_eqb}
use Rattle.std.specs.List.{AllByRecursion}
use Rattle.std.proofs.lemmas.Bool.{cases_eq}
use Rattle.hits.specs.Samples.{Among}
use Rattle.hits.proofs.Among.{all_among}
use Rattle.chains.specs.declared.Edge.{Edge}
use Rattle.chains.specs.Edges.{edge, Linked, renamed, Inside, Rises}
use Rattle.chains.proofs.Moving.{Renames}

-- the first place of a number
abbrev pub position : ℕ → List ℕ → ℕ
position n [] = 0
position n (x ∷ xs) = cond (eqb x n) 0 (suc (position n xs))

abbrev pub number_at : List ℕ → ℕ → ℕ
number_at ns i = get_or ns i 0

position_here : (n x : ℕ) (xs : List ℕ) → x ≡ n → position n (x ∷ xs) ≡ 0
position_here n x xs e = ap (λ b. cond b 0 (suc (position n xs))) (eq-eqb x n e)

position_there : (n x : ℕ) (xs : List ℕ) → (x ≡ n → ⊥) → position n (x ∷ xs) ≡ suc (position n xs)
position_there n x xs e = ap (λ b. cond b 0 (suc (position n xs))) (ne_eqb x n e)

pub rises_above : (low : ℕ) (ns : List ℕ) (i : ℕ) → Rises low ns → i < length ns → low < number_at ns i
rises_above low [] i r l = absurd (omega arith)
rises_above low (n ∷ ns) zero r l = r.0
rises_above low (n ∷ ns) (suc i) r l = omega (arith, r.0, rises_above n ns i r.1 (omega arith))

pub rises_at : (low : ℕ) (ns : List ℕ) (i j : ℕ) → Rises low ns → i < j → j < length ns → number_at ns i < number_at ns j
rises_at low [] i j r a b = absurd (omega arith)
rises_at low (n ∷ ns) zero zero r a b = absurd (omega arith)
rises_at low (n ∷ ns) zero (suc j) r a b = rises_above n ns j r.1 (omega arith)
rises_at low (n ∷ ns) (suc i) zero r a b = absurd (omega arith)
rises_at low (n ∷ ns) (suc i) (suc j) r a b = rises_at n ns i j r.1 (omega arith) (omega arith)

pub position_at : (low : ℕ) (ns : List ℕ) (i : ℕ) → Rises low ns → i < length ns → position (number_at ns i) ns ≡ i
position_at low [] i r l = absurd (omega arith)
position_at low (n ∷ ns) zero r l = position_here n n ns refl
position_at low (n ∷ ns) (suc i) r l =
    position_there (number_at ns i) n ns (λ e. omega (arith, rises_above n ns i r.1 (omega arith)))
    ∙ ap suc (position_at n ns i r.1 (omega arith))

pub position_in : (n : ℕ) (ns : List ℕ) → Among n ns → (position n ns < length ns) × (number_at ns (position n ns) ≡ n)
position_in n [] a = absurd a
position_in n (x ∷ xs) a = go (cases_eq x n) a (λ b. position_in n xs b)
  where
    go : (x ≡ n) ⊎ (x ≡ n → ⊥) → Among n (x ∷ xs) → (Among n xs → (position n xs < length xs) × (number_at xs (position n xs) ≡ n)) → (position n (x ∷ xs) < length (x ∷ xs)) × (number_at (x ∷ xs) (position n (x ∷ xs)) ≡ n)
    go (inl e) b ih = let p = position_here n x xs e in (omega arith, ap (number_at (x ∷ xs)) p ∙ e)
    go (inr e) (inl b) ih = absurd (e (sym b))
    go (inr e) (inr b) ih = let p = position_there n x xs e in let q = ih b in (omega (arith, q.0), ap (number_at (x ∷ xs)) p ∙ q.1)

pub among_at : (ns : List ℕ) (i : ℕ) → i < length ns → Among (number_at ns i) ns
among_at [] i l = absurd (omega arith)
among_at (n ∷ ns) zero l = inl refl
among_at (n ∷ ns) (suc i) l = inr (among_at ns i (omega arith))

pub among_map : {X Y : Type 0} (f : X → Y) (xs : List X) (x : X) → Among x xs → Among (f x) (map f xs)
among_map f [] x a = absurd a
among_map f (y ∷ ys) x (inl e) = inl (ap f e)
among_map f (y ∷ ys) x (inr a) = inr (among_map f ys x a)

pub among_unmap : {X Y : Type 0} (f : X → Y) (xs : List X) (y : Y) → Among y (map f xs) → (x : X) × Among x xs × (y ≡ f x)
among_unmap f [] y a = absurd a
among_unmap f (x ∷ xs) y (inl e) = (x, inl refl, e)
among_unmap f (x ∷ xs) y (inr a) = let r = among_unmap f xs y a in (r.0, inr r.1, r.2)

-- the edges by place, and the same by number
module _ (numbers : List ℕ) (rises : Rises 0 numbers) (edges : List Edge) (all : AllByRecursion (Inside (length numbers)) edges) (S : ℕ → Type 0) (stands_in : (n : ℕ) → S n → Among n numbers) (stands_out : (n : ℕ) → Among n numbers → S n) where
  pub one_way : (x y d : ℕ) → Among (edge x y d) (map (renamed (number_at numbers)) edges) → Among (edge (position x numbers) (position y numbers) d) edges
  one_way x y d a =
      let r = among_unmap (renamed (number_at numbers)) edges (edge x y d) a in
      let e = r.0 in
      let i = all_among (Inside (length numbers)) e edges all r.1 in
      let ex : position x numbers ≡ e.elder = ap (λ z. position z.elder numbers) r.2 ∙ position_at 0 numbers e.elder rises i.0 in
      let ey : position y numbers ≡ e.younger = ap (λ z. position z.younger numbers) r.2 ∙ position_at 0 numbers e.younger rises i.1 in
      let ed : d ≡ e.length = ap (λ z. z.length) r.2 in
      let same : edge (position x numbers) (position y numbers) d ≡ e = (λ k. edge (ex k) (ey k) (ed k)) in
      let P : Edge → Type 0 = λ z. Among z edges in
      subst P (sym same) r.1

  pub ends_in : (x y d : ℕ) → Among (edge x y d) (map (renamed (number_at numbers)) edges) → S x × S y
  ends_in x y d a =
      let r = among_unmap (renamed (number_at numbers)) edges (edge x y d) a in
      let e = r.0 in
      let i = all_among (Inside (length numbers)) e edges all r.1 in
      let P : ℕ → Type 0 = λ z. Among z numbers in (
        stands_out x (subst P (sym (ap (λ z. z.elder) r.2)) (among_at numbers e.elder i.0)),
        stands_out y (subst P (sym (ap (λ z. z.younger) r.2)) (among_at numbers e.younger i.1)),
      )

  abbrev pub places_renamed : Renames (λ i. i < length numbers) (Linked edges) S (Linked (map (renamed (number_at numbers)) edges))
  places_renamed = record {
    to = number_at numbers;
    fro = λ n. position n numbers;
    stands = λ n l. stands_out (number_at numbers n) (among_at numbers n l);
    stands' = λ n s. (position_in n numbers (stands_in n s)).0;
    step = λ x y d k. ⊎_elim (λ a. inl (among_map (renamed (number_at numbers)) edges (edge x y d) a)) (λ a. inr (among_map (renamed (number_at numbers)) edges (edge y x d) a)) k;
    step' = λ x y d k. ⊎_elim (λ a. inl (one_way x y d a)) (λ a. inr (one_way y x d a)) k;
    there = λ n l. position_at 0 numbers n rises l;
    back = λ n s. (position_in n numbers (stands_in n s)).1;
    rises = λ x y sx sy l. rises_at 0 numbers x y rises l sy;
    ends = λ x y d k. ⊎_elim (λ a. let i = all_among (Inside (length numbers)) (edge x y d) edges all a in (i.0, i.1)) (λ a. let i = all_among (Inside (length numbers)) (edge y x d) edges all a in (i.1, i.0)) k;
    ends' = λ x y d k. ⊎_elim (λ a. ends_in x y d a) (λ a. let p = ends_in y x d a in (p.1, p.0)) k;
  }
