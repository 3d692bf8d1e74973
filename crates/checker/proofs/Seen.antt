-- A test of each element of a list: what a loop knows of the elements seen so far, and what the whole list says. Assumes nothing.
use Rattle.std.proofs.Common.{◌≡◌, ℕ, zero, suc, ◌+◌, ◌<◌, ◌≤◌, Bool, true, false, not, ◌&&◌, ◌||◌, List, [], ◌∷◌, ◌++◌, map, reverse, length, get_or, take, sym, refl, ap, ◌∙◌, add-one, arith}
use mathlib.Core.Bool.{and_assoc, and_comm, and-true}
use mathlib.Core.List.{reverse-cons}
use Rattle.std.specs.List.{range_with_len, list_all, list_any}
use Rattle.std.proofs.lemmas.List.FromFn.{length-range_with_len, get_or-range_with_len, map-range_with_len_more}
use Rattle.std.proofs.lemmas.List.{map-id, take_more, take_all}
use Rattle.std.proofs.lemmas.Bool.{and_parts}

module _ {X : Type 0} (p : X → Bool) where
  every_append : (xs ys : List X) → list_all p (xs ++ ys) ≡ (list_all p xs && list_all p ys)
  every_append [] ys = refl
  every_append (x ∷ xs) ys = ap (λ t. p x && t) (every_append xs ys) ∙ sym (and_assoc (p x) (list_all p xs) (list_all p ys))

  every_push : (xs : List X) (x : X) → list_all p xs ≡ true → p x ≡ true → list_all p (xs ++ (x ∷ [])) ≡ true
  every_push xs x before here = every_append xs (x ∷ []) ∙ ap (λ t. t && (p x && true)) before ∙ and-true (p x) ∙ here

  pub every_reverse : (xs : List X) → list_all p (reverse xs) ≡ list_all p xs
  every_reverse [] = refl
  every_reverse (x ∷ xs) =
      ap (list_all p) (reverse-cons x xs)
      ∙ every_append (reverse xs) (x ∷ [])
      ∙ and_comm (list_all p (reverse xs)) (p x && true)
      ∙ ap (λ t. t && list_all p (reverse xs)) (and-true (p x))
      ∙ ap (λ t. p x && t) (every_reverse xs)

  pub every_map : {Y : Type 0} (f : Y → X) (ys : List Y) → list_all p (map f ys) ≡ list_all (λ y. p (f y)) ys
  every_map f [] = refl
  every_map f (y ∷ ys) = ap (λ t. p (f y) && t) (every_map f ys)

  -- some element meets a test unless every one fails it
  pub some_is : (xs : List X) → list_any p xs ≡ not (list_all (λ x. not (p x)) xs)
  some_is [] = refl
  some_is (x ∷ xs) = ap (λ t. p x || t) (some_is xs) ∙ turned (p x) (list_all (λ y. not (p y)) xs)
    where
      turned : (a b : Bool) → (a || not b) ≡ not (not a && b)
      turned true b = refl
      turned false b = refl

  -- a loop over a list: one more is seen, and it meets the test
  pub seen_more : (xs : List X) (i : ℕ) (d : X) → i < length xs → list_all p (take i xs) ≡ true → p (get_or xs i d) ≡ true → list_all p (take (i + 1) xs) ≡ true
  seen_more xs i d h before here = ap (list_all p) (take_more xs i d h) ∙ every_push (take i xs) (get_or xs i d) before here

  -- all are seen
  pub seen_all : (xs : List X) (i : ℕ) → length xs ≤ i → list_all p (take i xs) ≡ true → list_all p xs ≡ true
  seen_all xs i h before = ap (list_all p) (sym (take_all i xs h)) ∙ before

  -- one fails the test
  pub seen_fault : (xs : List X) (i : ℕ) (d : X) → i < length xs → p (get_or xs i d) ≡ false → list_all p xs ≡ false
  seen_fault [] i d h here = absurd (omega arith)
  seen_fault (x ∷ xs) zero d h here = ap (λ t. t && list_all p xs) here
  seen_fault (x ∷ xs) (suc i) d h here = ap (λ t. p x && t) (seen_fault xs i d (omega arith) here) ∙ and_comm (p x) false

  every_at : (xs : List X) (i : ℕ) (d : X) → i < length xs → list_all p xs ≡ true → p (get_or xs i d) ≡ true
  every_at [] i d h all = absurd (omega arith)
  every_at (x ∷ xs) zero d h all = (and_parts (p x) (list_all p xs) all).0
  every_at (x ∷ xs) (suc i) d h all = every_at xs i d (omega arith) (and_parts (p x) (list_all p xs) all).1

-- a test of the numbers from 0 on
module _ (p : ℕ → Bool) where
  -- a loop over numbers: one more is seen, and it meets the test
  pub below_more : (i : ℕ) → list_all p (range_with_len 0 i) ≡ true → p i ≡ true → list_all p (range_with_len 0 (i + 1)) ≡ true
  below_more i before here =
      ap (list_all p) (sym (map-id (range_with_len 0 (i + 1))) ∙ map-range_with_len_more (λ k. k) 0 i i (omega arith) ∙ ap (λ ks. ks ++ (i ∷ [])) (map-id (range_with_len 0 i)))
      ∙ every_push p (range_with_len 0 i) i before here

  pub below_each : (n i : ℕ) → list_all p (range_with_len 0 n) ≡ true → i < n → p i ≡ true
  below_each n i all h = ap p (omega (arith, get_or-range_with_len 0 n i 0 h)) ∙ every_at p (range_with_len 0 n) i 0 (omega (arith, length-range_with_len 0 n)) all

  pub below_every : (n : ℕ) → ((i : ℕ) → i < n → p i ≡ true) → list_all p (range_with_len 0 n) ≡ true
  below_every zero each = refl
  below_every (suc n) each =
      let next : list_all p (range_with_len 0 (n + 1)) ≡ true = below_more n (below_every n (λ i h. each i (omega arith))) (each n (omega arith)) in
      rw add-one at next

  -- all are seen
  pub below_all : (n i : ℕ) → n ≤ i → list_all p (range_with_len 0 i) ≡ true → list_all p (range_with_len 0 n) ≡ true
  below_all n i h before = below_every n (λ k l. below_each i k before (omega arith))

-- two tests that agree on each element
pub every_same : {X : Type 0} (p q : X → Bool) → ((x : X) → p x ≡ q x) → (xs : List X) → list_all p xs ≡ list_all q xs
every_same p q same [] = refl
every_same p q same (x ∷ xs) = ap (λ t. t && list_all p xs) (same x) ∙ ap (λ t. q x && t) (every_same p q same xs)

pub some_same : {X : Type 0} (p q : X → Bool) → ((x : X) → p x ≡ q x) → (xs : List X) → list_any p xs ≡ list_any q xs
some_same p q same [] = refl
some_same p q same (x ∷ xs) = ap (λ t. t || list_any p xs) (same x) ∙ ap (λ t. q x || t) (some_same p q same xs)

-- a weaker test
pub every_weaker : {X : Type 0} (p q : X → Bool) → ((x : X) → p x ≡ true → q x ≡ true) → (xs : List X) → list_all p xs ≡ true → list_all q xs ≡ true
every_weaker p q weaker [] h = refl
every_weaker p q weaker (x ∷ xs) h =
    let parts = and_parts (p x) (list_all p xs) h in
    ap (λ t. t && list_all q xs) (weaker x parts.0) ∙ every_weaker p q weaker xs parts.1

-- all are seen, and none meets the test
pub below_none : (p : ℕ → Bool) (n i : ℕ) → n ≤ i → list_all (λ k. not (p k)) (range_with_len 0 i) ≡ true → list_any p (range_with_len 0 n) ≡ false
below_none p n i h before = some_is p (range_with_len 0 n) ∙ ap not (below_all (λ k. not (p k)) n i h before)
