-- A sample in a leaf is dropped on the way down to its nearest pivots. Assumes nothing.
use Rattle.std.proofs.Common.{◌≡◌, ℕ, zero, suc, ◌+◌, ◌<◌, ◌≤◌, Bool, true, false, cond, eqb, ◌⊎◌, List, [], ◌∷◌, ◌++◌, sym, refl, ap, ◌∙◌, subst, inl, inr, ⊎_elim, arith}
use Rattle.std.specs.List.{AllByRecursion}
use Rattle.std.proofs.lemmas.Bool.{cond_both, eqb-true, ne_eqb, cond-false}
use Rattle.std.proofs.ByRecursion.{All-weaker}
use Rattle.hits.specs.Samples.{Sample, Among, Rising}
use Rattle.hits.proofs.Among.{all_left, all_right, all_among, among_left, among_right, among_append}
use Rattle.index.specs.Meaning.{without}
use Rattle.gnat_theory.specs.Tree.{Tree, Parts, Pivot, Range, sample_of, pivots, gathered, gathered_parts, if_standing, always, standing, members, in_leaves}
use Rattle.gnat_theory.specs.Tree.Tree.{leaf, branch}
use Rattle.gnat_theory.specs.Tree.Parts.{none, part}
use Rattle.gnat_theory.specs.Filing.{nearest, distances}
use Rattle.gnat_theory.specs.Dropping.{marked_at, shrunk, shrunk_parts, pruned, pruned_under}
use Rattle.gnat_theory.specs.Ranges.{ThroughoutParts, OwnNearest, Placed}
use Rattle.gnat_theory.specs.Shuffles.{Shuffle, Apart}
use Rattle.gnat_theory.specs.Shuffles.Shuffle.{nothing, after, swapped, in_turn}
use Rattle.gnat_theory.specs.Keeping.{PrunedIsShrunk}
use Rattle.gnat_theory.proofs.Shuffling.{all_shuffle}

module _ {E : Type 0} where
  pub part_equal : (column : List Range) (p q : Pivot E) (t u : Tree E) (ps qs : Parts E) → p ≡ q → t ≡ u → ps ≡ qs → part p column t ps ≡ part q column u qs
  part_equal column p q t u ps qs d e f = λ i. part (d i) column (e i) (f i)

  -- another number
  abbrev pub Other : ℕ → Sample E → Type 0
  Other n x = x.number ≡ n → ⊥

  pub apart_right : (xs ys : List (Sample E)) → Apart (xs ++ ys) → Apart ys
  apart_right [] ys a = a
  apart_right (x ∷ xs) ys a = apart_right xs ys a.1

  pub apart_left : (xs ys : List (Sample E)) → Apart (xs ++ ys) → Apart xs
  apart_left [] ys a = tt
  apart_left (x ∷ xs) ys a = (all_left (λ y. x.number ≡ y.number → ⊥) xs ys a.0, apart_left xs ys a.1)

  pub others_left : (s : Sample E) (xs ys : List (Sample E)) → Apart (xs ++ ys) → Among s ys → AllByRecursion (Other s.number) xs
  others_left s [] ys a m = tt
  others_left s (x ∷ xs) ys a m = (all_among (λ y. x.number ≡ y.number → ⊥) s (xs ++ ys) a.0 (among_right s xs ys m), others_left s xs ys a.1 m)

  pub others_right : (s : Sample E) (xs ys : List (Sample E)) → Apart (xs ++ ys) → Among s xs → AllByRecursion (Other s.number) ys
  others_right s [] ys a m = absurd m
  others_right s (x ∷ xs) ys a (inl e) =
      All-weaker (λ y. x.number ≡ y.number → ⊥) (Other s.number) (λ y h i. h (ap (λ z. z.number) (sym e) ∙ sym i)) ys (all_right (λ y. x.number ≡ y.number → ⊥) xs ys a.0)
  others_right s (x ∷ xs) ys a (inr m) = others_right s xs ys a.1 m

  pub apart_shuffle : (xs ys : List (Sample E)) → Shuffle (Sample E) xs ys → Apart xs → Apart ys
  apart_shuffle _ _ nothing a = tt
  apart_shuffle _ _ (after x xs ys s) a = (all_shuffle (λ y. x.number ≡ y.number → ⊥) xs ys s a.0, apart_shuffle xs ys s a.1)
  apart_shuffle _ _ (swapped x y xs) a = (((λ e. a.0.0 (sym e)), a.1.0), (a.0.1, a.1.1))
  apart_shuffle _ _ (in_turn xs ys zs s t) a = apart_shuffle ys zs t (apart_shuffle xs ys s a)

  rising_above : (low high : ℕ) (xs : List (Sample E)) → Rising low high xs → AllByRecursion (λ y. low < y.number) xs
  rising_above low high [] r = tt
  rising_above low high (x ∷ xs) r =
      let l = r.0 in
      (l, All-weaker (λ y. x.number < y.number) (λ y. low < y.number) (λ y m. omega arith) xs (rising_above x.number high xs r.2))

  -- rising numbers are apart
  pub rising_apart : (low high : ℕ) (xs : List (Sample E)) → Rising low high xs → Apart xs
  rising_apart low high [] r = tt
  rising_apart low high (x ∷ xs) r =
      (All-weaker (λ y. x.number < y.number) (λ y. x.number ≡ y.number → ⊥) (λ y l e. omega arith) xs (rising_above x.number high xs r.2), rising_apart x.number high xs r.2)

  pub without_none : (n : ℕ) (xs : List (Sample E)) → AllByRecursion (Other n) xs → without n xs ≡ xs
  without_none n [] a = refl
  without_none n (x ∷ xs) a = cond-false (eqb x.number n) (without n xs) (x ∷ without n xs) (ne_eqb x.number n a.0) ∙ ap (λ z. x ∷ z) (without_none n xs a.1)

  pub marked_none : (n : ℕ) (p : Pivot E) → AllByRecursion (Other n) (if_standing p) → marked_at n p ≡ p
  marked_none n p a =
      cond_both (eqb p.number n) (record { number = p.number; element = p.element; marked = true }) p (λ z. z ≡ p) (λ e. go (eqb-true p.number n e) p.marked refl) (λ e. refl)
    where
      go : p.number ≡ n → (m : Bool) → p.marked ≡ m → record { number = p.number; element = p.element; marked = true } ≡ p
      go e true f = λ i. record { number = p.number; element = p.element; marked = sym f i }
      go e false f = let b : AllByRecursion (Other n) (sample_of p ∷ []) = subst (λ m. AllByRecursion (Other n) (cond m [] (sample_of p ∷ []))) f a in absurd (b.0 e)

  -- where n does not stand, dropping it changes nothing
  mutual
    pub shrunk_none : (n : ℕ) (t : Tree E) → AllByRecursion (Other n) (standing t) → shrunk n t ≡ t
    shrunk_none n (leaf xs) a = ap leaf (without_none n xs a)
    shrunk_none n (branch ps) a = ap branch (shrunk_parts_none n ps a)

    pub shrunk_parts_none : (n : ℕ) (ps : Parts E) → AllByRecursion (Other n) (gathered_parts if_standing ps) → shrunk_parts n ps ≡ ps
    shrunk_parts_none n none a = refl
    shrunk_parts_none n (part p column t rest) a =
        let o = if_standing p in
        let x = standing t in
        let g = gathered_parts if_standing rest in
        let b = all_right (Other n) o (x ++ g) a in
        part_equal column (marked_at n p) p (shrunk n t) t (shrunk_parts n rest) rest
        (marked_none n p (all_left (Other n) o (x ++ g) a)) (shrunk_none n t (all_left (Other n) x g b)) (shrunk_parts_none n rest (all_right (Other n) x g b))

  -- what is in a leaf is in the tree
  module _ (of_pivot : Pivot E → List (Sample E)) (s : Sample E) where
    mutual
      leaves_among : (t : Tree E) → Among s (in_leaves t) → Among s (gathered of_pivot t)
      leaves_among (leaf xs) m = m
      leaves_among (branch ps) m = leaves_among_parts ps m

      leaves_among_parts : (ps : Parts E) → Among s (gathered_parts (λ p. []) ps) → Among s (gathered_parts of_pivot ps)
      leaves_among_parts none m = m
      leaves_among_parts (part p column t rest) m =
          among_right s (of_pivot p) (gathered of_pivot t ++ gathered_parts of_pivot rest)
          (⊎_elim (λ k. among_left s (gathered of_pivot t) (gathered_parts of_pivot rest) (leaves_among t k))
          (λ k. among_right s (gathered of_pivot t) (gathered_parts of_pivot rest) (leaves_among_parts rest k))
          (among_append s (in_leaves t) (gathered_parts (λ x. []) rest) m))

module _ {E : Type 0} (dist : E → E → ℕ) (s : Sample E) where
  -- a sample below the parts from place j on
  placed_from : (all : List (Sample E)) (j : ℕ) (ps : Parts E) → ThroughoutParts (OwnNearest dist) all j ps → Among s (gathered_parts (λ p. []) ps) → j ≤ nearest (distances dist all s)
  placed_from all j none h m = absurd m
  placed_from all j (part p column t rest) h m =
      ⊎_elim (λ k. let e : nearest (distances dist all s) ≡ j = all_among (λ x. nearest (distances dist all x) ≡ j) s (members t) h.0 (leaves_among always s t k) in omega arith)
      (λ k. omega (arith, placed_from all (suc j) rest h.2 k))
      (among_append s (in_leaves t) (gathered_parts (λ x. []) rest) m)

  mutual
    pruned_shrunk : (t : Tree E) → Placed dist t → Apart (standing t) → Among s (in_leaves t) → pruned dist s t ≡ shrunk s.number t
    pruned_shrunk (leaf xs) h a m = refl
    pruned_shrunk (branch ps) h a m = ap branch (pruned_parts_shrunk (pivots ps) 0 (nearest (distances dist (pivots ps) s)) ps (omega arith) h a m)

    pruned_parts_shrunk : (all : List (Sample E)) (j n : ℕ) (ps : Parts E) → nearest (distances dist all s) ≡ j + n → ThroughoutParts (OwnNearest dist) all j ps → Apart (gathered_parts if_standing ps) → Among s (gathered_parts (λ p. []) ps) → pruned_under dist s n ps ≡ shrunk_parts s.number ps
    pruned_parts_shrunk all j n none e h a m = refl
    pruned_parts_shrunk all j zero (part p column t rest) e h a m =
        let o = if_standing p in
        let x = standing t in
        let g = gathered_parts if_standing rest in
        let b = apart_right o (x ++ g) a in
        ⊎_elim
        (λ k. let here : Among s x = leaves_among if_standing s t k in
        part_equal column p (marked_at s.number p) (pruned dist s t) (shrunk s.number t) rest (shrunk_parts s.number rest)
        (sym (marked_none s.number p (others_left s o (x ++ g) a (among_left s x g here)))) (pruned_shrunk t h.1 (apart_left x g b) k) (sym (shrunk_parts_none s.number rest (others_right s x g b here))))
        (λ k. absurd (omega (arith, placed_from all (suc j) rest h.2 k)))
        (among_append s (in_leaves t) (gathered_parts (λ y. []) rest) m)
    pruned_parts_shrunk all j (suc n) (part p column t rest) e h a m =
        let o = if_standing p in
        let x = standing t in
        let g = gathered_parts if_standing rest in
        let b = apart_right o (x ++ g) a in
        ⊎_elim
        (λ k. let f : nearest (distances dist all s) ≡ j = all_among (λ y. nearest (distances dist all y) ≡ j) s (members t) h.0 (leaves_among always s t k) in absurd (omega arith))
        (λ k. let there : Among s g = leaves_among_parts if_standing s rest k in
        part_equal column p (marked_at s.number p) t (shrunk s.number t) (pruned_under dist s n rest) (shrunk_parts s.number rest)
        (sym (marked_none s.number p (others_left s o (x ++ g) a (among_right s x g there)))) (sym (shrunk_none s.number t (others_left s x g b there)))
        (pruned_parts_shrunk all (suc j) n rest (omega arith) h.2 (apart_right x g b) k))
        (among_append s (in_leaves t) (gathered_parts (λ y. []) rest) m)

pub pruned_is_shrunk : {E : Type 0} (dist : E → E → ℕ) → PrunedIsShrunk dist
pruned_is_shrunk dist s t h a m = pruned_shrunk dist s t h a m
