-- Filing a sample: what the tree then holds, and that its ranges still hold. Assumes nothing.
use Rattle.std.proofs.Common.{◌≡◌, ℕ, zero, suc, ◌+◌, ◌<◌, ◌≤◌, min, max, ltb, ◌⊎◌, List, [], ◌∷◌, ◌++◌, length, sym, refl, ap, ◌∙◌, subst, inl, inr, ⊎_elim, arith, length-append}
use Rattle.std.proofs.lemmas.Bool.{cases_lt}
use Rattle.std.proofs.lemmas.List.{append-nil}
use Rattle.std.proofs.ByRecursion.{All-weaker}
use Rattle.hits.specs.Samples.{Sample}
use Rattle.gnat_theory.specs.Tree.{Tree, Parts, Pivot, Range, sample_of, pivots, gathered, gathered_parts, always, members}
use Rattle.gnat_theory.specs.Tree.Tree.{leaf, branch}
use Rattle.gnat_theory.specs.Tree.Parts.{none, part}
use Rattle.gnat_theory.specs.Filing.{nearest, widened, distances, filed, filed_under, filed_all}
use Rattle.gnat_theory.specs.Splitting.{points}
use Rattle.gnat_theory.specs.Ranges.{ChildFact, Throughout, ThroughoutParts, Holds, Fits, Attained, Tight, RangesFit, RangesTight, OwnNearest}
use Rattle.gnat_theory.specs.Shapes.{Branching, BranchingParts, Leaves, LeavesParts}
use Rattle.gnat_theory.specs.Shuffles.{Shuffle}
use Rattle.gnat_theory.specs.Shuffles.Shuffle.{after, swapped, in_turn}
use Rattle.gnat_theory.proofs.Firsts.{first_below}
use Rattle.gnat_theory.proofs.Shuffling.{same_order, shuffle_back, shuffle_behind, shuffle_before, shuffle_front, all_shuffle, among_shuffle}

nearest_below : (ds : List ℕ) → 0 < length ds → nearest ds < length ds
nearest_below ds l = first_below ltb ds l

min_either : (a b : ℕ) → (min a b ≡ a) ⊎ (min a b ≡ b)
min_either a b = ⊎_elim (λ l. inl (omega arith)) (λ l. inr (omega arith)) (cases_lt a b)

max_either : (a b : ℕ) → (max a b ≡ a) ⊎ (max a b ≡ b)
max_either a b = ⊎_elim (λ l. inr (omega arith)) (λ l. inl (omega arith)) (cases_lt a b)

module _ {E : Type 0} (dist : E → E → ℕ) where
  length_distances : (ps : List (Sample E)) (s : Sample E) → length (distances dist ps s) ≡ length ps
  length_distances [] s = refl
  length_distances (p ∷ ps) s = ap suc (length_distances ps s)

  -- A fact that filing carries on: the order of the samples does not matter to it, it stays with one more sample to which
  -- the child's pivot is the nearest, the ranges widened, and it is there at the start.
  pub record Carries (F : ChildFact E) : Type 0 where
    pub reordered : (all : List (Sample E)) (j : ℕ) (rs : List Range) (p : Sample E) (xs ys : List (Sample E)) → Shuffle (Sample E) xs ys → F all j rs p xs → F all j rs p ys
    pub one_more : (all : List (Sample E)) (j : ℕ) (rs : List Range) (p s : Sample E) (xs : List (Sample E)) → nearest (distances dist all s) ≡ j → F all j rs p xs → F all j (widened rs (distances dist all s)) p (s ∷ xs)
    pub alone : (all : List (Sample E)) (j : ℕ) (p : Sample E) → F all j (points dist all p) p []

  fits_shuffle : (ps : List (Sample E)) (rs : List Range) (xs ys : List (Sample E)) → Shuffle (Sample E) xs ys → Fits dist ps rs xs → Fits dist ps rs ys
  fits_shuffle [] [] xs ys s f = tt
  fits_shuffle [] (r ∷ rs) xs ys s f = f
  fits_shuffle (p ∷ ps) [] xs ys s f = f
  fits_shuffle (p ∷ ps) (r ∷ rs) xs ys s f = (all_shuffle (Holds dist p r) xs ys s f.0, fits_shuffle ps rs xs ys s f.1)

  fits_widened : (ps : List (Sample E)) (rs : List Range) (s : Sample E) (xs : List (Sample E)) → Fits dist ps rs xs → Fits dist ps (widened rs (distances dist ps s)) (s ∷ xs)
  fits_widened [] [] s xs f = tt
  fits_widened [] (r ∷ rs) s xs f = f
  fits_widened (p ∷ ps) [] s xs f = f
  fits_widened (p ∷ ps) (r ∷ rs) s xs f =
      let d = dist p.element s.element in
      let wide : Range = record { low = min r.low d; high = max r.high d } in
      (((omega arith, omega arith), All-weaker (Holds dist p r) (Holds dist p wide) (λ x h. (omega (arith, h.0), omega (arith, h.1))) xs f.0), fits_widened ps rs s xs f.1)

  fits_alone : (ps : List (Sample E)) (s : Sample E) → Fits dist ps (points dist ps s) (s ∷ [])
  fits_alone [] s = tt
  fits_alone (p ∷ ps) s = (((omega arith, omega arith), tt), fits_alone ps s)

  pub fit_carries : Carries (RangesFit dist)
  fit_carries = record {
    reordered = λ all j rs p xs ys s f. fits_shuffle all rs (p ∷ xs) (p ∷ ys) (after p xs ys s) f;
    one_more = λ all j rs p s xs e f. fits_shuffle all (widened rs (distances dist all s)) (s ∷ (p ∷ xs)) (p ∷ (s ∷ xs)) (swapped s p xs) (fits_widened all rs s (p ∷ xs) f);
    alone = λ all j p. fits_alone all p;
  }

  attained_shuffle : (p : Sample E) (d : ℕ) (xs ys : List (Sample E)) → Shuffle (Sample E) xs ys → Attained dist p d xs → Attained dist p d ys
  attained_shuffle p d xs ys s a = (a.0, among_shuffle a.0 xs ys s a.1, a.2)

  -- of two distances that are attained, the smaller and the greater are
  attained_either : (p : Sample E) (d e m : ℕ) (xs : List (Sample E)) → (m ≡ d) ⊎ (m ≡ e) → Attained dist p d xs → Attained dist p e xs → Attained dist p m xs
  attained_either p d e m xs (inl i) a b = (a.0, a.1, a.2 ∙ sym i)
  attained_either p d e m xs (inr i) a b = (b.0, b.1, b.2 ∙ sym i)

  attained_here : (p s : Sample E) (xs : List (Sample E)) → Attained dist p (dist p.element s.element) (s ∷ xs)
  attained_here p s xs = (s, inl refl, refl)

  attained_more : (p s : Sample E) (d : ℕ) (xs : List (Sample E)) → Attained dist p d xs → Attained dist p d (s ∷ xs)
  attained_more p s d xs a = (a.0, inr a.1, a.2)

  tight_shuffle : (ps : List (Sample E)) (rs : List Range) (xs ys : List (Sample E)) → Shuffle (Sample E) xs ys → Tight dist ps rs xs → Tight dist ps rs ys
  tight_shuffle [] [] xs ys s f = tt
  tight_shuffle [] (r ∷ rs) xs ys s f = f
  tight_shuffle (p ∷ ps) [] xs ys s f = f
  tight_shuffle (p ∷ ps) (r ∷ rs) xs ys s f = ((attained_shuffle p r.low xs ys s f.0.0, attained_shuffle p r.high xs ys s f.0.1), tight_shuffle ps rs xs ys s f.1)

  tight_widened : (ps : List (Sample E)) (rs : List Range) (s : Sample E) (xs : List (Sample E)) → Tight dist ps rs xs → Tight dist ps (widened rs (distances dist ps s)) (s ∷ xs)
  tight_widened [] [] s xs f = tt
  tight_widened [] (r ∷ rs) s xs f = f
  tight_widened (p ∷ ps) [] s xs f = f
  tight_widened (p ∷ ps) (r ∷ rs) s xs f =
      let d = dist p.element s.element in
      let here = attained_here p s xs in (
        (
          attained_either p r.low d (min r.low d) (s ∷ xs) (min_either r.low d) (attained_more p s r.low xs f.0.0) here,
          attained_either p r.high d (max r.high d) (s ∷ xs) (max_either r.high d) (attained_more p s r.high xs f.0.1) here,
        ),
        tight_widened ps rs s xs f.1,
      )

  tight_alone : (ps : List (Sample E)) (s : Sample E) → Tight dist ps (points dist ps s) (s ∷ [])
  tight_alone [] s = tt
  tight_alone (p ∷ ps) s = (((s, inl refl, refl), (s, inl refl, refl)), tight_alone ps s)

  pub tight_carries : Carries (RangesTight dist)
  tight_carries = record {
    reordered = λ all j rs p xs ys s f. tight_shuffle all rs (p ∷ xs) (p ∷ ys) (after p xs ys s) f;
    one_more = λ all j rs p s xs e f. tight_shuffle all (widened rs (distances dist all s)) (s ∷ (p ∷ xs)) (p ∷ (s ∷ xs)) (swapped s p xs) (tight_widened all rs s (p ∷ xs) f);
    alone = λ all j p. tight_alone all p;
  }

  pub nearest_carries : Carries (OwnNearest dist)
  nearest_carries = record {
    reordered = λ all j rs p xs ys s f. all_shuffle (λ x. nearest (distances dist all x) ≡ j) xs ys s f;
    one_more = λ all j rs p s xs e f. (e, f);
    alone = λ all j p. tt;
  }

  module _ (grown : List (Sample E) → Tree E) where
    pub filed_pivots : (s : Sample E) (ds : List ℕ) (n : ℕ) (ps : Parts E) → pivots (filed_under dist grown s ds n ps) ≡ pivots ps
    filed_pivots s ds n none = refl
    filed_pivots s ds zero (part p column t rest) = refl
    filed_pivots s ds (suc n) (part p column t rest) = ap (λ z. sample_of p ∷ z) (filed_pivots s ds n rest)

    -- every branch keeps its number of pivots
    module _ (degree : ℕ) (branching : (xs : List (Sample E)) → Branching degree (grown xs)) where
      mutual
        pub filed_branching : (s : Sample E) (t : Tree E) → Branching degree t → Branching degree (filed dist grown s t)
        filed_branching s (leaf xs) b = branching (xs ++ (s ∷ []))
        filed_branching s (branch ps) b =
            let ds = distances dist (pivots ps) s in
            (ap length (filed_pivots s ds (nearest ds) ps) ∙ b.0, filed_under_branching s ds (nearest ds) ps b.1)

        filed_under_branching : (s : Sample E) (ds : List ℕ) (n : ℕ) (ps : Parts E) → BranchingParts degree ps → BranchingParts degree (filed_under dist grown s ds n ps)
        filed_under_branching s ds n none b = tt
        filed_under_branching s ds zero (part p column t rest) b = (filed_branching s t b.0, b.1)
        filed_under_branching s ds (suc n) (part p column t rest) b = (b.0, filed_under_branching s ds n rest b.1)

    -- the samples are those before and the new one
    module _ (of_pivot : Pivot E → List (Sample E)) (same : (xs : List (Sample E)) → Shuffle (Sample E) (gathered of_pivot (grown xs)) xs) (degree : ℕ) (some : 1 ≤ degree) where
      mutual
        pub filed_gathered : (s : Sample E) (t : Tree E) → Branching degree t → Shuffle (Sample E) (gathered of_pivot (filed dist grown s t)) (s ∷ gathered of_pivot t)
        filed_gathered s (leaf xs) b =
            in_turn (gathered of_pivot (grown (xs ++ (s ∷ [])))) (xs ++ (s ∷ [])) (s ∷ xs) (same (xs ++ (s ∷ [])))
            (subst (λ z. Shuffle (Sample E) (xs ++ (s ∷ [])) (s ∷ z)) (append-nil xs) (shuffle_front xs s []))
        filed_gathered s (branch ps) b =
            let ds = distances dist (pivots ps) s in
            let l : length ds ≡ length (pivots ps) = length_distances (pivots ps) s in
            filed_under_gathered s ds (nearest ds) ps (omega (arith, nearest_below ds (omega (arith, b.0)))) b.1

        filed_under_gathered : (s : Sample E) (ds : List ℕ) (n : ℕ) (ps : Parts E) → n < length (pivots ps) → BranchingParts degree ps → Shuffle (Sample E) (gathered_parts of_pivot (filed_under dist grown s ds n ps)) (s ∷ gathered_parts of_pivot ps)
        filed_under_gathered s ds n none l b = absurd (omega arith)
        filed_under_gathered s ds zero (part p column t rest) l b =
            let o = of_pivot p in
            let x = gathered of_pivot t in
            let y = gathered of_pivot (filed dist grown s t) in
            let g = gathered_parts of_pivot rest in
            in_turn (o ++ (y ++ g)) (o ++ (s ∷ (x ++ g))) (s ∷ (o ++ (x ++ g)))
            (shuffle_behind o (y ++ g) (s ∷ (x ++ g)) (shuffle_before g y (s ∷ x) (filed_gathered s t b.0))) (shuffle_front o s (x ++ g))
        filed_under_gathered s ds (suc n) (part p column t rest) l b =
            let o = of_pivot p in
            let x = gathered of_pivot t in
            let g = gathered_parts of_pivot rest in
            let h = gathered_parts of_pivot (filed_under dist grown s ds n rest) in
            in_turn (o ++ (x ++ h)) (o ++ (s ∷ (x ++ g))) (s ∷ (o ++ (x ++ g)))
            (shuffle_behind o (x ++ h) (s ∷ (x ++ g))
            (in_turn (x ++ h) (x ++ (s ∷ g)) (s ∷ (x ++ g)) (shuffle_behind x h (s ∷ g) (filed_under_gathered s ds n rest (omega arith) b.1)) (shuffle_front x s g)))
            (shuffle_front o s (x ++ g))

    -- what filing carries on holds throughout
    module _ (F : ChildFact E) (carries : Carries F) (same : (xs : List (Sample E)) → Shuffle (Sample E) (members (grown xs)) xs) (throughout : (xs : List (Sample E)) → Throughout F (grown xs)) (degree : ℕ) (some : 1 ≤ degree) where
      mutual
        pub filed_throughout : (s : Sample E) (t : Tree E) → Branching degree t → Throughout F t → Throughout F (filed dist grown s t)
        filed_throughout s (leaf xs) b r = throughout (xs ++ (s ∷ []))
        filed_throughout s (branch ps) b r =
            let ds = distances dist (pivots ps) s in
            subst (λ z. ThroughoutParts F z 0 (filed_under dist grown s ds (nearest ds) ps)) (sym (filed_pivots s ds (nearest ds) ps)) (filed_under_throughout s (pivots ps) 0 (nearest ds) ps (omega arith) b.1 r)

        filed_under_throughout : (s : Sample E) (all : List (Sample E)) (j n : ℕ) (ps : Parts E) → nearest (distances dist all s) ≡ j + n → BranchingParts degree ps → ThroughoutParts F all j ps → ThroughoutParts F all j (filed_under dist grown s (distances dist all s) n ps)
        filed_under_throughout s all j n none e b r = tt
        filed_under_throughout s all j zero (part p column t rest) e b r =
            let x = members t in
            let y = members (filed dist grown s t) in (
              carries.reordered all j (widened column (distances dist all s)) (sample_of p) (s ∷ x) y (shuffle_back y (s ∷ x) (filed_gathered always same degree some s t b.0))
                  (carries.one_more all j column (sample_of p) s x (omega arith) r.0),
              filed_throughout s t b.0 r.1,
              r.2,
            )
        filed_under_throughout s all j (suc n) (part p column t rest) e b r = (r.0, r.1, filed_under_throughout s all (suc j) n rest (omega arith) b.1 r.2)

module _ {E : Type 0} (low high : ℕ) (more : low ≤ high) where
  mutual
    pub leaves_more : (t : Tree E) → Leaves low t → Leaves high t
    leaves_more (leaf xs) l = omega arith
    leaves_more (branch ps) l = leaves_more_parts ps l

    leaves_more_parts : (ps : Parts E) → LeavesParts low ps → LeavesParts high ps
    leaves_more_parts none l = tt
    leaves_more_parts (part p column t rest) l = (leaves_more t l.0, leaves_more_parts rest l.1)

  -- no leaf grows too large
  module _ (dist : E → E → ℕ) (grown : List (Sample E) → Tree E) (small : (xs : List (Sample E)) → length xs ≤ suc low → Leaves high (grown xs)) where
    mutual
      pub filed_leaves : (s : Sample E) (t : Tree E) → Leaves low t → Leaves high (filed dist grown s t)
      filed_leaves s (leaf xs) l = small (xs ++ (s ∷ [])) (omega (arith, length-append xs (s ∷ [])))
      filed_leaves s (branch ps) l = filed_under_leaves s (distances dist (pivots ps) s) (nearest (distances dist (pivots ps) s)) ps l

      filed_under_leaves : (s : Sample E) (ds : List ℕ) (n : ℕ) (ps : Parts E) → LeavesParts low ps → LeavesParts high (filed_under dist grown s ds n ps)
      filed_under_leaves s ds n none l = tt
      filed_under_leaves s ds zero (part p column t rest) l = (filed_leaves s t l.0, leaves_more_parts rest l.1)
      filed_under_leaves s ds (suc n) (part p column t rest) l = (leaves_more t l.0, filed_under_leaves s ds n rest l.1)

-- filing one by one
module _ {E : Type 0} (dist : E → E → ℕ) (grown : List (Sample E) → Tree E) (degree : ℕ) (branching : (xs : List (Sample E)) → Branching degree (grown xs)) where
  pub filed_all_branching : (xs : List (Sample E)) (t : Tree E) → Branching degree t → Branching degree (filed_all dist grown xs t)
  filed_all_branching [] t b = b
  filed_all_branching (s ∷ xs) t b = filed_all_branching xs (filed dist grown s t) (filed_branching dist grown degree branching s t b)

  module _ (some : 1 ≤ degree) (of_pivot : Pivot E → List (Sample E)) (same : (xs : List (Sample E)) → Shuffle (Sample E) (gathered of_pivot (grown xs)) xs) where
    pub filed_all_gathered : (xs : List (Sample E)) (t : Tree E) → Branching degree t → Shuffle (Sample E) (gathered of_pivot (filed_all dist grown xs t)) (xs ++ gathered of_pivot t)
    filed_all_gathered [] t b = same_order (gathered of_pivot t)
    filed_all_gathered (s ∷ xs) t b =
        let x = gathered of_pivot t in
        let y = gathered of_pivot (filed dist grown s t) in
        let z = gathered of_pivot (filed_all dist grown (s ∷ xs) t) in
        in_turn z (xs ++ y) (s ∷ (xs ++ x)) (filed_all_gathered xs (filed dist grown s t) (filed_branching dist grown degree branching s t b))
        (in_turn (xs ++ y) (xs ++ (s ∷ x)) (s ∷ (xs ++ x)) (shuffle_behind xs y (s ∷ x) (filed_gathered dist grown of_pivot same degree some s t b)) (shuffle_front xs s x))

  module _ (some : 1 ≤ degree) (F : ChildFact E) (carries : Carries dist F) (same : (xs : List (Sample E)) → Shuffle (Sample E) (members (grown xs)) xs) (throughout : (xs : List (Sample E)) → Throughout F (grown xs)) where
    pub filed_all_throughout : (xs : List (Sample E)) (t : Tree E) → Branching degree t → Throughout F t → Throughout F (filed_all dist grown xs t)
    filed_all_throughout [] t b r = r
    filed_all_throughout (s ∷ xs) t b r = filed_all_throughout xs (filed dist grown s t) (filed_branching dist grown degree branching s t b) (filed_throughout dist grown F carries same throughout degree some s t b r)
