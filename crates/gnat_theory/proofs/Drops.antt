-- Dropping a sample: what the tree then holds, and that its ranges and shape stay. Assumes nothing.
use Rattle.std.proofs.Common.{◌≡◌, ℕ, suc, ◌≤◌, Bool, true, false, cond, eqb, List, [], ◌∷◌, ◌++◌, length, sym, refl, ap, ◌∙◌, subst, ap₂, arith}
use Rattle.std.specs.List.{AllByRecursion}
use Rattle.std.proofs.lemmas.Bool.{cond_both, cond-true, cond-false}
use Rattle.std.proofs.ByRecursion.{All-append}
use Rattle.hits.specs.Samples.{Sample}
use Rattle.hits.proofs.Among.{all_left, all_right}
use Rattle.index.specs.Meaning.{without}
use Rattle.index.proofs.Standing.{without_fewer}
use Rattle.gnat_theory.specs.Tree.{Tree, Parts, Pivot, Range, sample_of, pivots, gathered, gathered_parts, if_standing, always, standing, members, in_leaves}
use Rattle.gnat_theory.specs.Tree.Tree.{leaf, branch}
use Rattle.gnat_theory.specs.Tree.Parts.{none, part}
use Rattle.gnat_theory.specs.Dropping.{marked_at, shrunk, shrunk_parts}
use Rattle.gnat_theory.specs.Filing.{nearest, distances}
use Rattle.gnat_theory.specs.Ranges.{ChildFact, Throughout, ThroughoutParts, Holds, Fits, RangesFit, OwnNearest}
use Rattle.gnat_theory.specs.Shapes.{Branching, BranchingParts, Leaves, LeavesParts, pivot_count, part_count}
use Rattle.gnat_theory.specs.Shuffles.{Shuffle}
use Rattle.gnat_theory.specs.Shuffles.Shuffle.{nothing, after, swapped, in_turn}
use Rattle.gnat_theory.proofs.Shuffling.{same_order}

-- a fact that stays where some of the samples leave
abbrev pub OfFewer : {E : Type 0} → ChildFact E → Type 1
OfFewer {E} F = (all : List (Sample E)) (j : ℕ) (rs : List Range) (p : Sample E) (xs ys : List (Sample E)) → ((P : Sample E → Type 0) → AllByRecursion P xs → AllByRecursion P ys) → F all j rs p xs → F all j rs p ys

module _ {E : Type 0} (dist : E → E → ℕ) where
  fits_fewer : (ps : List (Sample E)) (rs : List Range) (p : Sample E) (xs ys : List (Sample E)) → ((P : Sample E → Type 0) → AllByRecursion P xs → AllByRecursion P ys) → Fits dist ps rs (p ∷ xs) → Fits dist ps rs (p ∷ ys)
  fits_fewer [] [] p xs ys g f = tt
  fits_fewer [] (r ∷ rs) p xs ys g f = f
  fits_fewer (x ∷ ps) [] p xs ys g f = f
  fits_fewer (x ∷ ps) (r ∷ rs) p xs ys g f = ((f.0.0, g (Holds dist x r) f.0.1), fits_fewer ps rs p xs ys g f.1)

  pub fit_fewer : OfFewer (RangesFit dist)
  fit_fewer all j rs p xs ys g f = fits_fewer all rs p xs ys g f

  pub nearest_fewer : OfFewer (OwnNearest dist)
  nearest_fewer all j rs p xs ys g f = g (λ s. nearest (distances dist all s) ≡ j) f

module _ {E : Type 0} (n : ℕ) where
  without_append : (xs ys : List (Sample E)) → without n (xs ++ ys) ≡ without n xs ++ without n ys
  without_append [] ys = refl
  without_append (x ∷ xs) ys = go (without_append xs ys) (eqb x.number n)
    where
      go : without n (xs ++ ys) ≡ without n xs ++ without n ys → (t : Bool) → cond t (without n (xs ++ ys)) (x ∷ without n (xs ++ ys)) ≡ cond t (without n xs) (x ∷ without n xs) ++ without n ys
      go ih true = ih
      go ih false = ap (λ z. x ∷ z) ih

  pub without_shuffle : (xs ys : List (Sample E)) → Shuffle (Sample E) xs ys → Shuffle (Sample E) (without n xs) (without n ys)
  without_shuffle _ _ nothing = nothing
  without_shuffle _ _ (after x xs ys s) = go (without_shuffle xs ys s) (eqb x.number n)
    where
      go : Shuffle (Sample E) (without n xs) (without n ys) → (t : Bool) → Shuffle (Sample E) (cond t (without n xs) (x ∷ without n xs)) (cond t (without n ys) (x ∷ without n ys))
      go ih true = ih
      go ih false = after x (without n xs) (without n ys) ih
  without_shuffle _ _ (swapped x y xs) = go (eqb x.number n) (eqb y.number n)
    where
      go : (t u : Bool) → Shuffle (Sample E) (cond t (cond u (without n xs) (y ∷ without n xs)) (x ∷ cond u (without n xs) (y ∷ without n xs))) (cond u (cond t (without n xs) (x ∷ without n xs)) (y ∷ cond t (without n xs) (x ∷ without n xs)))
      go true true = same_order (without n xs)
      go true false = same_order (y ∷ without n xs)
      go false true = same_order (x ∷ without n xs)
      go false false = swapped x y (without n xs)
  without_shuffle _ _ (in_turn xs ys zs s t) = in_turn (without n xs) (without n ys) (without n zs) (without_shuffle xs ys s) (without_shuffle ys zs t)

  without_all : (P : Sample E → Type 0) (xs : List (Sample E)) → AllByRecursion P xs → AllByRecursion P (without n xs)
  without_all P [] a = tt
  without_all P (x ∷ xs) a = cond_both (eqb x.number n) (without n xs) (x ∷ without n xs) (AllByRecursion P) (λ e. without_all P xs a.1) (λ e. (a.0, without_all P xs a.1))

  marked_sample : (p : Pivot E) → sample_of (marked_at n p) ≡ sample_of p
  marked_sample p = cond_both (eqb p.number n) (record { number = p.number; element = p.element; marked = true }) p (λ z. sample_of z ≡ sample_of p) (λ e. refl) (λ e. refl)

  marked_standing : (p : Pivot E) → if_standing (marked_at n p) ≡ without n (if_standing p)
  marked_standing p =
      cond_both (eqb p.number n) (record { number = p.number; element = p.element; marked = true }) p (λ z. if_standing z ≡ without n (if_standing p)) (λ e. gone e p.marked) (λ e. stays e p.marked)
    where
      gone : eqb p.number n ≡ true → (m : Bool) → [] ≡ without n (cond m [] (sample_of p ∷ []))
      gone e true = refl
      gone e false = sym (cond-true (eqb p.number n) [] (sample_of p ∷ []) e)

      stays : eqb p.number n ≡ false → (m : Bool) → cond m [] (sample_of p ∷ []) ≡ without n (cond m [] (sample_of p ∷ []))
      stays e true = refl
      stays e false = sym (cond-false (eqb p.number n) [] (sample_of p ∷ []) e)

  -- what is left are those without n, in their order
  module _ (of_pivot : Pivot E → List (Sample E)) (marked : (p : Pivot E) → of_pivot (marked_at n p) ≡ without n (of_pivot p)) where
    mutual
      pub shrunk_gathered : (t : Tree E) → gathered of_pivot (shrunk n t) ≡ without n (gathered of_pivot t)
      shrunk_gathered (leaf xs) = refl
      shrunk_gathered (branch ps) = shrunk_parts_gathered ps

      shrunk_parts_gathered : (ps : Parts E) → gathered_parts of_pivot (shrunk_parts n ps) ≡ without n (gathered_parts of_pivot ps)
      shrunk_parts_gathered none = refl
      shrunk_parts_gathered (part p column t rest) =
          let o = of_pivot p in
          let x = gathered of_pivot t in
          let g = gathered_parts of_pivot rest in
          ap₂ (λ y z. y ++ z) (marked p) (ap₂ (λ y z. y ++ z) (shrunk_gathered t) (shrunk_parts_gathered rest))
          ∙ sym (without_append o (x ++ g) ∙ ap (λ z. without n o ++ z) (without_append x g))

  pub shrunk_standing : (t : Tree E) → standing (shrunk n t) ≡ without n (standing t)
  shrunk_standing t = shrunk_gathered if_standing marked_standing t

  pub shrunk_in_leaves : (t : Tree E) → in_leaves (shrunk n t) ≡ without n (in_leaves t)
  shrunk_in_leaves t = shrunk_gathered (λ p. []) (λ p. refl) t

  mutual
    pub shrunk_count : (t : Tree E) → pivot_count (shrunk n t) ≡ pivot_count t
    shrunk_count (leaf xs) = refl
    shrunk_count (branch ps) = shrunk_parts_count ps

    shrunk_parts_count : (ps : Parts E) → part_count (shrunk_parts n ps) ≡ part_count ps
    shrunk_parts_count none = refl
    shrunk_parts_count (part p column t rest) = omega (arith, shrunk_count t, shrunk_parts_count rest)

  shrunk_pivots : (ps : Parts E) → pivots (shrunk_parts n ps) ≡ pivots ps
  shrunk_pivots none = refl
  shrunk_pivots (part p column t rest) = ap₂ (λ x y. x ∷ y) (marked_sample p) (shrunk_pivots rest)

  -- nothing new is in the tree
  mutual
    shrunk_all : (P : Sample E → Type 0) (t : Tree E) → AllByRecursion P (members t) → AllByRecursion P (members (shrunk n t))
    shrunk_all P (leaf xs) a = without_all P xs a
    shrunk_all P (branch ps) a = shrunk_parts_all P ps a

    shrunk_parts_all : (P : Sample E → Type 0) (ps : Parts E) → AllByRecursion P (gathered_parts always ps) → AllByRecursion P (gathered_parts always (shrunk_parts n ps))
    shrunk_parts_all P none a = tt
    shrunk_parts_all P (part p column t rest) a = (
      subst P (sym (marked_sample p)) a.0,
      All-append P (members (shrunk n t)) (gathered_parts always (shrunk_parts n rest))
          (shrunk_all P t (all_left P (members t) (gathered_parts always rest) a.1))
          (shrunk_parts_all P rest (all_right P (members t) (gathered_parts always rest) a.1)),
    )

  -- what holds of fewer samples too holds throughout
  module _ (F : ChildFact E) (fewer : OfFewer F) where
    mutual
      pub shrunk_throughout : (t : Tree E) → Throughout F t → Throughout F (shrunk n t)
      shrunk_throughout (leaf xs) r = tt
      shrunk_throughout (branch ps) r = subst (λ z. ThroughoutParts F z 0 (shrunk_parts n ps)) (sym (shrunk_pivots ps)) (shrunk_parts_throughout (pivots ps) 0 ps r)

      shrunk_parts_throughout : (all : List (Sample E)) (j : ℕ) (ps : Parts E) → ThroughoutParts F all j ps → ThroughoutParts F all j (shrunk_parts n ps)
      shrunk_parts_throughout all j none r = tt
      shrunk_parts_throughout all j (part p column t rest) r = (
        subst (λ z. F all j column z (members (shrunk n t))) (sym (marked_sample p)) (fewer all j column (sample_of p) (members t) (members (shrunk n t)) (λ P a. shrunk_all P t a) r.0),
        shrunk_throughout t r.1,
        shrunk_parts_throughout all (suc j) rest r.2,
      )

  mutual
    pub shrunk_branching : (degree : ℕ) (t : Tree E) → Branching degree t → Branching degree (shrunk n t)
    shrunk_branching degree (leaf xs) b = tt
    shrunk_branching degree (branch ps) b = (ap length (shrunk_pivots ps) ∙ b.0, shrunk_parts_branching degree ps b.1)

    shrunk_parts_branching : (degree : ℕ) (ps : Parts E) → BranchingParts degree ps → BranchingParts degree (shrunk_parts n ps)
    shrunk_parts_branching degree none b = tt
    shrunk_parts_branching degree (part p column t rest) b = (shrunk_branching degree t b.0, shrunk_parts_branching degree rest b.1)

  mutual
    pub shrunk_leaves : (most : ℕ) (t : Tree E) → Leaves most t → Leaves most (shrunk n t)
    shrunk_leaves most (leaf xs) l = omega (arith, without_fewer n xs)
    shrunk_leaves most (branch ps) l = shrunk_parts_leaves most ps l

    shrunk_parts_leaves : (most : ℕ) (ps : Parts E) → LeavesParts most ps → LeavesParts most (shrunk_parts n ps)
    shrunk_parts_leaves most none l = tt
    shrunk_parts_leaves most (part p column t rest) l = (shrunk_leaves most t l.0, shrunk_parts_leaves most rest l.1)
