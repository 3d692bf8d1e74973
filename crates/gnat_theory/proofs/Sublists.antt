-- Parts of lists: what stands is a part of a tree's members, and dropping leaves a part of them. Assumes nothing.
use Rattle.std.proofs.Common.{◌≡◌, ℕ, Bool, true, false, cond, eqb, List, [], ◌∷◌, ◌++◌, sym, refl, subst, inl, inr}
use Rattle.std.specs.List.{AllByRecursion}
use Rattle.std.proofs.lemmas.Bool.{cond_both}
use Rattle.hits.specs.Samples.{Sample, Among}
use Rattle.hits.proofs.Among.{all_among}
use Rattle.index.specs.Meaning.{without}
use Rattle.gnat_theory.specs.Tree.{Tree, Parts, Pivot, sample_of, gathered_parts, if_standing, always, standing, members}
use Rattle.gnat_theory.specs.Tree.Tree.{leaf, branch}
use Rattle.gnat_theory.specs.Tree.Parts.{none, part}
use Rattle.gnat_theory.specs.Dropping.{marked_at, shrunk, shrunk_parts}
use Rattle.gnat_theory.specs.Shuffles.{Apart}
use Rattle.gnat_theory.proofs.Pruning.{others_right, Other}

-- some of the things of a list, in their order
pub data Sublist (X : Type 0) : List X → List X → Type 0 where
  ends : Sublist X [] []
  takes : (x : X) (xs ys : List X) → Sublist X xs ys → Sublist X (x ∷ xs) (x ∷ ys)
  skips : (x : X) (xs ys : List X) → Sublist X xs ys → Sublist X xs (x ∷ ys)

module _ {X : Type 0} where
  pub sub_same : (xs : List X) → Sublist X xs xs
  sub_same [] = ends
  sub_same (x ∷ xs) = takes x xs xs (sub_same xs)

  pub sub_append : (us vs xs ys : List X) → Sublist X xs ys → Sublist X us vs → Sublist X (xs ++ us) (ys ++ vs)
  sub_append us vs _ _ ends s = s
  sub_append us vs _ _ (takes x xs ys t) s = takes x (xs ++ us) (ys ++ vs) (sub_append us vs xs ys t s)
  sub_append us vs _ _ (skips x xs ys t) s = skips x (xs ++ us) (ys ++ vs) (sub_append us vs xs ys t s)

  pub all_sub : (P : X → Type 0) (xs ys : List X) → Sublist X xs ys → AllByRecursion P ys → AllByRecursion P xs
  all_sub P _ _ ends a = tt
  all_sub P _ _ (takes x xs ys t) a = (a.0, all_sub P xs ys t a.1)
  all_sub P _ _ (skips x xs ys t) a = all_sub P xs ys t a.1

  pub among_sub : (x : X) (xs ys : List X) → Sublist X xs ys → Among x xs → Among x ys
  among_sub x _ _ ends m = m
  among_sub x _ _ (takes y xs ys t) (inl e) = inl e
  among_sub x _ _ (takes y xs ys t) (inr m) = inr (among_sub x xs ys t m)
  among_sub x _ _ (skips y xs ys t) m = inr (among_sub x xs ys t m)

module _ {E : Type 0} where
  pub apart_sub : (xs ys : List (Sample E)) → Sublist (Sample E) xs ys → Apart ys → Apart xs
  apart_sub _ _ ends a = tt
  apart_sub _ _ (takes x xs ys t) a = (all_sub (λ y. x.number ≡ y.number → ⊥) xs ys t a.0, apart_sub xs ys t a.1)
  apart_sub _ _ (skips x xs ys t) a = apart_sub xs ys t a.1

  -- where numbers are apart, no sample is on both sides
  pub one_side : (s : Sample E) (xs ys : List (Sample E)) → Apart (xs ++ ys) → Among s xs → Among s ys → ⊥
  one_side s xs ys a m n = all_among (Other s.number) s ys (others_right s xs ys a m) n refl

  pub without_sub : (n : ℕ) (xs : List (Sample E)) → Sublist (Sample E) (without n xs) xs
  without_sub n [] = ends
  without_sub n (x ∷ xs) =
      cond_both (eqb x.number n) (without n xs) (x ∷ without n xs) (λ z. Sublist (Sample E) z (x ∷ xs)) (λ e. skips x (without n xs) xs (without_sub n xs)) (λ e. takes x (without n xs) xs (without_sub n xs))

  pub pivot_sub : (p : Pivot E) → Sublist (Sample E) (if_standing p) (always p)
  pivot_sub p = go p.marked
    where
      go : (m : Bool) → Sublist (Sample E) (cond m [] (sample_of p ∷ [])) (sample_of p ∷ [])
      go true = skips (sample_of p) [] [] ends
      go false = takes (sample_of p) [] [] ends

  -- what stands is a part of the members
  mutual
    pub standing_sub : (t : Tree E) → Sublist (Sample E) (standing t) (members t)
    standing_sub (leaf xs) = sub_same xs
    standing_sub (branch ps) = standing_parts_sub ps

    pub standing_parts_sub : (ps : Parts E) → Sublist (Sample E) (gathered_parts if_standing ps) (gathered_parts always ps)
    standing_parts_sub none = ends
    standing_parts_sub (part p column t rest) =
        sub_append (standing t ++ gathered_parts if_standing rest) (members t ++ gathered_parts always rest) (if_standing p) (always p) (pivot_sub p)
        (sub_append (gathered_parts if_standing rest) (gathered_parts always rest) (standing t) (members t) (standing_sub t) (standing_parts_sub rest))

  same_member : (n : ℕ) (p : Pivot E) → always (marked_at n p) ≡ always p
  same_member n p = cond_both (eqb p.number n) (record { number = p.number; element = p.element; marked = true }) p (λ z. always z ≡ always p) (λ e. refl) (λ e. refl)

  -- dropping leaves a part of the members
  mutual
    pub shrunk_sub : (n : ℕ) (t : Tree E) → Sublist (Sample E) (members (shrunk n t)) (members t)
    shrunk_sub n (leaf xs) = without_sub n xs
    shrunk_sub n (branch ps) = shrunk_parts_sub n ps

    shrunk_parts_sub : (n : ℕ) (ps : Parts E) → Sublist (Sample E) (gathered_parts always (shrunk_parts n ps)) (gathered_parts always ps)
    shrunk_parts_sub n none = ends
    shrunk_parts_sub n (part p column t rest) =
        sub_append (members (shrunk n t) ++ gathered_parts always (shrunk_parts n rest)) (members t ++ gathered_parts always rest) (always (marked_at n p)) (always p) (subst (λ z. Sublist (Sample E) z (always p)) (sym (same_member n p)) (sub_same (always p)))
        (sub_append (gathered_parts always (shrunk_parts n rest)) (gathered_parts always rest) (members (shrunk n t)) (members t) (shrunk_sub n t) (shrunk_parts_sub n rest))
