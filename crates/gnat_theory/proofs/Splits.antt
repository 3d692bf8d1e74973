-- Splitting a leaf: which pivots it takes, and what the branch then holds. Assumes nothing.
use Rattle.std.proofs.Common.{◌≡◌, ℕ, zero, suc, ◌+◌, ◌<◌, ◌≤◌, leb, List, [], ◌∷◌, ◌++◌, length, get_or, sym, refl, ap, ◌∙◌, subst, arith, length-append}
use Rattle.std.proofs.lemmas.Bool.{cond_both, leb-true, leb-false}
use Rattle.std.proofs.lemmas.List.{append_assoc}
use Rattle.hits.specs.Samples.{Sample}
use Rattle.gnat_theory.specs.Tree.{Tree, Pivot, fresh_pivot, pivots, gathered, gathered_parts}
use Rattle.gnat_theory.specs.Tree.Tree.{leaf, branch}
use Rattle.gnat_theory.specs.Choice.{first_place, removed}
use Rattle.gnat_theory.specs.Filing.{filed, filed_all}
use Rattle.gnat_theory.specs.Splitting.{farther, chosen, bare, split, kept_or_split}
use Rattle.gnat_theory.specs.Ranges.{ChildFact, Throughout, ThroughoutParts}
use Rattle.gnat_theory.specs.Shapes.{Branching, BranchingParts, Leaves, LeavesParts}
use Rattle.gnat_theory.specs.Shuffles.{Shuffle}
use Rattle.gnat_theory.specs.Shuffles.Shuffle.{in_turn}
use Rattle.gnat_theory.proofs.Firsts.{first_shuffle}
use Rattle.gnat_theory.proofs.Shuffling.{same_order, shuffle_behind, shuffle_parts, length_shuffle}
use Rattle.gnat_theory.proofs.Filed.{Carries, leaves_more, filed_leaves, filed_all_branching, filed_all_gathered, filed_all_throughout}

module _ {E : Type 0} (dist : E → E → ℕ) where
  -- the pivots and the samples left are all
  pub chosen_shuffle : (n : ℕ) (ps xs : List (Sample E)) → Shuffle (Sample E) ((chosen dist n ps xs).0 ++ (chosen dist n ps xs).1) (ps ++ xs)
  chosen_shuffle zero ps xs = same_order (ps ++ xs)
  chosen_shuffle (suc n) ps [] = same_order (ps ++ [])
  chosen_shuffle (suc n) ps (x ∷ xs) =
      let j = first_place (farther dist ps) (x ∷ xs) in
      let b = get_or (x ∷ xs) j x in
      let rest = removed j (x ∷ xs) in
      let c = chosen dist n (ps ++ (b ∷ [])) rest in
      in_turn (c.0 ++ c.1) ((ps ++ (b ∷ [])) ++ rest) (ps ++ (x ∷ xs)) (chosen_shuffle n (ps ++ (b ∷ [])) rest)
      (subst (λ z. Shuffle (Sample E) z (ps ++ (x ∷ xs))) (sym (append_assoc ps (b ∷ []) rest)) (shuffle_behind ps (b ∷ rest) (x ∷ xs) (first_shuffle (farther dist ps) x xs)))

  chosen_count : (n : ℕ) (ps xs : List (Sample E)) → n ≤ length xs → length (chosen dist n ps xs).0 ≡ n + length ps
  chosen_count zero ps xs l = omega arith
  chosen_count (suc n) ps [] l = absurd (omega arith)
  chosen_count (suc n) ps (x ∷ xs) l =
      let j = first_place (farther dist ps) (x ∷ xs) in
      let b = get_or (x ∷ xs) j x in
      let rest = removed j (x ∷ xs) in
      let k : length (b ∷ rest) ≡ length (x ∷ xs) = length_shuffle (b ∷ rest) (x ∷ xs) (first_shuffle (farther dist ps) x xs) in
      chosen_count n (ps ++ (b ∷ [])) rest (omega arith) ∙ omega (arith, length-append ps (b ∷ []))

  -- as many pivots as asked for
  pub pivot_number : (n : ℕ) (xs : List (Sample E)) → n ≤ length xs → length (chosen dist n [] xs).0 ≡ n
  pivot_number n xs l = omega (arith, chosen_count n [] xs l)

  pub others_number : (n : ℕ) (xs : List (Sample E)) → n ≤ length xs → n + length (chosen dist n [] xs).1 ≡ length xs
  others_number n xs l =
      let c = chosen dist n [] xs in
      omega (arith, pivot_number n xs l, length-append c.0 c.1, length_shuffle (c.0 ++ c.1) xs (chosen_shuffle n [] xs))

  pub bare_pivots : (ps qs : List (Sample E)) → pivots (bare dist ps qs) ≡ qs
  bare_pivots ps [] = refl
  bare_pivots ps (s ∷ qs) = ap (λ z. s ∷ z) (bare_pivots ps qs)

  pub bare_branching : (degree : ℕ) (ps qs : List (Sample E)) → BranchingParts degree (bare dist ps qs)
  bare_branching degree ps [] = tt
  bare_branching degree ps (s ∷ qs) = (tt, bare_branching degree ps qs)

  pub bare_leaves : (ps qs : List (Sample E)) → LeavesParts 0 (bare dist ps qs)
  bare_leaves ps [] = tt
  bare_leaves ps (s ∷ qs) = (omega arith, bare_leaves ps qs)

  bare_throughout : (F : ChildFact E) → Carries dist F → (j : ℕ) (ps qs : List (Sample E)) → ThroughoutParts F ps j (bare dist ps qs)
  bare_throughout F carries j ps [] = tt
  bare_throughout F carries j ps (s ∷ qs) = (carries.alone ps j s, tt, bare_throughout F carries (suc j) ps qs)

  pub leaf_filed_leaves : (most : ℕ) (xs : List (Sample E)) (t : Tree E) → Leaves most t → Leaves (most + length xs) (filed_all dist leaf xs t)
  leaf_filed_leaves most [] t l = subst (λ z. Leaves z t) (omega arith) l
  leaf_filed_leaves most (s ∷ xs) t l =
      subst (λ z. Leaves z (filed_all dist leaf xs (filed dist leaf s t))) (omega arith)
      (leaf_filed_leaves (suc most) xs (filed dist leaf s t) (filed_leaves most (suc most) (omega arith) dist leaf (λ ys m. m) s t l))

  -- a leaf with samples enough is split
  module _ (degree : ℕ) (some : 1 ≤ degree) (xs : List (Sample E)) (enough : degree ≤ length xs) where
    start_branching : Branching degree (branch (bare dist (chosen dist degree [] xs).0 (chosen dist degree [] xs).0))
    start_branching =
        let ps = (chosen dist degree [] xs).0 in
        (ap length (bare_pivots ps ps) ∙ pivot_number degree xs enough, bare_branching degree ps ps)

    pub split_branching : Branching degree (split dist degree xs)
    split_branching =
        let c = chosen dist degree [] xs in
        filed_all_branching dist leaf degree (λ ys. tt) c.1 (branch (bare dist c.0 c.0)) start_branching

    -- the leaves have no more than what is left
    pub split_leaves : Leaves (length (chosen dist degree [] xs).1) (split dist degree xs)
    split_leaves =
        let c = chosen dist degree [] xs in
        subst (λ z. Leaves z (split dist degree xs)) (omega arith) (leaf_filed_leaves 0 c.1 (branch (bare dist c.0 c.0)) (bare_leaves c.0 c.0))

    split_gathers : (of_pivot : Pivot E → List (Sample E)) → Shuffle (Sample E) (gathered of_pivot (split dist degree xs)) ((chosen dist degree [] xs).1 ++ gathered_parts of_pivot (bare dist (chosen dist degree [] xs).0 (chosen dist degree [] xs).0))
    split_gathers of_pivot =
        let c = chosen dist degree [] xs in
        filed_all_gathered dist leaf degree (λ ys. tt) some of_pivot (λ ys. same_order ys) c.1 (branch (bare dist c.0 c.0)) start_branching

    -- it holds the same samples
    module _ (of_pivot : Pivot E → List (Sample E)) (fresh : (s : Sample E) → of_pivot (fresh_pivot s) ≡ s ∷ []) where
      bare_gathered : (ps qs : List (Sample E)) → gathered_parts of_pivot (bare dist ps qs) ≡ qs
      bare_gathered ps [] = refl
      bare_gathered ps (s ∷ qs) = ap (λ z. z ++ gathered_parts of_pivot (bare dist ps qs)) (fresh s) ∙ ap (λ z. s ∷ z) (bare_gathered ps qs)

      pub split_gathered : Shuffle (Sample E) (gathered of_pivot (split dist degree xs)) xs
      split_gathered =
          let c = chosen dist degree [] xs in
          let g = gathered of_pivot (split dist degree xs) in
          in_turn g (c.1 ++ c.0) xs (subst (λ z. Shuffle (Sample E) g (c.1 ++ z)) (bare_gathered c.0 c.0) (split_gathers of_pivot))
          (in_turn (c.1 ++ c.0) (c.0 ++ c.1) xs (shuffle_parts c.1 c.0) (chosen_shuffle degree [] xs))

    bare_none : (ps qs : List (Sample E)) → gathered_parts (λ p. []) (bare dist ps qs) ≡ []
    bare_none ps [] = refl
    bare_none ps (s ∷ qs) = bare_none ps qs

    -- how many samples its leaves hold
    pub split_in_leaves : degree + length (gathered (λ p. []) (split dist degree xs)) ≡ length xs
    split_in_leaves =
        let c = chosen dist degree [] xs in
        let b = gathered_parts (λ p. []) (bare dist c.0 c.0) in
        let n : length b ≡ 0 = ap length (bare_none c.0 c.0) in
        omega (arith, others_number degree xs enough, length-append c.1 b, length_shuffle (gathered (λ p. []) (split dist degree xs)) (c.1 ++ b) (split_gathers (λ p. [])))

    pub split_throughout : (F : ChildFact E) → Carries dist F → Throughout F (split dist degree xs)
    split_throughout F carries =
        let c = chosen dist degree [] xs in
        filed_all_throughout dist leaf degree (λ ys. tt) some F carries (λ ys. same_order ys) (λ ys. tt) c.1 (branch (bare dist c.0 c.0)) start_branching
        (subst (λ z. ThroughoutParts F z 0 (bare dist c.0 c.0)) (sym (bare_pivots c.0 c.0)) (bare_throughout F carries 0 c.0 c.0))

-- a leaf with one more sample, split if it is too large
module _ {E : Type 0} (dist : E → E → ℕ) (degree bucket : ℕ) (some : 1 ≤ degree) (room : degree ≤ bucket) where
  -- what holds of a leaf and of each split of a leaf that is too large
  either : (P : Tree E → Type 0) (xs : List (Sample E)) → (length xs ≤ bucket → P (leaf xs)) → (bucket < length xs → P (split dist degree xs)) → P (kept_or_split dist degree bucket xs)
  either P xs f g = cond_both (leb (length xs) bucket) (leaf xs) (split dist degree xs) P (λ e. f (leb-true (length xs) bucket e)) (λ e. g (leb-false (length xs) bucket e))

  pub grown_branching : (xs : List (Sample E)) → Branching degree (kept_or_split dist degree bucket xs)
  grown_branching xs = either (Branching degree) xs (λ l. tt) (λ l. split_branching dist degree some xs (omega arith))

  pub grown_leaves : (xs : List (Sample E)) → length xs ≤ suc bucket → Leaves bucket (kept_or_split dist degree bucket xs)
  grown_leaves xs m = either (Leaves bucket) xs (λ l. l)
      (λ l. fewer (length (chosen dist degree [] xs).1) (omega (arith, others_number dist degree xs (omega arith))) (split_leaves dist degree some xs (omega arith)))
    where
      fewer : (n : ℕ) → n ≤ bucket → Leaves n (split dist degree xs) → Leaves bucket (split dist degree xs)
      fewer n k h = leaves_more n bucket k (split dist degree xs) h

  pub grown_gathered : (of_pivot : Pivot E → List (Sample E)) → ((s : Sample E) → of_pivot (fresh_pivot s) ≡ s ∷ []) → (xs : List (Sample E)) → Shuffle (Sample E) (gathered of_pivot (kept_or_split dist degree bucket xs)) xs
  grown_gathered of_pivot fresh xs = either (λ t. Shuffle (Sample E) (gathered of_pivot t) xs) xs (λ l. same_order xs) (λ l. split_gathered dist degree some xs (omega arith) of_pivot fresh)

  pub grown_throughout : (F : ChildFact E) → Carries dist F → (xs : List (Sample E)) → Throughout F (kept_or_split dist degree bucket xs)
  grown_throughout F carries xs = either (Throughout F) xs (λ l. tt) (λ l. split_throughout dist degree some xs (omega arith) F carries)
