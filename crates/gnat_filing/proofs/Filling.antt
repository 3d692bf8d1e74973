-- Filing below the branch of a split. Assumes nothing.
use Rattle.std.proofs.Common.{◌≡◌, ℕ, zero, suc, ◌+◌, ◌<◌, ◌≤◌, max, List, [], ◌∷◌, ◌++◌, length, get_or, take, drop, Some, sym, refl, ap, ◌∙◌, subst, arith}
use Rattle.std.specs.List.{slice_get}
use Rattle.std.proofs.ByRecursion.{All-get_or}
use Rattle.std.proofs.lemmas.List.{append_assoc, take_more, drop_more, take-append-drop, length-take}
use Rattle.hits.specs.Samples.{Sample}
use Rattle.gnat_theory.specs.Tree.{Tree, Parts, pivots}
use Rattle.gnat_theory.specs.Tree.Tree.{leaf, branch}
use Rattle.gnat_theory.specs.Tree.Parts.{none, part}
use Rattle.gnat_theory.specs.Filing.{nearest, distances, filed, filed_under, filed_all}
use Rattle.gnat_theory.specs.Shuffles.{Shuffle}
use Rattle.gnat_theory.specs.Shuffles.Shuffle.{after, in_turn}
use Rattle.gnat_theory.proofs.Filed.{leaves_more, filed_all_branching}
use Rattle.gnat_theory.proofs.Shuffling.{all_shuffle, same_order, shuffle_back, shuffle_front, shuffle_parts, shuffle_behind}
use Rattle.gnat_theory.proofs.Splits.{leaf_filed_leaves}
use Rattle.gnat_rows.specs.declared.Branch.{Branch as BranchRecord}
use Rattle.gnat_rows.specs.declared.Leaf.{Leaf as LeafRecord}
use Rattle.gnat_rows.specs.declared.Node.{Node}
use Rattle.gnat_rows.specs.declared.Node.TheVariants as node
use Rattle.gnat_rows.specs.declared.Row.{Row}
use Rattle.gnat_rows.specs.Shows.{sample_in, HoldsSamples, Shows}
use Rattle.gnat_rows.proofs.Apart.{distinct_left, distinct_shuffle}
use Rattle.gnat_rows.proofs.Only.{only_none, only_wider, only_then, holds_kept}
use Rattle.gnat_rows.proofs.Showing.{holds_within, holds_length}
use Rattle.gnat_rows.specs.Trees.{height, height_parts}
use Rattle.gnat_filing.specs.Filed.{Ready, LeavesTree}
use Rattle.gnat_filing.specs.Filling.{Lengthened, Fillable}
use Rattle.gnat_filing.proofs.Leaving.{is_leaf, leaf_longer}

-- the next row comes to the front of those filed, and the rest behind
next_front : (is : List ℕ) (i : ℕ) (fs : List ℕ) → i < length is → Shuffle ℕ (is ++ fs) ((get_or is i 0 ∷ (take i is ++ fs)) ++ drop (i + 1) is)
next_front is i fs l =
    let at = get_or is i 0 in
    let T = take i is in
    let D = drop (i + 1) is in
    let whole : is ++ fs ≡ T ++ (at ∷ (D ++ fs)) = ap (λ z. z ++ fs) (sym (take-append-drop i is) ∙ ap (λ z. T ++ z) (drop_more is i 0 l)) ∙ append_assoc T (at ∷ D) fs in
    let last : T ++ (fs ++ D) ≡ (T ++ fs) ++ D = sym (append_assoc T fs D) in
    subst (λ z. Shuffle ℕ z (at ∷ ((T ++ fs) ++ D))) (sym whole)
    (in_turn (T ++ (at ∷ (D ++ fs))) (at ∷ (T ++ (D ++ fs))) (at ∷ ((T ++ fs) ++ D)) (shuffle_front T at (D ++ fs))
    (subst (λ z. Shuffle ℕ (at ∷ (T ++ (D ++ fs))) (at ∷ z)) last (after at (T ++ (D ++ fs)) (T ++ (fs ++ D)) (shuffle_behind T (D ++ fs) (fs ++ D) (shuffle_parts D fs)))))

module _ {E : Type 0} where
  -- a tree with no branch is shown by a leaf
  pub flat_leaf : (rows : List (Row E)) (n : Node) (t : Tree E) (fs : List ℕ) → height t < 1 → Shows rows n t fs → (l : LeafRecord) × (n ≡ node.Leaf l)
  flat_leaf rows n (leaf xs) fs d s = (s.0, s.1)
  flat_leaf rows n (branch ps) fs d s = absurd (omega arith)

  -- a leaf with room takes one row more
  pub leaf_takes : (dist : E → E → ℕ) (degree : ℕ) (rows : List (Row E)) (n n' : Node) (at : ℕ) (t : Tree E) (fs : List ℕ) (row : Row E) → slice_get rows at ≡ Some row → Ready degree 31 rows n at t fs → height t < 1 → Lengthened n n' at → LeavesTree rows rows n' (filed dist leaf (sample_in row) t) (at ∷ fs)
  leaf_takes dist degree rows n n' at t fs row there r flat longer =
      let s = flat_leaf rows n t fs flat r.shows in
      let i = is_leaf degree 31 rows n at t fs row s.0 s.1 there r in
      let w = longer s.0 s.1 in
      let made = leaf_longer 31 rows s.0 at (i.samples ++ (sample_in row ∷ [])) i.ready w.0 (omega (arith, i.ready.count)) w.2 in
      subst (λ z. LeavesTree rows rows n' (filed dist leaf (sample_in row) z) (at ∷ fs)) (sym i.tree)
      (subst (λ z. LeavesTree rows rows z (leaf (i.samples ++ (sample_in row ∷ []))) (at ∷ fs)) (sym w.1)
      (subst (λ z. LeavesTree rows rows (node.Leaf w.0) (leaf (i.samples ++ (sample_in row ∷ []))) (at ∷ z)) i.lies made))

  -- one change of the tree after another
  pub tree_then : (rows rows₁ rows₂ : List (Row E)) (n₁ n₂ : Node) (t₁ t₂ : Tree E) (at : ℕ) (fs fs' : List ℕ) (made : LeavesTree rows rows₁ n₁ t₁ fs) → LeavesTree rows₁ rows₂ n₂ t₂ (at ∷ made.lies) → Shuffle ℕ (at ∷ fs) fs' → LeavesTree rows rows₂ n₂ t₂ fs'
  tree_then rows rows₁ rows₂ n₁ n₂ t₁ t₂ at fs fs' made next s =
      let whole : Shuffle ℕ (at ∷ made.lies) fs' = in_turn (at ∷ made.lies) (at ∷ fs) fs' (after at made.lies fs made.same_rows) s in
      record {
        lies = next.lies;
        shows = next.shows;
        same_rows = in_turn next.lies (at ∷ made.lies) fs' next.same_rows whole;
        only = only_then rows rows₁ rows₂ fs'
            (only_wider rows rows₁ fs fs' (λ i a. (all_shuffle (λ k. i ≡ k → ⊥) fs' (at ∷ fs) (shuffle_back (at ∷ fs) fs' s) a).1) made.only)
            (only_wider rows₁ rows₂ (at ∷ made.lies) fs' (λ i a. all_shuffle (λ k. i ≡ k → ⊥) fs' (at ∷ made.lies) (shuffle_back (at ∷ made.lies) fs' whole) a) next.only);
      }

  module _ (dist : E → E → ℕ) (s : Sample E) where
    mutual
      -- filing in leaves makes no tree deeper
      filed_height : (t : Tree E) → height (filed dist leaf s t) ≡ height t
      filed_height (leaf xs) = refl
      filed_height (branch ps) = ap suc (under_height (distances dist (pivots ps) s) (nearest (distances dist (pivots ps) s)) ps)

      under_height : (ds : List ℕ) (n : ℕ) (ps : Parts E) → height_parts (filed_under dist leaf s ds n ps) ≡ height_parts ps
      under_height ds n none = refl
      under_height ds zero (part p col t rest) = ap (λ z. max z (height_parts rest)) (filed_height t)
      under_height ds (suc n) (part p col t rest) = ap (max (height t)) (under_height ds n rest)

  module _ (dist : E → E → ℕ) where
    all_height : (xs : List (Sample E)) (t : Tree E) → height (filed_all dist leaf xs t) ≡ height t
    all_height [] t = refl
    all_height (x ∷ xs) t = all_height xs (filed dist leaf x t) ∙ filed_height dist x t

    filed_last : (xs : List (Sample E)) (x : Sample E) (t : Tree E) → filed_all dist leaf (xs ++ (x ∷ [])) t ≡ filed dist leaf x (filed_all dist leaf xs t)
    filed_last [] x t = refl
    filed_last (y ∷ xs) x t = filed_last xs x (filed dist leaf y t)

  holds_at : (rows : List (Row E)) (is : List ℕ) (xs : List (Sample E)) (k : ℕ) → k < length is → HoldsSamples rows is xs → (row : Row E) × (slice_get rows (get_or is k 0) ≡ Some row) × (take (k + 1) xs ≡ take k xs ++ (sample_in row ∷ []))
  holds_at rows [] xs k l h = absurd (omega arith)
  holds_at rows (i ∷ is) [] k l h = absurd h
  holds_at rows (i ∷ is) (x ∷ xs) zero l h = (h.0, h.1, ap (λ z. z ∷ []) (sym h.2))
  holds_at rows (i ∷ is) (x ∷ xs) (suc k) l h =
      let v = holds_at rows is xs k (omega arith) h.3 in
      let up : suc k + 1 ≡ suc (k + 1) = omega arith in
      (v.0, v.1, ap (λ z. take z (x ∷ xs)) up ∙ ap (λ z. x ∷ z) v.2)

  module _ (dist : E → E → ℕ) (degree : ℕ) (rows rows₁ : List (Row E)) (b b₁ : BranchRecord) (is : List ℕ) (t : Tree E) (fs : List ℕ) (xs : List (Sample E)) (f : Fillable degree rows b is t fs xs)
      (i : ℕ) (l : i < length is) (made : LeavesTree rows rows₁ (node.Branch b₁) (filed_all dist leaf (take i xs) t) (take i is ++ fs)) where
    pub fill_ready : Ready degree 31 rows₁ (node.Branch b₁) (get_or is i 0) (filed_all dist leaf (take i xs) t) made.lies
    fill_ready =
        let at = get_or is i 0 in
        let apart = distinct_left (at ∷ (take i is ++ fs)) (drop (i + 1) is) (distinct_shuffle (is ++ fs) ((at ∷ (take i is ++ fs)) ++ drop (i + 1) is) (next_front is i fs l) f.apart) in
        let back = shuffle_back made.lies (take i is ++ fs) made.same_rows in
        let long : length (take i xs) ≤ 31 = omega (arith, length-take i xs, holds_length rows is xs f.holds, f.few) in
        record {
          shows = made.shows;
          apart = (all_shuffle (λ k. at ≡ k → ⊥) (take i is ++ fs) made.lies back apart.0, distinct_shuffle (take i is ++ fs) made.lies back apart.1);
          within = All-get_or (λ k. k < length rows₁) is i 0 l (holds_within rows₁ is xs (holds_kept rows rows₁ (take i is ++ fs) is xs made.only f.holds));
          branching = filed_all_branching dist leaf degree (λ ys. tt) (take i xs) t f.branching;
          leaves = leaves_more (0 + length (take i xs)) 31 (omega arith) (filed_all dist leaf (take i xs) t) (leaf_filed_leaves dist 0 (take i xs) t f.leaves);
        }

    pub fill_flat : height (filed_all dist leaf (take i xs) t) < 2
    fill_flat = omega (arith, all_height dist (take i xs) t, f.flat)

    pub fill_more : (rows₂ : List (Row E)) (b₂ : BranchRecord) → ((row : Row E) → slice_get rows₁ (get_or is i 0) ≡ Some row → LeavesTree rows₁ rows₂ (node.Branch b₂) (filed dist leaf (sample_in row) (filed_all dist leaf (take i xs) t)) (get_or is i 0 ∷ made.lies))
        → LeavesTree rows rows₂ (node.Branch b₂) (filed_all dist leaf (take (i + 1) xs) t) (take (i + 1) is ++ fs)
    fill_more rows₂ b₂ next =
        let at = get_or is i 0 in
        let v = holds_at rows₁ is xs i l (holds_kept rows rows₁ (take i is ++ fs) is xs made.only f.holds) in
        let more : take (i + 1) is ++ fs ≡ take i is ++ (at ∷ fs) = ap (λ z. z ++ fs) (take_more is i 0 l) ∙ append_assoc (take i is) (at ∷ []) fs in
        let s = subst (Shuffle ℕ (at ∷ (take i is ++ fs))) (sym more) (shuffle_back (take i is ++ (at ∷ fs)) (at ∷ (take i is ++ fs)) (shuffle_front (take i is) at fs)) in
        subst (λ z. LeavesTree rows rows₂ (node.Branch b₂) z (take (i + 1) is ++ fs)) (sym (ap (λ z. filed_all dist leaf z t) v.2 ∙ filed_last dist (take i xs) (sample_in v.0) t))
        (tree_then rows rows₁ rows₂ (node.Branch b₁) (node.Branch b₂) (filed_all dist leaf (take i xs) t) (filed dist leaf (sample_in v.0) (filed_all dist leaf (take i xs) t)) at (take i is ++ fs) (take (i + 1) is ++ fs) made (next v.0 v.1) s)

  pub fill_none : (dist : E → E → ℕ) (degree : ℕ) (rows : List (Row E)) (b : BranchRecord) (is : List ℕ) (t : Tree E) (fs : List ℕ) (xs : List (Sample E)) → Fillable degree rows b is t fs xs → LeavesTree rows rows (node.Branch b) t fs
  fill_none dist degree rows b is t fs xs f = record { lies = fs; shows = f.shows; same_rows = same_order fs; only = only_none rows fs }
