-- Rows show one tree from a node on, which lies in one list of rows: both are functions of the rows. Assumes nothing.
use Rattle.std.proofs.Common.{◌≡◌, ℕ, zero, suc, ◌<◌, ◌≤◌, List, [], ◌∷◌, ◌++◌, length, get_or, Some, None, Option, sym, refl, ap, ◌∙◌, subst, arith}
use Rattle.std.specs.Coded.{×_prop, Unit-prop}
use Rattle.std.specs.List.{slice_get, AllByRecursion, AllByRecursion-prop}
use Rattle.std.proofs.Props.{props}
use Rattle.hits.specs.Samples.{Sample}
use Rattle.gnat_theory.specs.Tree.{Tree, Parts, pivots}
use Rattle.gnat_theory.specs.Tree.Tree.{leaf, branch}
use Rattle.gnat_theory.specs.Tree.Parts.{none, part}
use Rattle.gnat_rows.specs.declared.Branch.{Branch as BranchRecord}
use Rattle.gnat_rows.specs.declared.Node.{Node}
use Rattle.gnat_rows.specs.declared.Node.TheVariants as node
use Rattle.gnat_rows.specs.declared.Row.{Row}
use Rattle.gnat_rows.specs.Lying.{Distinct}
use Rattle.gnat_rows.specs.Shows.{held, column, HoldsSamples, Shows, ShowsParts}
use Rattle.gnat_rows.specs.Trees.{sample_on, samples_at, part_on, parts_by, tree_of, rows_on, rows_by, rows_of, IsBelow, AreBelow, IsShown, height, height_parts}
use Rattle.gnat_rows.proofs.Changes.{nth_there}
use Rattle.gnat_rows.proofs.Showing.{holds_within}

module _ {E : Type 0} (rows : List (Row E)) where
  -- what rows show is so
  leaf_is_shown : (f : ℕ) (n : Node) (xs : List (Sample E)) (fs : List ℕ) → Shows rows n (leaf xs) fs → 0 < f → IsShown f rows n × (rows_of f rows n ≡ fs)
  leaf_is_shown zero n xs fs s l = absurd (omega arith)
  leaf_is_shown (suc f) n xs fs s l =
      (subst (IsShown (suc f) rows) (sym s.1) (s.2, s.3, subst (AllByRecursion (λ i. i < length rows)) (sym s.4) (holds_within rows fs xs s.5)), ap (rows_of (suc f) rows) s.1 ∙ s.4)

  branch_is_shown : (f : ℕ) (n : Node) (ps : Parts E) (fs : List ℕ) (s : Shows rows n (branch ps) fs) → suc (height_parts ps) < f
      → ((g : ℕ) → height_parts ps < g → AreBelow (IsShown g rows) rows s.0 (length (pivots ps)) 0 × (rows_by (rows_of g rows) rows s.0 (length (pivots ps)) 0 ≡ fs)) → IsShown f rows n × (rows_of f rows n ≡ fs)
  branch_is_shown zero n ps fs s l k = absurd (omega arith)
  branch_is_shown (suc f) n ps fs s l k =
      let parts = k f (omega arith) in
      (subst (IsShown (suc f) rows) (sym s.1) (s.3, subst (λ c. AreBelow (IsShown f rows) rows s.0 c 0) (sym s.2) parts.0), ap (rows_of (suc f) rows) s.1 ∙ (ap (λ c. rows_by (rows_of f rows) rows s.0 c 0) s.2 ∙ parts.1))

  mutual
    pub is_shown : (t : Tree E) (f : ℕ) (n : Node) (fs : List ℕ) → Shows rows n t fs → height t < f → IsShown f rows n × (rows_of f rows n ≡ fs)
    is_shown (leaf xs) f n fs s l = leaf_is_shown f n xs fs s (omega arith)
    is_shown (branch ps) f n fs s l = branch_is_shown f n ps fs s l (λ g h. are_shown ps g s.0 0 fs s.4 h)

    are_shown : (ps : Parts E) (f : ℕ) (b : BranchRecord) (j : ℕ) (fs : List ℕ) → ShowsParts rows b j ps fs → height_parts ps < f
        → AreBelow (IsShown f rows) rows b (length (pivots ps)) j × (rows_by (rows_of f rows) rows b (length (pivots ps)) j ≡ fs)
    are_shown none f b j fs s l = (tt, sym s)
    are_shown (part p col t rest) f b j fs s l =
        let r = s.0 in
        let i = get_or b.pivots j 0 in
        let below = is_shown t f r.node s.1 s.6 (omega arith) in
        let others = are_shown rest f b (suc j) s.2 s.7 (omega arith) in
        let them = rows_by (rows_of f rows) rows b (length (pivots rest)) (suc j) in (
          (subst (IsBelow (IsShown f rows)) (sym s.3) below.0, others.0),
          ap (λ o. rows_on (rows_of f rows) i o them) s.3 ∙ ((λ e. i ∷ (below.1 e ++ others.1 e)) ∙ sym s.8),
        )

  -- and what is so they show
  holds_all : (is : List ℕ) → AllByRecursion (λ i. i < length rows) is → HoldsSamples rows is (samples_at rows is)
  holds_all [] a = tt
  holds_all (i ∷ is) a =
      let r = nth_there rows i a.0 in
      subst (λ o. HoldsSamples rows (i ∷ is) (sample_on o (samples_at rows is))) (sym r.1) (r.0, r.1, refl, holds_all is a.1)

  module _ (f : ℕ) (each : (n : Node) → IsShown f rows n → Shows rows n (tree_of f rows n) (rows_of f rows n)) (b : BranchRecord) where
    pivots_counted : (m j : ℕ) → AreBelow (IsShown f rows) rows b m j → length (pivots (parts_by (tree_of f rows) rows b m j)) ≡ m
    pivots_counted zero j a = refl
    pivots_counted (suc m) j a = go (pivots_counted m (suc j) a.1) (slice_get rows (get_or b.pivots j 0)) a.0
      where
        go : length (pivots (parts_by (tree_of f rows) rows b m (suc j))) ≡ m → (o : Option (Row E)) → IsBelow (IsShown f rows) o → length (pivots (part_on (tree_of f rows) o (column b j) (parts_by (tree_of f rows) rows b m (suc j)))) ≡ suc m
        go e None h = absurd h
        go e (Some r) h = ap suc e

    parts_show : (m j : ℕ) → AreBelow (IsShown f rows) rows b m j → ShowsParts rows b j (parts_by (tree_of f rows) rows b m j) (rows_by (rows_of f rows) rows b m j)
    parts_show zero j a = refl
    parts_show (suc m) j a = go (parts_by (tree_of f rows) rows b m (suc j)) (rows_by (rows_of f rows) rows b m (suc j)) (parts_show m (suc j) a.1) (slice_get rows (get_or b.pivots j 0)) refl a.0
      where
        go : (others : Parts E) (them : List ℕ) → ShowsParts rows b (suc j) others them → (o : Option (Row E)) → slice_get rows (get_or b.pivots j 0) ≡ o → IsBelow (IsShown f rows) o
            → ShowsParts rows b j (part_on (tree_of f rows) o (column b j) others) (rows_on (rows_of f rows) (get_or b.pivots j 0) o them)
        go others them s None e h = absurd h
        go others them s (Some r) e h = (r, rows_of f rows r.node, them, e, refl, refl, each r.node h, s, refl)

  pub shows_whole : (f : ℕ) (n : Node) → IsShown f rows n → Shows rows n (tree_of f rows n) (rows_of f rows n)
  shows_whole zero n h = absurd h
  shows_whole (suc f) (node.Leaf l) h = (l, refl, h.0, h.1, refl, holds_all (held l) h.2)
  shows_whole (suc f) (node.Branch b) h = (b, refl, sym (pivots_counted f (λ n k. shows_whole f n k) b b.count 0 h.1), h.0, parts_show f (λ n k. shows_whole f n k) b b.count 0 h.1)

  -- it holds in one way only
  below_once : (P : Node → Type 0) → ((n : Node) → IsProp (P n)) → (o : Option (Row E)) → IsProp (IsBelow P o)
  below_once P each None = λ x y. absurd x
  below_once P each (Some r) = each r.node

  are_below_once : (P : Node → Type 0) → ((n : Node) → IsProp (P n)) → (b : BranchRecord) (m j : ℕ) → IsProp (AreBelow P rows b m j)
  are_below_once P each b zero j = Unit-prop
  are_below_once P each b (suc m) j = ×_prop (below_once P each (slice_get rows (get_or b.pivots j 0))) (are_below_once P each b m (suc j))

  pub is_shown_once : (f : ℕ) (n : Node) → IsProp (IsShown f rows n)
  is_shown_once zero n = λ x y. absurd x
  is_shown_once (suc f) (node.Leaf l) =
      let long : IsProp (length l.rows ≡ 32) = hlevel props in
      let few : IsProp (l.count ≤ 32) = hlevel props in
      let within : IsProp (AllByRecursion (λ i. i < length rows) (held l)) = AllByRecursion-prop (λ i. i < length rows) (λ i. hlevel props) (held l) in
      λ x y i. (long x.0 y.0 i, few x.1 y.1 i, within x.2 y.2 i)
  is_shown_once (suc f) (node.Branch b) = ×_prop (hlevel props) (are_below_once (IsShown f rows) (is_shown_once f) b b.count 0)

pub distinct_once : (is : List ℕ) → IsProp (Distinct is)
distinct_once [] = Unit-prop
distinct_once (i ∷ is) = ×_prop (AllByRecursion-prop (λ j. i ≡ j → ⊥) (λ j. hlevel props) is) (distinct_once is)
