-- The rows that show a tree give it back. Assumes nothing.
use Rattle.std.proofs.Common.{◌≡◌, ℕ, zero, suc, ◌<◌, ◌≤◌, List, [], ◌∷◌, length, refl, ap, ◌∙◌, arith}
use Rattle.hits.specs.Samples.{Sample}
use Rattle.gnat_theory.specs.Tree.{Tree, Parts, pivots}
use Rattle.gnat_theory.specs.Tree.Tree.{leaf, branch}
use Rattle.gnat_theory.specs.Tree.Parts.{none, part}
use Rattle.gnat_theory.specs.Shapes.{Branching, BranchingParts, pivot_count, part_count}
use Rattle.gnat_theory.proofs.Theorems.{rows_counted}
use Rattle.gnat_rows.specs.declared.Branch.{Branch as BranchRecord}
use Rattle.gnat_rows.specs.declared.Node.{Node}
use Rattle.gnat_rows.specs.declared.Row.{Row}
use Rattle.gnat_rows.specs.Lying.{Distinct}
use Rattle.gnat_rows.specs.Shows.{HoldsSamples, Shows, ShowsParts, column}
use Rattle.gnat_rows.specs.Trees.{sample_on, samples_at, part_on, parts_by, tree_of, height, height_parts}
use Rattle.gnat_rows.proofs.Apart.{distinct_few}
use Rattle.gnat_rows.proofs.Showing.{shows_within, shows_length}

module _ {E : Type 0} (rows : List (Row E)) where
  pub held_samples : (is : List ℕ) (xs : List (Sample E)) → HoldsSamples rows is xs → samples_at rows is ≡ xs
  held_samples [] [] h = refl
  held_samples [] (x ∷ xs) h = absurd h
  held_samples (i ∷ is) [] h = absurd h
  held_samples (i ∷ is) (x ∷ xs) h = ap (λ o. sample_on o (samples_at rows is)) h.1 ∙ (ap (λ z. z ∷ samples_at rows is) h.2 ∙ ap (λ z. x ∷ z) (held_samples is xs h.3))

  leaf_shown : (f : ℕ) (n : Node) (xs : List (Sample E)) (fs : List ℕ) → Shows rows n (leaf xs) fs → 0 < f → tree_of f rows n ≡ leaf xs
  leaf_shown zero n xs fs s l = absurd (omega arith)
  leaf_shown (suc f) n xs fs s l = ap (tree_of (suc f) rows) s.1 ∙ (ap (λ z. leaf (samples_at rows z)) s.4 ∙ ap leaf (held_samples fs xs s.5))

  branch_shown : (f : ℕ) (n : Node) (ps : Parts E) (fs : List ℕ) (s : Shows rows n (branch ps) fs) → suc (height_parts ps) < f → ((g : ℕ) → height_parts ps < g → parts_by (tree_of g rows) rows s.0 (length (pivots ps)) 0 ≡ ps) → tree_of f rows n ≡ branch ps
  branch_shown zero n ps fs s l k = absurd (omega arith)
  branch_shown (suc f) n ps fs s l k = ap (tree_of (suc f) rows) s.1 ∙ (ap (λ c. branch (parts_by (tree_of f rows) rows s.0 c 0)) s.2 ∙ ap branch (k f (omega arith)))

  mutual
    pub shown_tree : (t : Tree E) (f : ℕ) (n : Node) (fs : List ℕ) → Shows rows n t fs → height t < f → tree_of f rows n ≡ t
    shown_tree (leaf xs) f n fs s l = leaf_shown f n xs fs s l
    shown_tree (branch ps) f n fs s l = branch_shown f n ps fs s l (λ g h. shown_parts ps g s.0 0 fs s.4 h)

    shown_parts : (ps : Parts E) (f : ℕ) (b : BranchRecord) (j : ℕ) (fs : List ℕ) → ShowsParts rows b j ps fs → height_parts ps < f → parts_by (tree_of f rows) rows b (length (pivots ps)) j ≡ ps
    shown_parts none f b j fs s l = refl
    shown_parts (part p col t rest) f b j fs s l =
        let r = s.0 in
        let below = shown_tree t f r.node s.1 s.6 (omega arith) in
        let others = shown_parts rest f b (suc j) s.2 s.7 (omega arith) in
        ap (λ o. part_on (tree_of f rows) o (column b j) (parts_by (tree_of f rows) rows b (length (pivots rest)) (suc j))) s.3
        ∙ (ap (λ x. part x (column b j) (tree_of f rows r.node) (parts_by (tree_of f rows) rows b (length (pivots rest)) (suc j))) s.4
        ∙ (ap (λ x. part p x (tree_of f rows r.node) (parts_by (tree_of f rows) rows b (length (pivots rest)) (suc j))) s.5
        ∙ (ap (λ x. part p col x (parts_by (tree_of f rows) rows b (length (pivots rest)) (suc j))) below ∙ ap (part p col t) others)))

-- a tree has a pivot for every branch on the way down
module _ {E : Type 0} (degree : ℕ) (some : 1 ≤ degree) where
  mutual
    pub height_bound : (t : Tree E) → Branching degree t → height t ≤ pivot_count t
    height_bound (leaf xs) b = omega arith
    height_bound (branch ps) b = pivot_bound ps (omega (arith, b.0)) b.1

    pivot_bound : (ps : Parts E) → 1 ≤ length (pivots ps) → BranchingParts degree ps → suc (height_parts ps) ≤ part_count ps
    pivot_bound none l b = absurd (omega arith)
    pivot_bound (part p col t rest) l b = omega (arith, height_bound t b.0, parts_bound rest b.1)

    parts_bound : (ps : Parts E) → BranchingParts degree ps → height_parts ps ≤ part_count ps
    parts_bound none b = omega arith
    parts_bound (part p col t rest) b = omega (arith, height_bound t b.0, parts_bound rest b.1)

  -- so it is no higher than there are rows, if those that it lies in are apart
  pub height_within : (rows : List (Row E)) (n : Node) (t : Tree E) (fs : List ℕ) → Shows rows n t fs → Distinct fs → Branching degree t → height t ≤ length rows
  height_within rows n t fs s d b =
      omega (arith, height_bound t b, rows_counted (λ e f. 0) t, shows_length rows n t fs s, distinct_few (length rows) fs (shows_within rows n t fs s) d)
