-- How much is pending, read from the rows: it falls with every turn of the search. Assumes nothing.
use Rattle.std.proofs.Common.{◌≡◌, ℕ, zero, suc, ◌+◌, ◌≤◌, List, [], ◌∷◌, length, get_or, Some, None, Option, refl, ap, ◌∙◌, arith}
use Rattle.std.specs.List.{slice_get}
use Rattle.gnat_theory.specs.Tree.{Tree, Parts, pivots}
use Rattle.gnat_theory.specs.Tree.Tree.{leaf, branch}
use Rattle.gnat_theory.specs.Tree.Parts.{none, part}
use Rattle.gnat_theory.specs.Shapes.{pivot_count, part_count, weight}
use Rattle.gnat_rows.specs.declared.Branch.{Branch}
use Rattle.gnat_rows.specs.declared.Node.{Node}
use Rattle.gnat_rows.specs.declared.Node.TheVariants as node
use Rattle.gnat_rows.specs.declared.Row.{Row}
use Rattle.gnat_rows.specs.Shows.{Shows, ShowsParts}
use Rattle.gnat_search.specs.Nodes.{Waiting}

module _ {E : Type 0} (rows : List (Row E)) where
  -- a number of the node in a row
  abbrev in_row : (Node → ℕ) → Option (Row E) → ℕ
  in_row f None = 0
  in_row f (Some r) = f r.node

  -- one for each of n children from the j-th on, and what f says of it
  abbrev children : (Node → ℕ) → Branch → ℕ → ℕ → ℕ
  children f b j zero = 0
  children f b j (suc n) = suc (in_row f (slice_get rows (get_or b.pivots j 0))) + children f b (suc j) n

  abbrev one_deeper : (Node → ℕ) → Node → ℕ
  one_deeper f (node.Leaf l) = 0
  one_deeper f (node.Branch b) = children f b 0 b.count

  -- the pivots below a node, to this depth
  pub pivots_below : ℕ → Node → ℕ
  pivots_below zero = λ n. 0
  pivots_below (suc k) = λ n. one_deeper (pivots_below k) n

  mutual
    unfolding pivots_below

    pub below_is : (t : Tree E) (k : ℕ) (n : Node) (fs : List ℕ) → pivot_count t ≤ k → Shows rows n t fs → pivots_below k n ≡ pivot_count t
    below_is (leaf xs) zero n fs l s = refl
    below_is (leaf xs) (suc k) n fs l s = ap (one_deeper (pivots_below k)) s.1
    below_is (branch ps) zero n fs l s = omega arith
    below_is (branch ps) (suc k) n fs l s = ap (one_deeper (pivots_below k)) s.1 ∙ (ap (children (pivots_below k) s.0 0) s.2 ∙ children_are ps k s.0 0 fs l s.4)

    children_are : (ps : Parts E) (k : ℕ) (b : Branch) (j : ℕ) (fs : List ℕ) → part_count ps ≤ suc k → ShowsParts rows b j ps fs → children (pivots_below k) b j (length (pivots ps)) ≡ part_count ps
    children_are none k b j fs l s = refl
    children_are (part p col t rest) k b j fs l s =
        let here : in_row (pivots_below k) (slice_get rows (get_or b.pivots j 0)) ≡ pivot_count t = ap (in_row (pivots_below k)) s.3 ∙ below_is t k s.0.node s.1 (omega arith) s.6 in
        let others : children (pivots_below k) b (suc j) (length (pivots rest)) ≡ part_count rest = children_are rest k b (suc j) s.2 (omega arith) s.7 in
        omega arith

  abbrev waiting_below : ℕ → List ℕ → ℕ
  waiting_below k [] = 0
  waiting_below k (i ∷ is) = suc (in_row (pivots_below k) (slice_get rows i)) + waiting_below k is

  waiting_is : (k : ℕ) (is : List ℕ) (ts : List (Tree E)) → weight ts ≤ suc k → Waiting rows is ts → waiting_below k is ≡ weight ts
  waiting_is k [] [] l w = refl
  waiting_is k [] (t ∷ ts) l w = absurd w
  waiting_is k (i ∷ is) [] l w = absurd w
  waiting_is k (i ∷ is) (t ∷ ts) l w =
      let here : in_row (pivots_below k) (slice_get rows i) ≡ pivot_count t = ap (in_row (pivots_below k)) w.2 ∙ below_is t k w.0.node w.1 (omega arith) w.3 in
      let others : waiting_below k is ≡ weight ts = waiting_is k is ts (omega arith) w.4 in
      omega arith

  -- the rows that are pending, and the pivots below them
  pub pending_below : List ℕ → ℕ
  pending_below is = waiting_below 1024 is

  pub pending_is : (is : List ℕ) (ts : List (Tree E)) → weight ts ≤ 1025 → Waiting rows is ts → pending_below is ≡ weight ts
  unfolding pending_below
  pending_is is ts l w = waiting_is 1024 is ts (omega arith) w
