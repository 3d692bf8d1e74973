-- The way down to the node that holds a sample: to drop it there is to drop it from the root. Assumes nothing.
use Rattle.std.proofs.Common.{◌≡◌, ℕ, suc, ◌+◌, ◌≤◌, Bool, cond, List, [], ◌∷◌, get_or, Some, sym, ap, ◌∙◌, subst, arith}
use Rattle.std.specs.List.{slice_get}
use Rattle.hits.specs.Samples.{Among}
use Rattle.gnat_theory.specs.Tree.{Tree}
use Rattle.gnat_theory.specs.Dropping.{shrunk}
use Rattle.gnat_theory.specs.Shuffles.{Shuffle}
use Rattle.gnat_rows.specs.declared.Branch.{Branch as BranchRecord}
use Rattle.gnat_rows.specs.declared.Node.{Node}
use Rattle.gnat_rows.specs.declared.Node.TheVariants as node
use Rattle.gnat_rows.specs.declared.Row.{Row}
use Rattle.gnat_rows.specs.Rows.{with_node}
use Rattle.gnat_rows.specs.Shows.{Shows}
use Rattle.gnat_rows.specs.Trees.{height}
use Rattle.gnat_rows.proofs.Changes.{same_row}
use Rattle.gnat_rows.proofs.Trees.{shown_tree}
use Rattle.gnat_rows.proofs.Showing.{Child}
use Rattle.gnat_filing.specs.Dropping.{Droppable, Drops}
use Rattle.gnat_filing.specs.Seeking.{LiesUnder, IsFollowed, Sought, Seeks, ShowsBelow, NoHigher}
use Rattle.gnat_filing.proofs.Level.{child_lower, pivot_apart}
use Rattle.gnat_filing.proofs.Under.{put_after, as_it_was}
use Rattle.gnat_filing.proofs.Shrinking.{lies_absent, IsDropBranch, child_droppable, dropped_below}

-- the child of a branch that has the row
pub lies_under : {E : Type 0} (dist : E → E → ℕ) (degree : ℕ) (rows : List (Row E)) (n : Node) (at : ℕ) (t : Tree E) (fs : List ℕ) (own : Row E) (d : Droppable dist degree rows n at t fs own) (b : BranchRecord) → n ≡ node.Branch b → (i : IsDropBranch dist degree rows n at t fs own d b) (j : ℕ) (c : Child rows b 0 j j i.parts fs) → Among at c.below
    → LiesUnder dist degree rows n (get_or b.pivots j 0) at t fs own
lies_under dist degree rows n at t fs own d b e i j c mine =
    record {
      tree = c.tree;
      lies = c.below;
      ready = record {
        row = c.row;
        there = c.there;
        ready = child_droppable dist degree rows n at t fs own d b i j c mine;
        apart = pivot_apart rows b [] i.parts fs i.ready j c;
      };
      lower = child_lower i.parts t c.tree j i.tree c.is_child;
      left = λ later freed given. subst (λ z. Drops rows later z freed at (shrunk own.number t) fs) (sym e) (dropped_below dist degree rows n at t fs own d b i j c mine later freed given);
    }

module _ {E : Type 0} (dist : E → E → ℕ) (rows : List (Row E)) (root at : ℕ) where
  pub seeks_itself : Seeks dist rows root root at
  seeks_itself degree t fs own d = record { tree = t; lies = fs; ready = d; left = λ later freed given. given }

  -- from the node in a row one branch further
  pub seeks_on : (pivot : ℕ) (row : Row E) (next : ℕ) → slice_get rows pivot ≡ Some row → Seeks dist rows root pivot at → IsFollowed dist rows row.node at (Some next) → Seeks dist rows root next at
  seeks_on pivot row next there so_far more degree t fs own d =
      let u = so_far degree t fs own d in
      let same = same_row rows pivot u.ready.row row u.ready.there there in
      let v = more degree u.tree u.lies own (subst (λ z. Droppable dist degree rows z.node at u.tree u.lies own) same u.ready.ready) in
      record {
        tree = v.tree;
        lies = v.lies;
        ready = v.ready;
        left = λ later freed given. u.left later freed (as_it_was (λ ls. Shuffle ℕ (cond freed (at ∷ ls) ls) u.lies) rows later pivot (shrunk own.number u.tree) u.lies row there u.ready.apart (v.left later freed given));
      }

-- how high the trees below two pivots are
module _ {E : Type 0} (rows : List (Row E)) where
  -- rows show one tree from a node on
  one_tree : (n : Node) (t u : Tree E) (fs gs : List ℕ) → Shows rows n t fs → Shows rows n u gs → t ≡ u
  one_tree n t u fs gs a b =
      let most = suc (height t + height u) in
      sym (shown_tree rows t most n fs a (omega arith)) ∙ shown_tree rows u most n gs b (omega arith)

  one_below : (pivot : ℕ) (t u : Tree E) (fs gs : List ℕ) → ShowsBelow rows pivot t fs → ShowsBelow rows pivot u gs → t ≡ u
  one_below pivot t u fs gs a b = one_tree b.0.node t u fs gs (subst (λ r. Shows rows r.node t fs) (same_row rows pivot a.0 b.0 a.1 b.1) a.2) b.2

  pub itself_no_higher : (pivot : ℕ) → NoHigher rows pivot pivot
  itself_no_higher pivot t u fs gs a b = omega (arith, ap height (one_below pivot t u fs gs a b))

  -- one branch further
  pub next_no_higher : (root pivot next : ℕ) → NoHigher rows root pivot → (v w : Tree E) (ls ms : List ℕ) → ShowsBelow rows pivot v ls → ShowsBelow rows next w ms → height w ≤ height v → NoHigher rows root next
  next_no_higher root pivot next so_far v w ls ms here there lower t u fs gs a b =
      omega (arith, so_far t v fs ls a here, lower, ap height (one_below next w u ms gs there b))

-- the node that holds the sample is dropped from, and put back
pub dropped_there : {E : Type 0} (dist : E → E → ℕ) (degree : ℕ) (rows rows₁ rows₂ : List (Row E)) (n kid : Node) (root pivot at : ℕ) (t : Tree E) (fs : List ℕ) (own : Row E) (freed : Bool) (u : LiesUnder dist degree rows n root at t fs own) (v : Sought dist degree rows root pivot at u.tree u.lies own)
    → Drops rows rows₁ kid freed at (shrunk own.number v.tree) v.lies → rows₂ ≡ with_node pivot kid rows₁ → Drops rows rows₂ n freed at (shrunk own.number t) fs
dropped_there dist degree rows rows₁ rows₂ n kid root pivot at t fs own freed u v made put =
    let put_back = put_after pivot kid (λ ls. Shuffle ℕ (cond freed (at ∷ ls) ls) v.lies) rows rows₁ rows₂ (shrunk own.number v.tree) v.lies v.ready.row v.ready.there v.ready.apart (λ ls s. lies_absent freed at ls v.lies s pivot v.ready.apart) made put in
    u.left rows₂ freed (v.left rows₂ freed put_back)
