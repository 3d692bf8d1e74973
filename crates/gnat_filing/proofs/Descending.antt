-- One branch further down: what is left to do below it is what was left to do. Assumes nothing.
use Rattle.std.proofs.Common.{◌≡◌, ℕ, suc, ◌<◌, ◌≤◌, List, [], ◌∷◌, ◌++◌, length, get_or, Some, None, Option, refl, ap, ◌∙◌, subst, arith}
use Rattle.std.specs.List.{slice_get}
use Rattle.hits.proofs.Among.{all_right}
use Rattle.gnat_theory.specs.Tree.{Tree}
use Rattle.gnat_theory.specs.Splitting.{kept_or_split, grown}
use Rattle.gnat_theory.specs.Shapes.{Branching}
use Rattle.gnat_theory.specs.Shuffles.{Shuffle}
use Rattle.gnat_rows.specs.declared.Branch.{Branch as BranchRecord}
use Rattle.gnat_rows.specs.declared.Node.{Node}
use Rattle.gnat_rows.specs.declared.Node.TheVariants as node
use Rattle.gnat_rows.specs.declared.Row.{Row}
use Rattle.gnat_rows.specs.Rows.{with_node}
use Rattle.gnat_rows.specs.Shows.{sample_in, Shows}
use Rattle.gnat_rows.specs.Lying.{Absent, Distinct}
use Rattle.gnat_rows.specs.Trees.{height, tree_of}
use Rattle.gnat_rows.proofs.Trees.{shown_tree, height_within}
use Rattle.gnat_rows.proofs.Changes.{length_changed}
use Rattle.gnat_rows.proofs.Showing.{Child, frame_parts}
use Rattle.gnat_filing.specs.Under.{ReadyUnder, Reached, Reaches, FilesUnder}
use Rattle.gnat_filing.specs.Widening.{Approaches}
use Rattle.gnat_filing.proofs.Level.{IsBranch, child_lower, nth_child, pivot_apart, child_ready, filed_below}
use Rattle.gnat_filing.proofs.Under.{over, put_others, put_same, put_before}

module _ {E : Type 0} (degree bucket : ℕ) (rows : List (Row E)) (n : Node) (at : ℕ) (t : Tree E) (fs : List ℕ) (b : BranchRecord) (i : IsBranch degree bucket rows n at t fs b) where
  -- the child under a pivot of the branch
  module _ (j : ℕ) (c : Child rows b 0 j j i.parts fs) where
    pub under_child : ReadyUnder degree bucket rows (get_or b.pivots j 0) at c.tree c.below
    under_child =
        record {
          row = c.row;
          there = c.there;
          ready = child_ready degree bucket rows n at t fs b i j c;
          apart = pivot_apart rows b (at ∷ []) i.parts fs i.ready j c;
        }

  -- a node is written to a row that is none of them
  module _ (pivot : ℕ) (m : Node) (rows₁ : List (Row E)) (apart : Absent pivot (at ∷ fs)) (put : rows₁ ≡ with_node pivot m rows) where
    pub still_branch : IsBranch degree bucket rows₁ n at t fs b
    still_branch =
        record {
          parts = i.parts;
          tree = i.tree;
          ready = record {
            parts = frame_parts rows rows₁ b b 0 i.parts fs refl (λ k l. refl) (put_same pivot m rows rows₁ put fs apart.1) i.ready.parts;
            count = i.ready.count;
            most = i.ready.most;
            some = i.ready.some;
            apart = i.ready.apart;
          };
          within = omega (arith, i.within, ap length put ∙ length_changed rows pivot (over pivot m));
          branching = i.branching;
          leaves = i.leaves;
        }

    pub still_near : (dist : E → E → ℕ) (e : E) (b' : BranchRecord) (j : ℕ) → Approaches dist rows e b b' j → Approaches dist rows₁ e b b' j
    still_near dist e b' j near =
        record {
          distances = near.distances;
          measured = record { each = λ k l. let h = near.measured.each k l in (h.0, put_others pivot m rows rows₁ put (get_or b.pivots k 0) (off k l) ∙ h.1, h.2); eight = near.measured.eight };
          below = near.below;
          near = near.near;
          widens = near.widens;
        }
      where
        off : (k : ℕ) → k < b.count → pivot ≡ get_or b.pivots k 0 → ⊥
        off k l = let c = nth_child rows b (at ∷ []) i.parts fs i.ready k l in (all_right (λ z. pivot ≡ z → ⊥) c.before (get_or b.pivots k 0 ∷ (c.below ++ c.behind)) (subst (Absent pivot) c.lies apart.1)).0

-- the branch in a pivot's row is widened, and the sample goes on below its nearest pivot
module _ {E : Type 0} (dist : E → E → ℕ) (degree bucket : ℕ) (rows rows₁ : List (Row E)) (pivot at : ℕ) (t : Tree E) (fs : List ℕ) (own : Row E) (r : ReadyUnder degree bucket rows pivot at t fs) (here : slice_get rows at ≡ Some own)
    (b b' : BranchRecord) (i : IsBranch degree bucket rows r.row.node at t fs b) (j : ℕ) (near : Approaches dist rows own.element b b' j) (put : rows₁ ≡ with_node pivot (node.Branch b') rows) where
  abbrev i₁ : IsBranch degree bucket rows₁ r.row.node at t fs b
  i₁ = still_branch degree bucket rows r.row.node at t fs b i pivot (node.Branch b') rows₁ r.apart put

  abbrev child₁ : Child rows₁ b 0 j j i₁.parts fs
  child₁ = nth_child rows₁ b (at ∷ []) i₁.parts fs i₁.ready j near.below

  pub one_lower : Reached dist degree bucket 1 rows rows₁ pivot (get_or b.pivots j 0) at t fs own
  one_lower =
      record {
        tree = child₁.tree;
        lies = child₁.below;
        ready = under_child degree bucket rows₁ r.row.node at t fs b i₁ j child₁;
        there = put_others pivot (node.Branch b') rows rows₁ put at r.apart.0 ∙ here;
        lower = child_lower i₁.parts t child₁.tree j i₁.tree child₁.is_child;
        left = λ later below. put_before pivot (node.Branch b') (λ lies. Shuffle ℕ lies (at ∷ fs)) rows rows₁ later (grown dist degree bucket (sample_in own) t) (at ∷ fs) r.row r.there r.apart put
            (filed_below degree bucket rows₁ r.row.node at t fs b i₁ dist (kept_or_split dist degree bucket) later b' j (sample_in own) child₁
            (still_near degree bucket rows r.row.node at t fs b i pivot (node.Branch b') rows₁ r.apart put dist own.element b' j near) below);
      }

-- two ways, one after the other
module _ {E : Type 0} (dist : E → E → ℕ) (degree bucket : ℕ) (rows : List (Row E)) (pivot at : ℕ) where
  pub reaches_itself : Reaches dist degree bucket 0 rows rows pivot pivot at
  reaches_itself t fs row r there = record { tree = t; lies = fs; ready = r; there = there; lower = omega arith; left = λ later done. done }

  module _ (rows₁ : List (Row E)) (pivot₁ : ℕ) (so_far : Reaches dist degree bucket 0 rows rows₁ pivot pivot₁ at) where
    pub reaches_on : (rows₂ : List (Row E)) (pivot₂ : ℕ) → Reaches dist degree bucket 1 rows₁ rows₂ pivot₁ pivot₂ at → Reaches dist degree bucket 0 rows rows₂ pivot pivot₂ at
    reaches_on rows₂ pivot₂ more t fs row r there =
        let u = so_far t fs row r there in
        let v = more u.tree u.lies row u.ready u.there in
        record { tree = v.tree; lies = v.lies; ready = v.ready; there = v.there; lower = omega (arith, u.lower, v.lower); left = λ later done. u.left later (v.left later done) }

    -- what is left is done
    pub reaches_end : (rows₂ : List (Row E)) → FilesUnder dist degree bucket rows₁ rows₂ pivot₁ at → FilesUnder dist degree bucket rows rows₂ pivot at
    reaches_end rows₂ done t fs row r there =
        let u = so_far t fs row r there in
        u.left rows₂ (done u.tree u.lies row u.ready u.there)

-- how many branches deep the tree is that the node in a row shows: never more than there are rows
module _ {E : Type 0} (rows : List (Row E)) where
  abbrev levels_on : Option (Row E) → ℕ
  levels_on None = 0
  levels_on (Some r) = height (tree_of (suc (length rows)) rows r.node)

  unfoldable pub levels_below : ℕ → ℕ
  levels_below i = levels_on (slice_get rows i)

  pub levels_are : (degree : ℕ) → 1 ≤ degree → (pivot : ℕ) (row : Row E) (t : Tree E) (fs : List ℕ) → slice_get rows pivot ≡ Some row → Shows rows row.node t fs → Distinct fs → Branching degree t → levels_below pivot ≡ height t
  unfolding levels_below
  levels_are degree some pivot row t fs there shows apart branching =
      ap levels_on there ∙ ap height (shown_tree rows t (suc (length rows)) row.node fs shows (omega (arith, height_within degree some rows row.node t fs shows apart branching)))
