-- Filing at one branch: the child under the nearest pivot is filed into, and put back. Assumes nothing.
use Rattle.std.proofs.Common.{◌≡◌, ℕ, zero, suc, ◌+◌, ◌<◌, ◌≤◌, List, [], ◌∷◌, ◌++◌, length, get_or, take, sym, refl, ap, ◌∙◌, subst, arith}
use Rattle.std.specs.List.{AllByRecursion}
use Rattle.std.proofs.ByRecursion.{All-weaker}
use Rattle.std.proofs.lemmas.Option.{slice_get_within}
use Rattle.hits.specs.Samples.{Sample}
use Rattle.hits.proofs.Among.{all_left, all_right}
use Rattle.gnat_theory.specs.Tree.{Tree, Parts, Pivot, Range, pivots}
use Rattle.gnat_theory.specs.Tree.Tree.{branch}
use Rattle.gnat_theory.specs.Tree.Parts.{none, part}
use Rattle.gnat_theory.specs.Filing.{nearest, widened, distances, filed, filed_under}
use Rattle.gnat_theory.specs.Shapes.{Branching, BranchingParts, Leaves, LeavesParts}
use Rattle.gnat_theory.specs.Shuffles.{Shuffle}
use Rattle.gnat_theory.proofs.Shuffling.{all_shuffle}
use Rattle.gnat_rows.specs.declared.Branch.{Branch as BranchRecord}
use Rattle.gnat_rows.specs.declared.Node.{Node}
use Rattle.gnat_rows.specs.declared.Node.TheVariants as node
use Rattle.gnat_rows.specs.declared.Row.{Row}
use Rattle.gnat_rows.specs.Shows.{pivot_in, column, Shows, ShowsParts}
use Rattle.gnat_rows.specs.Lying.{Absent, Distinct, OnlyIn}
use Rattle.gnat_rows.proofs.Apart.{distinct_left, distinct_across, distinct_shuffle, arranged_with, arranged_back}
use Rattle.gnat_rows.proofs.Changes.{same_row}
use Rattle.gnat_rows.proofs.Only.{only_wider}
use Rattle.gnat_rows.proofs.Showing.{Same, shows_branch, Child, ChildIs, child, of_child, replaced, Mends, all_measured}
use Rattle.gnat_rows.specs.Trees.{height, height_parts}
use Rattle.gnat_filing.specs.Filed.{Ready, LeavesIn, LeavesTree}
use Rattle.gnat_filing.specs.Under.{LeavesUnderIn, LeavesUnder}
use Rattle.gnat_filing.specs.Widening.{Pivoted, Measured, Approaches}

module _ {E : Type 0} (rows : List (Row E)) (b : BranchRecord) (extra : List ℕ) (ps : Parts E) (fs : List ℕ) where
  -- a branch of which the rows show the parts, and other rows
  pub record ReadyBranch : Type 0 where
    pub parts : ShowsParts rows b 0 ps fs
    pub count : b.count ≡ length (pivots ps)
    pub most : b.count ≤ 8
    pub some : 1 ≤ b.count
    pub apart : Distinct (extra ++ fs)

  module _ (r : ReadyBranch) where
    pub nth_child : (j : ℕ) → j < b.count → Child rows b 0 j j ps fs
    nth_child j l = child rows b 0 j j ps fs (omega arith) (omega (arith, r.count)) r.parts

    pub pivoted : Pivoted rows b
    pivoted = record { some = r.some; most = r.most; within = λ k l. let c = nth_child k l in slice_get_within rows (get_or b.pivots k 0) c.row c.there }

    pub distances_are : (dist : E → E → ℕ) (s : Sample E) (ds : List ℕ) → Measured dist rows b s.element ds → take b.count ds ≡ distances dist (pivots ps) s
    distances_are dist s ds m =
        ap (λ z. take z ds) r.count ∙ all_measured rows b dist s ds 0 ps fs (omega (arith, m.eight, r.most, r.count)) (λ j u v. m.each j (omega (arith, r.count))) r.parts

    module _ (j : ℕ) (c : Child rows b 0 j j ps fs) where
      pub front : List ℕ
      front = get_or b.pivots j 0 ∷ (extra ++ c.below)

      pub in_front : Shuffle ℕ (extra ++ fs) (front ++ (c.before ++ c.behind))
      unfolding front
      in_front = subst (λ z. Shuffle ℕ (extra ++ z) ((get_or b.pivots j 0 ∷ (extra ++ c.below)) ++ (c.before ++ c.behind))) (sym c.lies) (arranged_with extra c.before (get_or b.pivots j 0) c.below c.behind)

      pub front_apart : Distinct (front ++ (c.before ++ c.behind))
      front_apart = distinct_shuffle (extra ++ fs) (front ++ (c.before ++ c.behind)) in_front r.apart

      pub below_apart : Distinct (extra ++ c.below)
      unfolding front
      below_apart = distinct_left (extra ++ c.below) (c.before ++ c.behind) front_apart.1

      pub pivot_apart : Absent (get_or b.pivots j 0) (extra ++ c.below)
      unfolding front
      pivot_apart = all_left (λ i. get_or b.pivots j 0 ≡ i → ⊥) (extra ++ c.below) (c.before ++ c.behind) front_apart.0

      -- the child becomes another, in its own rows and the others
      module _ (Order : List ℕ → Type 0) (rows₂ : List (Row E)) (t' : Tree E) (given : LeavesUnderIn Order rows rows₂ (get_or b.pivots j 0) t' (extra ++ c.below)) where
        only_front : OnlyIn front rows rows₂
        unfolding front
        only_front = given.only

        same_pivot : pivot_in given.row' ≡ pivot_in c.row
        same_pivot = given.same_pivot ∙ ap pivot_in (same_row rows (get_or b.pivots j 0) given.row c.row given.there c.there)

        same_rest : AllByRecursion (Same rows rows₂) (c.before ++ c.behind)
        same_rest = All-weaker (λ i. Absent i front) (Same rows rows₂) (λ i a. only_front.others i a) (c.before ++ c.behind) (distinct_across front (c.before ++ c.behind) front_apart)

        pub level : (Order' : List ℕ → Type 0) → Order' (c.before ++ (get_or b.pivots j 0 ∷ (given.lies ++ c.behind))) → (b' : BranchRecord) (f : List Range → List Range) (g : Tree E → Tree E) → b'.count ≡ b.count → Mends b b' j f → t' ≡ g c.tree → length (pivots (replaced (λ p. p) f g j ps)) ≡ length (pivots ps)
            → LeavesIn Order' rows rows₂ (node.Branch b') (branch (replaced (λ p. p) f g j ps)) (extra ++ fs)
        level Order' order b' f g same_count mends is same_length =
            record {
              lies = c.before ++ (get_or b.pivots j 0 ∷ (given.lies ++ c.behind));
              shows = (
                b',
                refl,
                same_count ∙ (r.count ∙ sym same_length),
                omega (arith, r.most),
                c.put_back rows₂ b' (λ p. p) f g given.row' given.lies mends given.there' same_pivot (subst (λ z. Shows rows₂ given.row'.node z given.lies) is given.shows)
                    (all_left (Same rows rows₂) c.before c.behind same_rest) (all_right (Same rows rows₂) c.before c.behind same_rest),
              );
              same_rows = order;
              only = only_wider rows rows₂ front (extra ++ fs) (λ i a. all_left (λ k. i ≡ k → ⊥) front (c.before ++ c.behind) (all_shuffle (λ k. i ≡ k → ⊥) (extra ++ fs) (front ++ (c.before ++ c.behind)) in_front a)) only_front;
            }

module _ {E : Type 0} (dist : E → E → ℕ) (became : List (Sample E) → Tree E) (s : Sample E) (ds : List ℕ) where
  pub filed_is : (n : ℕ) (ps : Parts E) → filed_under dist became s ds n ps ≡ replaced (λ p. p) (λ col. widened col ds) (filed dist became s) n ps
  filed_is n none = refl
  filed_is zero (part p col t rest) = refl
  filed_is (suc n) (part p col t rest) = ap (part p col t) (filed_is n rest)

pub replaced_length : {E : Type 0} (h : Pivot E → Pivot E) (f : List Range → List Range) (g : Tree E → Tree E) (n : ℕ) (ps : Parts E) → length (pivots (replaced h f g n ps)) ≡ length (pivots ps)
replaced_length h f g n none = refl
replaced_length h f g zero (part p col t rest) = refl
replaced_length h f g (suc n) (part p col t rest) = ap suc (replaced_length h f g n rest)

-- a child is less deep than its branch
pub child_lower : {E : Type 0} (ps : Parts E) (t u : Tree E) (j : ℕ) → t ≡ branch ps → ChildIs j ps u → height u + 1 ≤ height t
child_lower ps t u j is child =
    let below = of_child (λ v. height v ≤ height_parts ps) (λ qs. height_parts qs ≤ height_parts ps) (λ p col v rest h. (omega arith, omega arith)) j ps u child (omega arith) in
    omega (arith, below, ap height is)

module _ {E : Type 0} (degree bucket : ℕ) (rows : List (Row E)) (n : Node) (at : ℕ) (t : Tree E) (fs : List ℕ) where
  pub record IsBranch (b : BranchRecord) : Type 0 where
    pub parts : Parts E
    pub tree : t ≡ branch parts
    pub ready : ReadyBranch rows b (at ∷ []) parts fs
    pub within : at < length rows
    pub branching : BranchingParts degree parts
    pub leaves : LeavesParts bucket parts

  pub is_branch : (b : BranchRecord) → 1 ≤ degree → n ≡ node.Branch b → Ready degree bucket rows n at t fs → IsBranch b
  is_branch b one e r =
      let s = shows_branch rows n b t fs e r.shows in
      let branching = subst (Branching degree) s.1 r.branching in
      record {
        parts = s.0;
        tree = s.1;
        ready = record { parts = s.4; count = s.2; most = s.3; some = omega (arith, s.2, branching.0); apart = r.apart };
        within = r.within;
        branching = branching.1;
        leaves = subst (Leaves bucket) s.1 r.leaves;
      }

  module _ (b : BranchRecord) (i : IsBranch b) where
    pub child_ready : (j : ℕ) (c : Child rows b 0 j j i.parts fs) → Ready degree bucket rows c.row.node at c.tree c.below
    child_ready j c =
        record {
          shows = c.shows;
          apart = below_apart rows b (at ∷ []) i.parts fs i.ready j c;
          within = i.within;
          branching = of_child (Branching degree) (BranchingParts degree) (λ p col u rest h. h) j i.parts c.tree c.is_child i.branching;
          leaves = of_child (Leaves bucket) (LeavesParts bucket) (λ p col u rest h. h) j i.parts c.tree c.is_child i.leaves;
        }

    -- at a branch the sample goes below the nearest pivot
    pub filed_below : (dist : E → E → ℕ) (became : List (Sample E) → Tree E) (rows₂ : List (Row E)) (b' : BranchRecord) (j : ℕ) (s : Sample E) (c : Child rows b 0 j j i.parts fs) → Approaches dist rows s.element b b' j
        → LeavesUnder rows rows₂ (get_or b.pivots j 0) (filed dist became s c.tree) (at ∷ c.below) → LeavesTree rows rows₂ (node.Branch b') (filed dist became s t) (at ∷ fs)
    filed_below dist became rows₂ b' j s c near below =
        let ps = i.parts in
        let measured = distances_are rows b (at ∷ []) ps fs i.ready dist s near.distances near.measured in
        let ds = distances dist (pivots ps) s in
        let f : List Range → List Range = λ col. widened col ds in
        let g = filed dist became s in
        let here : nearest ds ≡ j = ap nearest (sym measured) ∙ near.near in
        let mends : Mends b b' j f = record { pivots = near.widens.pivots; here = near.widens.wide ∙ ap (λ z. widened (column b j) z) measured; others = near.widens.others } in
        let same : filed dist became s t ≡ branch (replaced (λ p. p) f g j ps) = ap (filed dist became s) i.tree ∙ ap (λ z. branch (filed_under dist became s ds z ps)) here ∙ ap branch (filed_is dist became s ds j ps) in
        let pivot = get_or b.pivots j 0 in
        let order = subst (λ z. Shuffle ℕ (c.before ++ (pivot ∷ (below.lies ++ c.behind))) (at ∷ z)) (sym c.lies) (arranged_back at c.before pivot c.below below.lies c.behind below.same_rows) in
        subst (λ z. LeavesTree rows rows₂ (node.Branch b') z (at ∷ fs)) (sym same)
        (level rows b (at ∷ []) ps fs i.ready j c (λ lies. Shuffle ℕ lies (at ∷ c.below)) rows₂ (g c.tree) below (λ lies. Shuffle ℕ lies (at ∷ fs)) order b' f g near.widens.count mends refl (replaced_length (λ p. p) f g j ps))
