-- The tree that rows show depends on its own rows alone; one child of a branch, and the branch with it changed. Assumes
-- nothing.
use Rattle.std.proofs.Common.{◌≡◌, ℕ, zero, suc, ◌+◌, ◌<◌, ◌≤◌, List, [], ◌∷◌, ◌++◌, length, get_or, take, drop, Some, sym, refl, ap, ◌∙◌, subst, inl, inr, ⊎_elim, arith, length-append}
use Rattle.std.specs.List.{slice_get, AllByRecursion}
use Rattle.std.proofs.lemmas.List.{append_assoc, drop_more}
use Rattle.std.proofs.ByRecursion.{All-append}
use Rattle.std.proofs.lemmas.Option.{slice_get_within}
use Rattle.hits.specs.Samples.{Sample, Among}
use Rattle.hits.proofs.Among.{all_left, all_right, among_left, among_right, among_append}
use Rattle.gnat_theory.specs.Tree.{Tree, Parts, Pivot, Range, pivots, members, gathered, gathered_parts, always}
use Rattle.gnat_theory.specs.Tree.Tree.{leaf, branch}
use Rattle.gnat_theory.specs.Tree.Parts.{none, part}
use Rattle.gnat_theory.specs.Filing.{distances}
use Rattle.gnat_rows.specs.declared.Leaf.{Leaf as LeafRecord}
use Rattle.gnat_rows.specs.declared.Branch.{Branch as BranchRecord}
use Rattle.gnat_rows.specs.declared.Node.{Node}
use Rattle.gnat_rows.specs.declared.Node.TheVariants as node
use Rattle.gnat_rows.specs.declared.Row.{Row}
use Rattle.gnat_rows.specs.Rows.{HasRow}
use Rattle.gnat_rows.specs.Shows.{sample_in, pivot_in, held, column, HoldsSamples, Shows, ShowsParts}
use Rattle.gnat_rows.proofs.Changes.{same_row}

module _ {E : Type 0} (rows rows' : List (Row E)) where
  -- the row is as it was
  abbrev pub Same : ℕ → Type 0
  Same i = slice_get rows' i ≡ slice_get rows i

  pub holds_frame : (fs : List ℕ) (xs : List (Sample E)) → AllByRecursion Same fs → HoldsSamples rows fs xs → HoldsSamples rows' fs xs
  holds_frame [] [] a h = tt
  holds_frame [] (x ∷ xs) a h = h
  holds_frame (i ∷ is) [] a h = h
  holds_frame (i ∷ is) (x ∷ xs) a h = (h.0, a.0 ∙ h.1, h.2, holds_frame is xs a.1 h.3)

  mutual
    -- the tree is as it was where its rows are
    pub frame : (n : Node) (t : Tree E) (fs : List ℕ) → AllByRecursion Same fs → Shows rows n t fs → Shows rows' n t fs
    frame n (leaf xs) fs a s = (s.0, s.1, s.2, s.3, s.4, holds_frame fs xs a s.5)
    frame n (branch ps) fs a s = (s.0, s.1, s.2, s.3, frame_parts s.0 s.0 0 ps fs refl (λ k l. refl) a s.4)

    -- and so are the parts from the j-th on, in a branch of the same pivots and, from there on, ranges
    pub frame_parts : (b b' : BranchRecord) (j : ℕ) (ps : Parts E) (fs : List ℕ) → b'.pivots ≡ b.pivots → ((k : ℕ) → j ≤ k → column b' k ≡ column b k) → AllByRecursion Same fs → ShowsParts rows b j ps fs → ShowsParts rows' b' j ps fs
    frame_parts b b' j none fs e c a s = s
    frame_parts b b' j (part p col t rest) fs e c a s =
        let i = get_or b.pivots j 0 in
        let below = s.1 in
        let others = s.2 in
        let a' : AllByRecursion Same (i ∷ (below ++ others)) = subst (AllByRecursion Same) s.8 a in (
          s.0,
          below,
          others,
          ap (λ z. slice_get rows' (get_or z j 0)) e ∙ (a'.0 ∙ s.3),
          s.4,
          c j (omega arith) ∙ s.5,
          frame s.0.node t below (all_left Same below others a'.1) s.6,
          frame_parts b b' (suc j) rest others e (λ k l. c k (omega arith)) (all_right Same below others a'.1) s.7,
          s.8 ∙ ap (λ z. get_or z j 0 ∷ (below ++ others)) (sym e),
        )

module _ {E : Type 0} (rows : List (Row E)) where
  pub shows_leaf : (n : Node) (l : LeafRecord) (t : Tree E) (fs : List ℕ) → n ≡ node.Leaf l → Shows rows n t fs → (xs : List (Sample E)) × (t ≡ leaf xs) × (length l.rows ≡ 32) × (l.count ≤ 32) × (held l ≡ fs) × HoldsSamples rows fs xs
  shows_leaf n l (leaf xs) fs e s = let same : s.0 ≡ l = cc in (xs, refl, ap (λ z. length z.rows) (sym same) ∙ s.2, subst (λ z. z.count ≤ 32) same s.3, ap held (sym same) ∙ s.4, s.5)
  shows_leaf n l (branch ps) fs e s = let z : ◌≡◌ {A = ℕ} 0 1 = (let q = s.1 in cc) in absurd (omega arith)

  pub shows_branch : (n : Node) (b : BranchRecord) (t : Tree E) (fs : List ℕ) → n ≡ node.Branch b → Shows rows n t fs → (ps : Parts E) × (t ≡ branch ps) × (b.count ≡ length (pivots ps)) × (b.count ≤ 8) × ShowsParts rows b 0 ps fs
  shows_branch n b (leaf xs) fs e s = let z : ◌≡◌ {A = ℕ} 0 1 = (let q = s.1 in cc) in absurd (omega arith)
  shows_branch n b (branch ps) fs e s = let same : s.0 ≡ b = (let q = s.1 in cc) in (ps, refl, ap (λ z. z.count) (sym same) ∙ s.2, subst (λ z. z.count ≤ 8) same s.3, subst (λ z. ShowsParts rows z 0 ps fs) same s.4)

  pub holds_within : (fs : List ℕ) (xs : List (Sample E)) → HoldsSamples rows fs xs → AllByRecursion (λ i. i < length rows) fs
  holds_within [] [] h = tt
  holds_within [] (x ∷ xs) h = tt
  holds_within (i ∷ is) [] h = absurd h
  holds_within (i ∷ is) (x ∷ xs) h = (slice_get_within rows i h.0 h.1, holds_within is xs h.3)

  pub holds_length : (fs : List ℕ) (xs : List (Sample E)) → HoldsSamples rows fs xs → length fs ≡ length xs
  holds_length [] [] h = refl
  holds_length [] (x ∷ xs) h = absurd h
  holds_length (i ∷ is) [] h = absurd h
  holds_length (i ∷ is) (x ∷ xs) h = ap suc (holds_length is xs h.3)

  pub holds_append : (fs gs : List ℕ) (xs ys : List (Sample E)) → HoldsSamples rows fs xs → HoldsSamples rows gs ys → HoldsSamples rows (fs ++ gs) (xs ++ ys)
  holds_append [] gs [] ys h k = k
  holds_append [] gs (x ∷ xs) ys h k = absurd h
  holds_append (i ∷ is) gs [] ys h k = absurd h
  holds_append (i ∷ is) gs (x ∷ xs) ys h k = (h.0, h.1, h.2, holds_append is gs xs ys h.3 k)

  mutual
    -- a tree lies within the rows
    pub shows_within : (n : Node) (t : Tree E) (fs : List ℕ) → Shows rows n t fs → AllByRecursion (λ i. i < length rows) fs
    shows_within n (leaf xs) fs s = holds_within fs xs s.5
    shows_within n (branch ps) fs s = parts_within s.0 0 ps fs s.4

    pub parts_within : (b : BranchRecord) (j : ℕ) (ps : Parts E) (fs : List ℕ) → ShowsParts rows b j ps fs → AllByRecursion (λ i. i < length rows) fs
    parts_within b j none fs s = subst (AllByRecursion (λ i. i < length rows)) (sym s) tt
    parts_within b j (part p col t rest) fs s =
        subst (AllByRecursion (λ i. i < length rows)) (sym s.8)
        (slice_get_within rows (get_or b.pivots j 0) s.0 s.3, All-append (λ i. i < length rows) s.1 s.2 (shows_within s.0.node t s.1 s.6) (parts_within b (suc j) rest s.2 s.7))

  mutual
    -- in as many rows as it has members
    pub shows_length : (n : Node) (t : Tree E) (fs : List ℕ) → Shows rows n t fs → length fs ≡ length (members t)
    shows_length n (leaf xs) fs s = holds_length fs xs s.5
    shows_length n (branch ps) fs s = parts_length s.0 0 ps fs s.4

    pub parts_length : (b : BranchRecord) (j : ℕ) (ps : Parts E) (fs : List ℕ) → ShowsParts rows b j ps fs → length fs ≡ length (gathered_parts always ps)
    parts_length b j none fs s = ap length s
    parts_length b j (part p col t rest) fs s =
        ap length s.8
        ∙ ap suc (length-append s.1 s.2 ∙ (λ i. shows_length s.0.node t s.1 s.6 i + parts_length b (suc j) rest s.2 s.7 i) ∙ sym (length-append (members t) (gathered_parts always rest)))

-- t is the n-th child
abbrev pub ChildIs : {E : Type 0} → ℕ → Parts E → Tree E → Type 0
ChildIs n none t = ⊥
ChildIs zero (part p col u rest) t = u ≡ t
ChildIs (suc n) (part p col u rest) t = ChildIs n rest t

-- what holds of all children holds of each
pub of_child : {E : Type 0} (P : Tree E → Type 0) (Q : Parts E → Type 0) → ((p : Pivot E) (col : List Range) (t : Tree E) (rest : Parts E) → Q (part p col t rest) → P t × Q rest) → (n : ℕ) (ps : Parts E) (t : Tree E) → ChildIs n ps t → Q ps → P t
of_child P Q f n none t i q = absurd i
of_child P Q f zero (part p col u rest) t i q = subst P i (f p col u rest q).0
of_child P Q f (suc n) (part p col u rest) t i q = of_child P Q f n rest t i (f p col u rest q).1

-- the n-th pivot changed by h, its child by g, and the ranges to that by f
abbrev pub replaced : {E : Type 0} → (Pivot E → Pivot E) → (List Range → List Range) → (Tree E → Tree E) → ℕ → Parts E → Parts E
replaced h f g n none = none
replaced h f g zero (part p col t rest) = part (h p) (f col) (g t) rest
replaced h f g (suc n) (part p col t rest) = part p col t (replaced h f g n rest)

-- a branch of the same pivots and ranges but those to the m-th child
pub record Mends (b b' : BranchRecord) (m : ℕ) (f : List Range → List Range) : Type 0 where
  pub pivots : b'.pivots ≡ b.pivots
  pub here : column b' m ≡ f (column b m)
  pub others : (k : ℕ) → (k ≡ m → ⊥) → column b' k ≡ column b k

module _ {E : Type 0} (rows : List (Row E)) (b : BranchRecord) where
  -- the n-th of the parts from the k-th on, which is the m-th of all
  pub record Child (k n m : ℕ) (ps : Parts E) (fs : List ℕ) : Type 0 where
    pub row : Row E
    pub tree : Tree E
    pub before : List ℕ
    pub below : List ℕ
    pub behind : List ℕ
    pub there : slice_get rows (get_or b.pivots m 0) ≡ Some row
    pub shows : Shows rows row.node tree below
    pub lies : fs ≡ before ++ (get_or b.pivots m 0 ∷ (below ++ behind))
    pub is_child : ChildIs n ps tree
    -- with this child changed, the parts changed
    pub put_back : (rows' : List (Row E)) (b' : BranchRecord) (h : Pivot E → Pivot E) (f : List Range → List Range) (g : Tree E → Tree E) (row' : Row E) (below' : List ℕ) → Mends b b' m f
        → slice_get rows' (get_or b.pivots m 0) ≡ Some row' → pivot_in row' ≡ h (pivot_in row) → Shows rows' row'.node (g tree) below' → AllByRecursion (Same rows rows') before → AllByRecursion (Same rows rows') behind
        → ShowsParts rows' b' k (replaced h f g n ps) (before ++ (get_or b.pivots m 0 ∷ (below' ++ behind)))

  child_first : (k : ℕ) (p : Pivot E) (col : List Range) (t : Tree E) (rest : Parts E) (fs : List ℕ) → ShowsParts rows b k (part p col t rest) fs → Child k 0 k (part p col t rest) fs
  child_first k p col t rest fs s =
      record {
        row = s.0;
        tree = t;
        before = [];
        below = s.1;
        behind = s.2;
        there = s.3;
        shows = s.6;
        lies = s.8;
        is_child = refl;
        put_back = λ rows' b' h f g row' below' mends there marks shows front back. (
          row',
          below',
          s.2,
          ap (λ z. slice_get rows' (get_or z k 0)) mends.pivots ∙ there,
          marks ∙ ap h s.4,
          mends.here ∙ ap f s.5,
          shows,
          frame_parts rows rows' b b' (suc k) rest s.2 mends.pivots (λ j l. mends.others j (λ e. omega arith)) back s.7,
          ap (λ z. get_or z k 0 ∷ (below' ++ s.2)) (sym mends.pivots),
        );
      }

  child_next : (k n m : ℕ) → (k ≡ m → ⊥) → (p : Pivot E) (col : List Range) (t : Tree E) (rest : Parts E) (fs : List ℕ) (s : ShowsParts rows b k (part p col t rest) fs) → Child (suc k) n m rest s.2 → Child k (suc n) m (part p col t rest) fs
  child_next k n m ne p col t rest fs s c =
      let i = get_or b.pivots k 0 in
      let j = get_or b.pivots m 0 in
      let joined : (below : List ℕ) → s.1 ++ (c.before ++ (j ∷ (below ++ c.behind))) ≡ (s.1 ++ c.before) ++ (j ∷ (below ++ c.behind)) = λ below. sym (append_assoc s.1 c.before (j ∷ (below ++ c.behind))) in
      record {
        row = c.row;
        tree = c.tree;
        before = i ∷ (s.1 ++ c.before);
        below = c.below;
        behind = c.behind;
        there = c.there;
        shows = c.shows;
        lies = s.8 ∙ ap (λ z. i ∷ (s.1 ++ z)) c.lies ∙ ap (λ z. i ∷ z) (joined c.below);
        is_child = c.is_child;
        put_back = λ rows' b' h f g row' below' mends there marks shows front back. (
          s.0,
          s.1,
          c.before ++ (j ∷ (below' ++ c.behind)),
          ap (λ z. slice_get rows' (get_or z k 0)) mends.pivots ∙ (front.0 ∙ s.3),
          s.4,
          mends.others k ne ∙ s.5,
          frame rows rows' s.0.node t s.1 (all_left (Same rows rows') s.1 c.before front.1) s.6,
          c.put_back rows' b' h f g row' below' mends there marks shows (all_right (Same rows rows') s.1 c.before front.1) back,
          (λ e. get_or (sym mends.pivots e) k 0 ∷ sym (joined below') e),
        );
      }

  pub child : (k n m : ℕ) (ps : Parts E) (fs : List ℕ) → m ≡ k + n → n < length (pivots ps) → ShowsParts rows b k ps fs → Child k n m ps fs
  child k n m none fs e l s = absurd (omega arith)
  child k zero m (part p col t rest) fs e l s = let q : k ≡ m = omega arith in subst (λ z. Child k 0 z (part p col t rest) fs) q (child_first k p col t rest fs s)
  child k (suc n) m (part p col t rest) fs e l s = child_next k n m (λ q. omega arith) p col t rest fs s (child (suc k) n m rest s.2 (omega arith) (omega arith) s.7)

  -- a row below one of the parts that is no pivot's
  pub child_holding : (at k : ℕ) (ps : Parts E) (fs : List ℕ) → Among at fs → ((j : ℕ) → k ≤ j → j < k + length (pivots ps) → get_or b.pivots j 0 ≡ at → ⊥) → ShowsParts rows b k ps fs
      → (n : ℕ) × (m : ℕ) × (m ≡ k + n) × (n < length (pivots ps)) × (c : Child k n m ps fs) × Among at c.below
  unfolding child_first child_next
  child_holding at k none fs a never s = absurd (subst (Among at) s a)
  child_holding at k (part p col t rest) fs a never s =
      ⊎_elim
      (λ e. absurd (never k (omega arith) (omega arith) (sym e)))
      (λ u. ⊎_elim
      (λ v. (0, k, omega arith, omega arith, child_first k p col t rest fs s, v))
      (λ v.
      let w = child_holding at (suc k) rest s.2 v (λ j x y. never j (omega arith) (omega arith)) s.7 in
      (suc w.0, w.1, omega (arith, w.2), omega (arith, w.3), child_next k w.0 w.1 (λ q. omega (arith, w.2)) p col t rest fs s w.4, w.5))
      (among_append at s.1 s.2 u))
      (subst (Among at) s.8 a)

  -- measured pivot by pivot, the distances of the parts' pivots
  pub all_measured : (dist : E → E → ℕ) (x : Sample E) (ds : List ℕ) (k : ℕ) (ps : Parts E) (fs : List ℕ) → k + length (pivots ps) ≤ length ds
      → ((j : ℕ) → k ≤ j → j < k + length (pivots ps) → HasRow rows (get_or b.pivots j 0) (λ row. get_or ds j 0 ≡ dist row.element x.element))
      → ShowsParts rows b k ps fs → take (length (pivots ps)) (drop k ds) ≡ distances dist (pivots ps) x
  all_measured dist x ds k none fs l h s = refl
  all_measured dist x ds k (part p col t rest) fs l h s =
      let w = h k (omega arith) (omega arith) in
      let same : w.0 ≡ s.0 = (let u = w.1 in let v = s.3 in cc) in
      let more : k + 1 ≡ suc k = omega arith in
      let here : get_or ds k 0 ≡ dist p.element x.element = w.2 ∙ ap (λ z. dist z.element x.element) same ∙ ap (λ z. dist z.element x.element) s.4 in
      ap (take (suc (length (pivots rest)))) (drop_more ds k 0 (omega arith) ∙ ap (λ z. get_or ds k 0 ∷ drop z ds) more)
      ∙ (λ i. here i ∷ all_measured dist x ds (suc k) rest s.2 (omega arith) (λ j u v. h j (omega arith) (omega arith)) s.7 i)

-- the sample of a row in which the tree lies is one of the tree's, if its pivot would count it
module _ {E : Type 0} (rows : List (Row E)) (of_pivot : Pivot E → List (Sample E)) (at : ℕ) (row : Row E) (there : slice_get rows at ≡ Some row) (own : Among (sample_in row) (of_pivot (pivot_in row))) where
  pub held_among : (fs : List ℕ) (xs : List (Sample E)) → Among at fs → HoldsSamples rows fs xs → Among (sample_in row) xs
  held_among [] xs a h = absurd a
  held_among (i ∷ is) [] a h = absurd h
  held_among (i ∷ is) (x ∷ xs) (inl e) h = inl (ap sample_in (same_row rows at row h.0 there (ap (slice_get rows) e ∙ h.1)) ∙ h.2)
  held_among (i ∷ is) (x ∷ xs) (inr a) h = inr (held_among is xs a h.3)

  mutual
    pub row_among : (n : Node) (t : Tree E) (fs : List ℕ) → Among at fs → Shows rows n t fs → Among (sample_in row) (gathered of_pivot t)
    row_among n (leaf xs) fs a s = held_among fs xs a s.5
    row_among n (branch ps) fs a s = row_among_parts s.0 0 ps fs a s.4

    pub row_among_parts : (b : BranchRecord) (j : ℕ) (ps : Parts E) (fs : List ℕ) → Among at fs → ShowsParts rows b j ps fs → Among (sample_in row) (gathered_parts of_pivot ps)
    row_among_parts b j none fs a s = absurd (subst (Among at) s a)
    row_among_parts b j (part p col t rest) fs a s =
        let x = sample_in row in
        let i = get_or b.pivots j 0 in
        let g = gathered of_pivot t in
        let r = gathered_parts of_pivot rest in
        ⊎_elim
        (λ e. among_left x (of_pivot p) (g ++ r) (subst (λ z. Among x (of_pivot z)) (ap pivot_in (same_row rows at row s.0 there (ap (slice_get rows) e ∙ s.3)) ∙ s.4) own))
        (λ u. ⊎_elim
        (λ v. among_right x (of_pivot p) (g ++ r) (among_left x g r (row_among s.0.node t s.1 v s.6)))
        (λ v. among_right x (of_pivot p) (g ++ r) (among_right x g r (row_among_parts b (suc j) rest s.2 v s.7)))
        (among_append at s.1 s.2 u))
        (subst (Among at) s.8 a)
