-- Dropping the sample of a row: out of its leaf, marked as a pivot, or below the nearest pivot. Assumes nothing.
use Rattle.std.proofs.Common.{◌≡◌, ℕ, zero, suc, ◌+◌, ◌<◌, Bool, true, false, cond, not, eqb, List, [], ◌∷◌, ◌++◌, length, get_or, take, Some, sym, refl, ap, ◌∙◌, subst, inl, inr, ⊎_elim, arith}
use Rattle.std.specs.List.{slice_get, AllByRecursion}
use Rattle.std.proofs.ByRecursion.{All-weaker}
use Rattle.std.proofs.lemmas.List.{append_assoc}
use Rattle.std.proofs.lemmas.Bool.{cases_eq, eq-eqb, ne_eqb, cond-true, cond-false}
use Rattle.hits.specs.Samples.{Sample, Among}
use Rattle.hits.proofs.Among.{all_left, all_right, all_among, among_left, among_right, among_append}
use Rattle.index.specs.Meaning.{without}
use Rattle.gnat_theory.specs.Tree.{Tree, Parts, Pivot, sample_of, pivots, gathered_parts, if_standing, always, standing, members}
use Rattle.gnat_theory.specs.Tree.Tree.{branch}
use Rattle.gnat_theory.specs.Tree.Parts.{none, part}
use Rattle.gnat_theory.specs.Filing.{nearest, distances}
use Rattle.gnat_theory.specs.Dropping.{marked_at, shrunk, shrunk_parts}
use Rattle.gnat_theory.specs.Ranges.{ThroughoutParts, OwnNearest, Placed}
use Rattle.gnat_theory.specs.Shapes.{Branching, BranchingParts}
use Rattle.gnat_theory.specs.Shuffles.{Shuffle, Apart}
use Rattle.gnat_theory.specs.Shuffles.Shuffle.{after, swapped, in_turn}
use Rattle.gnat_theory.proofs.Pruning.{part_equal, Other, apart_left, apart_right, others_left, others_right, without_none, marked_none, shrunk_none, shrunk_parts_none}
use Rattle.gnat_theory.proofs.Sublists.{among_sub, apart_sub, one_side, pivot_sub, standing_sub, standing_parts_sub}
use Rattle.gnat_theory.proofs.Shuffling.{all_shuffle, same_order, shuffle_back, shuffle_before}
use Rattle.gnat_rows.specs.declared.Branch.{Branch as BranchRecord}
use Rattle.gnat_rows.specs.declared.Leaf.{Leaf as LeafRecord}
use Rattle.gnat_rows.specs.declared.Node.{Node}
use Rattle.gnat_rows.specs.declared.Node.TheVariants as node
use Rattle.gnat_rows.specs.declared.Row.{Row}
use Rattle.gnat_rows.specs.Rows.{with_marked}
use Rattle.gnat_rows.specs.Shows.{sample_in, pivot_in, HoldsSamples, Shows, ShowsParts}
use Rattle.gnat_rows.specs.Lying.{Absent, Distinct, OnlyIn}
use Rattle.gnat_rows.proofs.Apart.{distinct_shuffle, arranged, arranged_back}
use Rattle.gnat_rows.proofs.Changes.{nth_changed, nth_unchanged, same_row}
use Rattle.gnat_rows.proofs.Only.{only_none, only_wider, only_marked}
use Rattle.gnat_rows.proofs.Showing.{Same, frame, shows_leaf, shows_branch, Child, ChildIs, child_holding, of_child, replaced, held_among, row_among}
use Rattle.gnat_filing.specs.Dropping.{without_row, Shortened, Droppable, Drops}
use Rattle.gnat_filing.specs.Seeking.{DropsUnder}
use Rattle.gnat_filing.specs.Widening.{Measured}
use Rattle.gnat_filing.proofs.Level.{ReadyBranch, nth_child, distances_are, below_apart, level, replaced_length}

without_absent : (at : ℕ) (is : List ℕ) → Absent at is → without_row at is ≡ is
without_absent at [] a = refl
without_absent at (i ∷ is) a = cond-true (not (eqb i at)) (i ∷ without_row at is) (without_row at is) (ap not (ne_eqb i at (λ e. a.0 (sym e)))) ∙ ap (λ z. i ∷ z) (without_absent at is a.1)

without_front : (at : ℕ) (is : List ℕ) → Among at is → Distinct is → Shuffle ℕ (at ∷ without_row at is) is
without_front at [] m d = absurd m
without_front at (i ∷ is) m d =
    ⊎_elim
    (λ e.
    let gone = cond-false (not (eqb i at)) (i ∷ without_row at is) (without_row at is) (ap not (eq-eqb i at e)) ∙ without_absent at is (subst (λ z. Absent z is) e d.0) in
    subst (λ z. Shuffle ℕ (at ∷ z) (i ∷ is)) (sym gone) (subst (λ z. Shuffle ℕ (z ∷ is) (i ∷ is)) e (same_order (i ∷ is))))
    (λ n.
    let stays = cond-true (not (eqb i at)) (i ∷ without_row at is) (without_row at is) (ap not (ne_eqb i at n)) in
    let later : Among at is = ⊎_elim (λ e. absurd (n (sym e))) (λ k. k) m in
    subst (λ z. Shuffle ℕ (at ∷ z) (i ∷ is)) (sym stays)
    (in_turn (at ∷ (i ∷ without_row at is)) (i ∷ (at ∷ without_row at is)) (i ∷ is) (swapped at i (without_row at is)) (after i (at ∷ without_row at is) is (without_front at is later d.1))))
    (cases_eq i at)

module _ {E : Type 0} (rows : List (Row E)) (at : ℕ) (row : Row E) (there : slice_get rows at ≡ Some row) where
  -- the sample of the row leaves its leaf
  holds_without : (is : List ℕ) (xs : List (Sample E)) → Among at is → Distinct is → Apart xs → HoldsSamples rows is xs → HoldsSamples rows (without_row at is) (without row.number xs)
  holds_without [] xs m d a h = absurd m
  holds_without (i ∷ is) [] m d a h = absurd h
  holds_without (i ∷ is) (x ∷ xs) m d a h =
      let n = row.number in
      ⊎_elim
      (λ e.
      let same : sample_in row ≡ x = ap sample_in (same_row rows at row h.0 there (ap (slice_get rows) (sym e) ∙ h.1)) ∙ h.2 in
      let number : x.number ≡ n = ap (λ z. z.number) (sym same) in
      let gone = cond-false (not (eqb i at)) (i ∷ without_row at is) (without_row at is) (ap not (eq-eqb i at e)) ∙ without_absent at is (subst (λ z. Absent z is) e d.0) in
      let others : AllByRecursion (Other n) xs = All-weaker (λ y. x.number ≡ y.number → ⊥) (Other n) (λ y k q. k (number ∙ sym q)) xs a.0 in
      let left = cond-true (eqb x.number n) (without n xs) (x ∷ without n xs) (eq-eqb x.number n number) ∙ without_none n xs others in
      subst (λ z. HoldsSamples rows z (without n (x ∷ xs))) (sym gone) (subst (HoldsSamples rows is) (sym left) h.3))
      (λ ne.
      let later : Among at is = ⊎_elim (λ e. absurd (ne (sym e))) (λ k. k) m in
      let stays = cond-true (not (eqb i at)) (i ∷ without_row at is) (without_row at is) (ap not (ne_eqb i at ne)) in
      let other : x.number ≡ n → ⊥ = all_among (λ y. x.number ≡ y.number → ⊥) (sample_in row) xs a.0 (among_held is xs later h.3) in
      let left = cond-false (eqb x.number n) (without n xs) (x ∷ without n xs) (ne_eqb x.number n other) in
      subst (λ z. HoldsSamples rows z (without n (x ∷ xs))) (sym stays) (subst (HoldsSamples rows (i ∷ without_row at is)) (sym left) (h.0, h.1, h.2, holds_without is xs later d.1 a.1 h.3)))
      (cases_eq i at)
    where
      among_held : (is : List ℕ) (xs : List (Sample E)) → Among at is → HoldsSamples rows is xs → Among (sample_in row) xs
      among_held is xs m h = held_among rows always at row there (inl refl) is xs m h

  pub leaf_dropped : (n : Node) (l l' : LeafRecord) (t : Tree E) (fs : List ℕ) → n ≡ node.Leaf l → Shows rows n t fs → Among at fs → Distinct fs → Apart (members t) → Shortened l l' at → Drops rows rows (node.Leaf l') true at (shrunk row.number t) fs
  leaf_dropped n l l' t fs e s m d a short =
      let v = shows_leaf rows n l t fs e s in
      let xs = v.0 in
      subst (λ z. Drops rows rows (node.Leaf l') true at (shrunk row.number z) fs) (sym v.1)
      (record {
        lies = without_row at fs;
        shows = (l', refl, short.thirty_two, omega (arith, short.count, v.3), short.rows ∙ ap (without_row at) v.4, holds_without fs xs m d (subst (λ z. Apart (members z)) v.1 a) v.5);
        same_rows = without_front at fs m d;
        only = only_none rows fs;
      })

-- what is none of the rows before is none of those after
pub lies_absent : (freed : Bool) (at : ℕ) (lies below : List ℕ) → Shuffle ℕ (cond freed (at ∷ lies) lies) below → (i : ℕ) → Absent i below → Absent i lies
lies_absent true at lies below s i a = (all_shuffle (λ k. i ≡ k → ⊥) below (at ∷ lies) (shuffle_back (at ∷ lies) below s) a).1
lies_absent false at lies below s i a = all_shuffle (λ k. i ≡ k → ⊥) below lies (shuffle_back lies below s) a

lies_order : (freed : Bool) (at : ℕ) (before : List ℕ) (i : ℕ) (below lies behind : List ℕ) → Shuffle ℕ (cond freed (at ∷ lies) lies) below
    → Shuffle ℕ (cond freed (at ∷ (before ++ (i ∷ (lies ++ behind)))) (before ++ (i ∷ (lies ++ behind)))) (before ++ (i ∷ (below ++ behind)))
lies_order true at before i below lies behind s =
    let new = before ++ (i ∷ (lies ++ behind)) in
    let old = before ++ (i ∷ (below ++ behind)) in
    shuffle_back old (at ∷ new) (arranged_back at before i lies below behind (shuffle_back (at ∷ lies) below s))
lies_order false at before i below lies behind s =
    let rest = before ++ behind in
    let new = before ++ (i ∷ (lies ++ behind)) in
    let old = before ++ (i ∷ (below ++ behind)) in
    in_turn new (i ∷ (lies ++ rest)) old (arranged before i lies behind)
    (in_turn (i ∷ (lies ++ rest)) (i ∷ (below ++ rest)) old (after i (lies ++ rest) (below ++ rest) (shuffle_before rest lies below s)) (shuffle_back old (i ∷ (below ++ rest)) (arranged before i below behind)))

-- the part at place j
abbrev pub AtPart : {E : Type 0} → (Pivot E → Tree E → Type 0) → ℕ → Parts E → Type 0
AtPart P n none = ⊥
AtPart P zero (part p col t rest) = P p t
AtPart P (suc n) (part p col t rest) = AtPart P n rest

module _ {E : Type 0} (s : Sample E) (h : Pivot E → Pivot E) (g : Tree E → Tree E) where
  -- the sample is in this part, which h and g change as dropping does
  abbrev pub HasSample : Pivot E → Tree E → Type 0
  HasSample p t = Among s (if_standing p ++ standing t) × (Apart (if_standing p ++ standing t) → (h p ≡ marked_at s.number p) × (g t ≡ shrunk s.number t))

  part_among : (n : ℕ) (ps : Parts E) → AtPart HasSample n ps → Among s (gathered_parts if_standing ps)
  part_among n none a = absurd a
  part_among zero (part p col t rest) a = subst (Among s) (append_assoc (if_standing p) (standing t) (gathered_parts if_standing rest)) (among_left s (if_standing p ++ standing t) (gathered_parts if_standing rest) a.0)
  part_among (suc n) (part p col t rest) a = among_right s (if_standing p) (standing t ++ gathered_parts if_standing rest) (among_right s (standing t) (gathered_parts if_standing rest) (part_among n rest a))

  -- dropping changes this part alone
  pub only_part : (n : ℕ) (ps : Parts E) → AtPart HasSample n ps → Apart (gathered_parts if_standing ps) → replaced h (λ col. col) g n ps ≡ shrunk_parts s.number ps
  only_part n none a q = absurd a
  only_part zero (part p col t rest) a q =
      let o = if_standing p in
      let x = standing t in
      let r = gathered_parts if_standing rest in
      let q' : Apart ((o ++ x) ++ r) = subst Apart (sym (append_assoc o x r)) q in
      let here = a.1 (apart_left (o ++ x) r q') in
      part_equal col (h p) (marked_at s.number p) (g t) (shrunk s.number t) rest (shrunk_parts s.number rest) here.0 here.1 (sym (shrunk_parts_none s.number rest (others_right s (o ++ x) r q' a.0)))
  only_part (suc n) (part p col t rest) a q =
      let o = if_standing p in
      let x = standing t in
      let r = gathered_parts if_standing rest in
      let b = apart_right o (x ++ r) q in
      let later = part_among n rest a in
      part_equal col p (marked_at s.number p) t (shrunk s.number t) (replaced h (λ c. c) g n rest) (shrunk_parts s.number rest)
      (sym (marked_none s.number p (others_left s o (x ++ r) q (among_right s x r later)))) (sym (shrunk_none s.number t (others_left s x r b later))) (only_part n rest a (apart_right x r b))

module _ {E : Type 0} (P : Pivot E → Tree E → Type 0) where
  at_child : (n : ℕ) (ps : Parts E) (t : Tree E) → ChildIs n ps t → ((p : Pivot E) → P p t) → AtPart P n ps
  at_child n none t i f = absurd i
  at_child zero (part p col u rest) t i f = subst (P p) (sym i) (f p)
  at_child (suc n) (part p col u rest) t i f = at_child n rest t i f

  at_pivot : (rows : List (Row E)) (b : BranchRecord) (row : Row E) (k n m : ℕ) (ps : Parts E) (fs : List ℕ) → m ≡ k + n → n < length (pivots ps) → slice_get rows (get_or b.pivots m 0) ≡ Some row → ((t : Tree E) → P (pivot_in row) t) → ShowsParts rows b k ps fs → AtPart P n ps
  at_pivot rows b row k n m none fs e l there f s = absurd (omega arith)
  at_pivot rows b row k zero m (part p col t rest) fs e l there f s =
      let q : m ≡ k = omega arith in
      subst (λ z. P z t) (ap pivot_in (same_row rows (get_or b.pivots k 0) row s.0 (ap (λ z. slice_get rows (get_or b.pivots z 0)) (sym q) ∙ there) s.3) ∙ s.4) (f t)
  at_pivot rows b row k (suc n) m (part p col t rest) fs e l there f s = at_pivot rows b row (suc k) n m rest s.2 (omega arith) (omega arith) there f s.7

module _ {E : Type 0} (s : Sample E) where
  child_among : (n : ℕ) (ps : Parts E) (t : Tree E) → ChildIs n ps t → Among s (members t) → Among s (gathered_parts always ps)
  child_among n none t i m = absurd i
  child_among zero (part p col u rest) t i m = inr (among_left s (members u) (gathered_parts always rest) (subst (λ z. Among s (members z)) (sym i) m))
  child_among (suc n) (part p col u rest) t i m = inr (among_right s (members u) (gathered_parts always rest) (child_among n rest t i m))

  -- a sample that stands in a branch and has its row below one child stands there
  stands_below : (n : ℕ) (ps : Parts E) (t : Tree E) → ChildIs n ps t → Apart (gathered_parts always ps) → Among s (gathered_parts if_standing ps) → Among s (members t) → Among s (standing t)
  stands_below n none t i a m below = absurd i
  stands_below zero (part p col u rest) t i a m below =
      let below' : Among s (members u) = subst (λ z. Among s (members z)) (sym i) below in
      ⊎_elim
      (λ k. absurd (one_side s (always p) (members u ++ gathered_parts always rest) a (among_sub s (if_standing p) (always p) (pivot_sub p) k) (among_left s (members u) (gathered_parts always rest) below')))
      (λ k. ⊎_elim (λ here. subst (λ z. Among s (standing z)) i here)
      (λ later. absurd (one_side s (members u) (gathered_parts always rest) a.1 below' (among_sub s (gathered_parts if_standing rest) (gathered_parts always rest) (standing_parts_sub rest) later)))
      (among_append s (standing u) (gathered_parts if_standing rest) k))
      (among_append s (if_standing p) (standing u ++ gathered_parts if_standing rest) m)
  stands_below (suc n) (part p col u rest) t i a m below =
      let there = child_among n rest t i below in
      ⊎_elim
      (λ k. absurd (one_side s (always p) (members u ++ gathered_parts always rest) a (among_sub s (if_standing p) (always p) (pivot_sub p) k) (among_right s (members u) (gathered_parts always rest) there)))
      (λ k. ⊎_elim (λ here. absurd (one_side s (members u) (gathered_parts always rest) a.1 (among_sub s (standing u) (members u) (standing_sub u) here) there))
      (λ later. stands_below n rest t i (apart_right (members u) (gathered_parts always rest) a.1) later below)
      (among_append s (standing u) (gathered_parts if_standing rest) k))
      (among_append s (if_standing p) (standing u ++ gathered_parts if_standing rest) m)

module _ {E : Type 0} (rows : List (Row E)) (b : BranchRecord) (row : Row E) where
  pivot_shown : (k m : ℕ) (p : Pivot E) (r : Row E) → m ≡ k → slice_get rows (get_or b.pivots m 0) ≡ Some row → slice_get rows (get_or b.pivots k 0) ≡ Some r → pivot_in r ≡ p → pivot_in row ≡ p
  pivot_shown k m p r q there here e = ap pivot_in (same_row rows (get_or b.pivots k 0) row r (ap (λ z. slice_get rows (get_or b.pivots z 0)) (sym q) ∙ there) here) ∙ e

  pivot_among : (k n m : ℕ) (ps : Parts E) (fs : List ℕ) → m ≡ k + n → n < length (pivots ps) → slice_get rows (get_or b.pivots m 0) ≡ Some row → ShowsParts rows b k ps fs → Among (sample_in row) (gathered_parts always ps)
  pivot_among k n m none fs e l there s = absurd (omega arith)
  pivot_among k zero m (part p col t rest) fs e l there s = inl (ap sample_of (pivot_shown k m p s.0 (omega arith) there s.3 s.4))
  pivot_among k (suc n) m (part p col t rest) fs e l there s = inr (among_right (sample_in row) (members t) (gathered_parts always rest) (pivot_among (suc k) n m rest s.2 (omega arith) (omega arith) there s.7))

  -- a sample that stands in a branch and whose row is a pivot's is not marked
  stands_at : (k n m : ℕ) (ps : Parts E) (fs : List ℕ) → m ≡ k + n → n < length (pivots ps) → slice_get rows (get_or b.pivots m 0) ≡ Some row → ShowsParts rows b k ps fs → Apart (gathered_parts always ps) → Among (sample_in row) (gathered_parts if_standing ps) → Among (sample_in row) (if_standing (pivot_in row))
  stands_at k n m none fs e l there s a i = absurd (omega arith)
  stands_at k zero m (part p col t rest) fs e l there s a i =
      let x = sample_in row in
      let here : pivot_in row ≡ p = pivot_shown k m p s.0 (omega arith) there s.3 s.4 in
      let mine : Among x (always p) = inl (ap sample_of here) in
      ⊎_elim (λ z. subst (λ q. Among x (if_standing q)) (sym here) z)
      (λ z. absurd (one_side x (always p) (members t ++ gathered_parts always rest) a mine
      (⊎_elim (λ u. among_left x (members t) (gathered_parts always rest) (among_sub x (standing t) (members t) (standing_sub t) u))
      (λ u. among_right x (members t) (gathered_parts always rest) (among_sub x (gathered_parts if_standing rest) (gathered_parts always rest) (standing_parts_sub rest) u))
      (among_append x (standing t) (gathered_parts if_standing rest) z))))
      (among_append x (if_standing p) (standing t ++ gathered_parts if_standing rest) i)
  stands_at k (suc n) m (part p col t rest) fs e l there s a i =
      let x = sample_in row in
      let later = pivot_among (suc k) n m rest s.2 (omega arith) (omega arith) there s.7 in
      ⊎_elim
      (λ z. absurd (one_side x (always p) (members t ++ gathered_parts always rest) a (among_sub x (if_standing p) (always p) (pivot_sub p) z) (among_right x (members t) (gathered_parts always rest) later)))
      (λ z. ⊎_elim (λ u. absurd (one_side x (members t) (gathered_parts always rest) a.1 (among_sub x (standing t) (members t) (standing_sub t) u) later))
      (λ u. stands_at (suc k) n m rest s.2 (omega arith) (omega arith) there s.7 (apart_right (members t) (gathered_parts always rest) a.1) u)
      (among_append x (standing t) (gathered_parts if_standing rest) z))
      (among_append x (if_standing p) (standing t ++ gathered_parts if_standing rest) i)

module _ {E : Type 0} (dist : E → E → ℕ) (all : List (Sample E)) where
  nearest_here : (k n : ℕ) (ps : Parts E) (t : Tree E) → ChildIs n ps t → ThroughoutParts (OwnNearest dist) all k ps → AllByRecursion (λ s. nearest (distances dist all s) ≡ k + n) (members t) × Placed dist t
  nearest_here k n none t i h = absurd i
  nearest_here k zero (part p col u rest) t i h =
      let back : k ≡ k + 0 = omega arith in
      subst (λ z. AllByRecursion (λ s. nearest (distances dist all s) ≡ k + 0) (members z) × Placed dist z) i (subst (λ z. AllByRecursion (λ s. nearest (distances dist all s) ≡ z) (members u)) back h.0, h.1)
  nearest_here k (suc n) (part p col u rest) t i h =
      let up : suc k + n ≡ k + suc n = omega arith in
      let w = nearest_here (suc k) n rest t i h.2 in
      (subst (λ z. AllByRecursion (λ s. nearest (distances dist all s) ≡ z) (members t)) up w.0, w.1)

module _ {E : Type 0} (dist : E → E → ℕ) (degree : ℕ) (rows : List (Row E)) (n : Node) (at : ℕ) (t : Tree E) (fs : List ℕ) (row : Row E) (d : Droppable dist degree rows n at t fs row) where
  pub record IsDropBranch (b : BranchRecord) : Type 0 where
    pub parts : Parts E
    pub tree : t ≡ branch parts
    pub ready : ReadyBranch rows b [] parts fs
    pub branching : BranchingParts degree parts
    pub placed : ThroughoutParts (OwnNearest dist) (pivots parts) 0 parts
    pub numbers : Apart (gathered_parts if_standing parts)
    pub all_numbers : Apart (gathered_parts always parts)
    pub stands : Among (sample_in row) (gathered_parts if_standing parts)

  pub is_drop_branch : (b : BranchRecord) → n ≡ node.Branch b → IsDropBranch b
  is_drop_branch b e =
      let s = shows_branch rows n b t fs e d.shows in
      let branching = subst (Branching degree) s.1 d.branching in
      record {
        parts = s.0;
        tree = s.1;
        ready = record { parts = s.4; count = s.2; most = s.3; some = omega (arith, s.2, branching.0, d.some); apart = d.apart };
        branching = branching.1;
        placed = subst (Placed dist) s.1 d.placed;
        numbers = apart_sub (gathered_parts if_standing s.0) (gathered_parts always s.0) (standing_parts_sub s.0) (subst (λ z. Apart (members z)) s.1 d.numbers);
        all_numbers = subst (λ z. Apart (members z)) s.1 d.numbers;
        stands = subst (λ z. Among (sample_in row) (standing z)) s.1 d.stands;
      }

  module _ (b : BranchRecord) (i : IsDropBranch b) where
    -- a pivot is marked
    pub pivot_marked : (rows' : List (Row E)) (k : ℕ) → k < b.count → get_or b.pivots k 0 ≡ at → rows' ≡ with_marked at true rows → Drops rows rows' (node.Branch b) false at (shrunk row.number t) fs
    pivot_marked rows' k l here put =
        let ps = i.parts in
        let s = sample_in row in
        let c = nth_child rows b [] ps fs i.ready k l in
        let pk = get_or b.pivots k 0 in
        let f : Row E → Row E = λ r. record { element = r.element; number = r.number; marked = true; place = r.place; node = r.node } in
        let same : c.row ≡ row = same_row rows at c.row row (ap (slice_get rows) (sym here) ∙ c.there) d.there in
        let order = arranged c.before pk c.below c.behind in
        let apart = distinct_shuffle (c.before ++ (pk ∷ (c.below ++ c.behind))) (pk ∷ (c.below ++ (c.before ++ c.behind))) order (subst Distinct c.lies d.apart) in
        let keep : (z : ℕ) → (pk ≡ z → ⊥) → slice_get rows' z ≡ slice_get rows z = λ z ne. ap (λ u. slice_get u z) put ∙ nth_unchanged rows at z f (λ q. ne (here ∙ sym q)) in
        let kept : (zs : List ℕ) → Absent pk zs → AllByRecursion (Same rows rows') zs = λ zs a. All-weaker (λ z. pk ≡ z → ⊥) (Same rows rows') keep zs a in
        let rest = all_right (λ z. pk ≡ z → ⊥) c.below (c.before ++ c.behind) apart.0 in
        let there' : slice_get rows' pk ≡ Some (f row) = ap (slice_get rows') here ∙ ap (λ u. slice_get u at) put ∙ nth_changed rows at f row d.there in
        let marks : pivot_in (f row) ≡ marked_at row.number (pivot_in c.row) =
        sym (ap (λ z. marked_at row.number (pivot_in z)) same ∙ cond-true (eqb row.number row.number) (pivot_in (f row)) (pivot_in row) (eq-eqb row.number row.number refl)) in
        let below' : Shows rows' row.node c.tree c.below =
        frame rows rows' row.node c.tree c.below (kept c.below (all_left (λ z. pk ≡ z → ⊥) c.below (c.before ++ c.behind) apart.0)) (subst (λ z. Shows rows z.node c.tree c.below) same c.shows) in
        let changed = c.put_back rows' b (marked_at row.number) (λ col. col) (λ u. u) (f row) c.below (record { pivots = refl; here = refl; others = λ z q. refl }) there' marks below'
        (kept c.before (all_left (λ z. pk ≡ z → ⊥) c.before c.behind rest)) (kept c.behind (all_right (λ z. pk ≡ z → ⊥) c.before c.behind rest)) in
        let own-standing = stands_at rows b row 0 k k ps fs (omega arith) (omega (arith, i.ready.count)) (ap (slice_get rows) here ∙ d.there) i.ready.parts i.all_numbers i.stands in
        let P = HasSample s (marked_at row.number) (λ u. u) in
        let has = at_pivot P rows b row 0 k k ps fs (omega arith) (omega (arith, i.ready.count)) (ap (slice_get rows) here ∙ d.there)
        (λ u. (among_left s (if_standing (pivot_in row)) (standing u) own-standing, λ a. (refl, sym (shrunk_none row.number u (others_right s (if_standing (pivot_in row)) (standing u) a own-standing))))) i.ready.parts in
        let equal = only_part s (marked_at row.number) (λ u. u) k ps has i.numbers in
        let long = replaced_length (marked_at row.number) (λ col. col) (λ u. u) k ps in
        subst (λ z. Drops rows rows' (node.Branch b) false at (shrunk row.number z) fs) (sym i.tree)
        (subst (λ z. Drops rows rows' (node.Branch b) false at (branch z) fs) equal
        (record {
          lies = fs;
          shows = (b, refl, i.ready.count ∙ sym long, i.ready.most, subst (ShowsParts rows' b 0 (replaced (marked_at row.number) (λ col. col) (λ u. u) k ps)) (sym c.lies) changed);
          same_rows = same_order fs;
          only = only_wider rows rows' (at ∷ []) fs (λ z a. (all_among (λ k. z ≡ k → ⊥) at fs a d.lies, tt)) (subst (OnlyIn (at ∷ []) rows) (sym put) (only_marked rows at true));
        }))

    -- the child that has the row
    pub drop_child : (j : ℕ) → ((k : ℕ) → k < b.count → get_or b.pivots k 0 ≡ at → ⊥) → nearest (distances dist (pivots i.parts) (sample_in row)) ≡ j → (c : Child rows b 0 j j i.parts fs) × Among at c.below
    drop_child j never near =
        let ps = i.parts in
        let w = child_holding rows b at 0 ps fs d.lies (λ k u v. never k (omega (arith, i.ready.count))) i.ready.parts in
        let c = w.4 in
        let mine = row_among rows always at row d.there (inl refl) c.row.node c.tree c.below w.5 c.shows in
        let place = all_among (λ s. nearest (distances dist (pivots ps) s) ≡ 0 + w.0) (sample_in row) (members c.tree) (nearest_here dist (pivots ps) 0 w.0 ps c.tree c.is_child i.placed).0 mine in
        let m : w.1 ≡ j = omega (arith, w.2) in
        let k : w.0 ≡ j = omega arith in
        subst (λ z. (c : Child rows b 0 z j ps fs) × Among at c.below) k (subst (λ z. (c : Child rows b 0 w.0 z ps fs) × Among at c.below) m (c, w.5))

    module _ (j : ℕ) (c : Child rows b 0 j j i.parts fs) (mine : Among at c.below) where
      below_stands : Among (sample_in row) (standing c.tree)
      below_stands = stands_below (sample_in row) j i.parts c.tree c.is_child i.all_numbers i.stands (row_among rows always at row d.there (inl refl) c.row.node c.tree c.below mine c.shows)

      pub child_droppable : Droppable dist degree rows c.row.node at c.tree c.below row
      child_droppable =
          let ps = i.parts in
          record {
            shows = c.shows;
            apart = below_apart rows b [] ps fs i.ready j c;
            there = d.there;
            lies = mine;
            stands = below_stands;
            some = d.some;
            branching = of_child (Branching degree) (BranchingParts degree) (λ p col u rest h. h) j ps c.tree c.is_child i.branching;
            placed = (nearest_here dist (pivots ps) 0 j ps c.tree c.is_child i.placed).1;
            numbers = of_child (λ u. Apart (members u)) (λ qs. Apart (gathered_parts always qs))
                (λ p col u rest h. (apart_left (members u) (gathered_parts always rest) h.1, apart_right (members u) (gathered_parts always rest) h.1)) j ps c.tree c.is_child i.all_numbers;
          }

      -- dropped below the child
      pub dropped_below : (rows₂ : List (Row E)) (freed : Bool) → DropsUnder rows rows₂ (get_or b.pivots j 0) freed at (shrunk row.number c.tree) c.below → Drops rows rows₂ (node.Branch b) freed at (shrunk row.number t) fs
      dropped_below rows₂ freed given =
          let ps = i.parts in
          let s = sample_in row in
          let pj = get_or b.pivots j 0 in
          let g = shrunk row.number in
          let P = HasSample s (λ p. p) g in
          let has = at_child P j ps c.tree c.is_child (λ p. (among_right s (if_standing p) (standing c.tree) below_stands, λ a. (sym (marked_none row.number p (others_left s (if_standing p) (standing c.tree) a below_stands)), refl))) in
          let equal = only_part s (λ p. p) g j ps has i.numbers in
          let Before : List ℕ → Type 0 = λ lies. Shuffle ℕ (cond freed (at ∷ lies) lies) c.below in
          let After : List ℕ → Type 0 = λ lies. Shuffle ℕ (cond freed (at ∷ lies) lies) fs in
          let order : After (c.before ++ (pj ∷ (given.lies ++ c.behind))) = subst (Shuffle ℕ (cond freed (at ∷ (c.before ++ (pj ∷ (given.lies ++ c.behind)))) (c.before ++ (pj ∷ (given.lies ++ c.behind))))) (sym c.lies) (lies_order freed at c.before pj c.below given.lies c.behind given.same_rows) in
          subst (λ z. Drops rows rows₂ (node.Branch b) freed at (shrunk row.number z) fs) (sym i.tree)
          (subst (λ z. Drops rows rows₂ (node.Branch b) freed at (branch z) fs) equal
          (level rows b [] ps fs i.ready j c Before rows₂ (g c.tree) given After order b (λ col. col) g refl (record { pivots = refl; here = refl; others = λ z q. refl }) refl (replaced_length (λ p. p) (λ col. col) g j ps)))

    pub drop_near : (e : E) (ds : List ℕ) (j : ℕ) → Measured dist rows b e ds → e ≡ row.element → nearest (take b.count ds) ≡ j → nearest (distances dist (pivots i.parts) (sample_in row)) ≡ j
    drop_near e ds j m q near = ap nearest (sym (distances_are rows b [] i.parts fs i.ready dist (sample_in row) ds (subst (λ z. Measured dist rows b z ds) q m))) ∙ near
