-- Pending rows and the trees that they show. Assumes nothing.
use Rattle.std.proofs.Common.{◌≡◌, ℕ, suc, ◌+◌, ◌≤◌, Bool, true, false, cond, List, [], ◌∷◌, ◌++◌, length, get_or, Some, sym, refl, ap, ◌∙◌, subst, arith}
use Rattle.std.specs.List.{slice_get}
use Rattle.hits.specs.Samples.{Sample}
use Rattle.gnat_theory.specs.Tree.{Tree, Parts, pivots}
use Rattle.gnat_theory.specs.Tree.Tree.{leaf, branch}
use Rattle.gnat_theory.specs.Tree.Parts.{none, part}
use Rattle.gnat_theory.specs.Searching.{Sight, struck}
use Rattle.gnat_theory.specs.Pending.{unstruck}
use Rattle.gnat_rows.specs.declared.Leaf.{Leaf}
use Rattle.gnat_rows.specs.declared.Branch.{Branch}
use Rattle.gnat_rows.specs.declared.Node.{Node}
use Rattle.gnat_rows.specs.declared.Node.TheVariants as node
use Rattle.gnat_rows.specs.declared.Row.{Row}
use Rattle.gnat_rows.specs.Shows.{HoldsSamples, Shows, ShowsParts, sample_in, pivot_in, held}
use Rattle.gnat_search.specs.Nodes.{Flags, open_rows, Waiting}
use Rattle.gnat_rows.proofs.Changes.{same_row}

module _ {E : Type 0} (rows : List (Row E)) where
  pub waiting_length : (is : List ℕ) (ts : List (Tree E)) → Waiting rows is ts → length is ≡ length ts
  waiting_length [] [] w = refl
  waiting_length [] (t ∷ ts) w = absurd w
  waiting_length (i ∷ is) [] w = absurd w
  waiting_length (i ∷ is) (t ∷ ts) w = ap suc (waiting_length is ts w.4)

  pub waiting_append : (is js : List ℕ) (ts us : List (Tree E)) → Waiting rows is ts → Waiting rows js us → Waiting rows (is ++ js) (ts ++ us)
  waiting_append [] js [] us w v = v
  waiting_append [] js (t ∷ ts) us w v = absurd w
  waiting_append (i ∷ is) js [] us w v = absurd w
  waiting_append (i ∷ is) js (t ∷ ts) us w v = (w.0, w.1, w.2, w.3, waiting_append is js ts us w.4 v)

  -- the last of them
  pub record Last (is : List ℕ) (i : ℕ) (ts : List (Tree E)) : Type 0 where
    pub before : List (Tree E)
    pub tree : Tree E
    pub split : ts ≡ before ++ (tree ∷ [])
    pub waits : Waiting rows is before
    pub row : Row E
    pub fs : List ℕ
    pub at : slice_get rows i ≡ Some row
    pub shows : Shows rows row.node tree fs

  pub waiting_last : (is : List ℕ) (i : ℕ) (ts : List (Tree E)) → Waiting rows (is ++ (i ∷ [])) ts → Last is i ts
  waiting_last [] i [] w = absurd w
  waiting_last [] i (t ∷ []) w = record { before = []; tree = t; split = refl; waits = tt; row = w.0; fs = w.1; at = w.2; shows = w.3 }
  waiting_last [] i (t ∷ (u ∷ ts)) w = absurd w.4
  waiting_last (j ∷ is) i [] w = absurd w
  waiting_last (j ∷ is) i (t ∷ ts) w =
      let l = waiting_last is i ts w.4 in
      record { before = t ∷ l.before; tree = l.tree; split = ap (λ z. t ∷ z) l.split; waits = (w.0, w.1, w.2, w.3, l.waits); row = l.row; fs = l.fs; at = l.at; shows = l.shows }

  -- the rows of the children that are not struck
  pub waiting_open : (b : Branch) (flags : List Bool) (ss : List Sight) → Flags b flags ss → (ps : Parts E) (j : ℕ) (fs : List ℕ) → j + length (pivots ps) ≡ b.count → ShowsParts rows b j ps fs
      → Waiting rows (open_rows b.pivots flags j (length (pivots ps))) (unstruck ps ss)
  waiting_open b flags ss f none j fs n s = tt
  waiting_open b flags ss f (part p col t rest) j fs n s = go (waiting_open b flags ss f rest (suc j) s.2 (omega arith) s.7) (struck ss col) (f j (omega arith) ∙ ap (struck ss) s.5)
    where
      go : Waiting rows (open_rows b.pivots flags (suc j) (length (pivots rest))) (unstruck rest ss) → (x : Bool) → get_or flags j false ≡ x
          → Waiting rows (cond (get_or flags j false) (open_rows b.pivots flags (suc j) (length (pivots rest))) (get_or b.pivots j 0 ∷ open_rows b.pivots flags (suc j) (length (pivots rest)))) (cond x (unstruck rest ss) (t ∷ unstruck rest ss))
      go ih true e = subst (λ y. Waiting rows (cond y (open_rows b.pivots flags (suc j) (length (pivots rest))) (get_or b.pivots j 0 ∷ open_rows b.pivots flags (suc j) (length (pivots rest)))) (unstruck rest ss)) (sym e) ih
      go ih false e = subst (λ y. Waiting rows (cond y (open_rows b.pivots flags (suc j) (length (pivots rest))) (get_or b.pivots j 0 ∷ open_rows b.pivots flags (suc j) (length (pivots rest)))) (t ∷ unstruck rest ss)) (sym e) (s.0, s.1, s.3, s.6, ih)

  -- what a node shows, by its kind
  pub shown_leaf : (n : Node) (t : Tree E) (fs : List ℕ) (l : Leaf) → n ≡ node.Leaf l → Shows rows n t fs → (xs : List (Sample E)) × (t ≡ leaf xs) × (length l.rows ≡ 32) × (l.count ≤ 32) × HoldsSamples rows (held l) xs
  shown_leaf n (leaf xs) fs l e s =
      let same : s.0 ≡ l = cc in
      (xs, refl, ap (λ z. length z.rows) (sym same) ∙ s.2, subst (λ z. z.count ≤ 32) same s.3, subst (λ z. HoldsSamples rows z xs) (sym s.4 ∙ ap held same) s.5)
  shown_leaf n (branch ps) fs l e s = let z : ◌≡◌ {A = ℕ} 0 1 = cc in absurd (omega arith)

  pub shown_branch : (n : Node) (t : Tree E) (fs : List ℕ) (b : Branch) → n ≡ node.Branch b → Shows rows n t fs → (ps : Parts E) × (t ≡ branch ps) × (b.count ≡ length (pivots ps)) × (b.count ≤ 8) × ShowsParts rows b 0 ps fs
  shown_branch n (leaf xs) fs b e s = let z : ◌≡◌ {A = ℕ} 0 1 = cc in absurd (omega arith)
  shown_branch n (branch ps) fs b e s =
      let same : s.0 ≡ b = cc in
      (ps, refl, subst (λ z. z.count ≡ length (pivots ps)) same s.2, subst (λ z. z.count ≤ 8) same s.3, subst (λ z. ShowsParts rows z 0 ps fs) same s.4)

  holds_same : (is : List ℕ) (xs ys : List (Sample E)) → HoldsSamples rows is xs → HoldsSamples rows is ys → xs ≡ ys
  holds_same [] [] [] h k = refl
  holds_same [] [] (y ∷ ys) h k = absurd k
  holds_same [] (x ∷ xs) ys h k = absurd h
  holds_same (i ∷ is) [] ys h k = absurd h
  holds_same (i ∷ is) (x ∷ xs) [] h k = absurd k
  holds_same (i ∷ is) (x ∷ xs) (y ∷ ys) h k =
      let one : x ≡ y = sym h.2 ∙ (ap sample_in (same_row rows i h.0 k.0 h.1 k.1) ∙ k.2) in
      ap (λ z. z ∷ xs) one ∙ ap (λ z. y ∷ z) (holds_same is xs ys h.3 k.3)

  -- a node shows one tree at most
  mutual
    pub shows_same : (n : Node) (t u : Tree E) (fs gs : List ℕ) → Shows rows n t fs → Shows rows n u gs → t ≡ u
    shows_same n (leaf xs) u fs gs s v =
        let l = shown_leaf n u gs s.0 s.1 v in
        ap leaf (holds_same (held s.0) xs l.0 (subst (λ z. HoldsSamples rows z xs) (sym s.4) s.5) l.4) ∙ sym l.1
    shows_same n (branch ps) u fs gs s v =
        let b = shown_branch n u gs s.0 s.1 v in
        ap branch (parts_same s.0 0 ps b.0 fs gs (sym s.2 ∙ b.2) s.4 b.4) ∙ sym b.1

    parts_same : (b : Branch) (j : ℕ) (ps qs : Parts E) (fs gs : List ℕ) → length (pivots ps) ≡ length (pivots qs) → ShowsParts rows b j ps fs → ShowsParts rows b j qs gs → ps ≡ qs
    parts_same b j none none fs gs n s v = refl
    parts_same b j none (part p col t rest) fs gs n s v = absurd (omega arith)
    parts_same b j (part p col t rest) none fs gs n s v = absurd (omega arith)
    parts_same b j (part p col t rest) (part p' col' t' rest') fs gs n s v =
        let row : s.0 ≡ v.0 = same_row rows (get_or b.pivots j 0) s.0 v.0 s.3 v.3 in
        let one : p ≡ p' = sym s.4 ∙ (ap pivot_in row ∙ v.4) in
        let range : col ≡ col' = sym s.5 ∙ v.5 in
        let below : t ≡ t' = shows_same s.0.node t t' s.1 v.1 s.6 (subst (λ r. Shows rows r.node t' v.1) (sym row) v.6) in
        let others : rest ≡ rest' = parts_same b (suc j) rest rest' s.2 v.2 (omega arith) s.7 v.7 in
        ap (λ z. part z col t rest) one ∙ (ap (λ z. part p' z t rest) range ∙ (ap (λ z. part p' col' z rest) below ∙ ap (λ z. part p' col' t' z) others))
