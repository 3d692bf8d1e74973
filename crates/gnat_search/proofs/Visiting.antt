-- The search, turn by turn. Assumes nothing.
use Rattle.std.proofs.Common.{◌≡◌, ℕ, suc, ◌+◌, ◌-◌, ◌*◌, ◌<◌, ◌≤◌, Bool, List, [], ◌∷◌, ◌++◌, length, get_or, Some, None, Option, IsSome, sym, refl, ap, ◌∙◌, subst, arith}
use Rattle.std.specs.List.{slice_get}
use Rattle.std.proofs.Math.Seq.{take-nil}
use Rattle.std.proofs.lemmas.List.{append-nil}
use Rattle.std.proofs.lemmas.Option.{slice_get_within, slice_get-get_or}
use Rattle.hits.specs.declared.Hit.{Hit}
use Rattle.hits.specs.Lists.{over}
use Rattle.gnat_theory.specs.Tree.{Tree, Parts, pivots}
use Rattle.gnat_theory.specs.Tree.Parts.{none, part}
use Rattle.gnat_theory.specs.Searching.{Want, State, start, survey, searched}
use Rattle.gnat_theory.specs.Pending.{unstruck, turn, searched_all}
use Rattle.gnat_theory.specs.Shapes.{pivot_count, part_count, weight}
use Rattle.gnat_theory.proofs.Turns.{weight_append, length_weight, turn_step, turn_falls}
use Rattle.gnat_rows.specs.declared.Leaf.{Leaf}
use Rattle.gnat_rows.specs.declared.Branch.{Branch}
use Rattle.gnat_rows.specs.declared.Node.{Node}
use Rattle.gnat_rows.specs.declared.Node.TheVariants as node
use Rattle.gnat_rows.specs.declared.Row.{Row}
use Rattle.gnat_rows.specs.Shows.{Shows}
use Rattle.gnat_search.specs.declared.Aim.{Aim}
use Rattle.gnat_search.specs.declared.found.Found.{Found}
use Rattle.gnat_search.specs.Wants.{want, Counted, Kept}
use Rattle.gnat_search.specs.Nodes.{open_rows, LeafShown, BranchShown, LeafMeasured, BranchSurveyed, Waiting, Searchable, Visited}
use Rattle.gnat_search.proofs.Keeping.{kept_long}
use Rattle.gnat_rows.proofs.Changes.{same_row}
use Rattle.gnat_search.proofs.Waiting.{Last, waiting_length, waiting_append, waiting_last, waiting_open, shown_leaf, shown_branch, shows_same}
use Rattle.gnat_search.proofs.Weighing.{pending_below, pending_is}

-- nothing was taken, so nothing was there
pub none_pending : (is : List ℕ) (o : Option ℕ) → (0 < length is → IsSome o) → ((x : ℕ) → o ≡ Some x → ⊥) → is ≡ []
none_pending [] o s n = refl
none_pending (i ∷ is) None s n = let e = s (omega arith) in absurd cc
none_pending (i ∷ is) (Some x) s n = absurd (n x refl)

parts_few : {E : Type 0} (ps : Parts E) → length (pivots ps) ≤ part_count ps
parts_few none = omega arith
parts_few (part u col t rest) = omega (arith, parts_few rest)

-- a node that shows a tree with at most so many pivots
module _ {E : Type 0} (rows : List (Row E)) (most : ℕ) (n : Node) (s : Searchable rows most n) where
  pub leaf_shown : (l : Leaf) → n ≡ node.Leaf l → LeafShown rows l
  leaf_shown l e = let z = shown_leaf rows n s.0 s.1 l e s.2 in (z.0, z.2, z.3, z.4)

  pub branch_shown : (b : Branch) → n ≡ node.Branch b → BranchShown rows b
  branch_shown b e = let z = shown_branch rows n s.0 s.1 b e s.2 in (z.0, s.1, z.2, z.3, z.4)

  -- its children are no more than the tree has pivots
  pub branch_fits : (b : Branch) → n ≡ node.Branch b → b.count ≤ most
  branch_fits b e = let z = shown_branch rows n s.0 s.1 b e s.2 in omega (arith, z.2, parts_few z.0, ap pivot_count z.1, s.3)

-- a turn with one node
module _ {E : Type 0} (rows : List (Row E)) (dist : E → E → ℕ) (q : E) (aim : Aim) (n : Node) where
  pub leaf_visited : (l : Leaf) → n ≡ node.Leaf l → (is : List ℕ) (list new : List Hit) (p r : Found) → LeafMeasured rows dist q aim l list new p r → Visited rows dist q aim n list new p r is is
  leaf_visited l e is list new p r m = λ t fs shows old st k.
      let z = shown_leaf rows n t fs l e shows in
      subst (λ u. Kept old new r (turn dist q (want aim (length list)) u st).1 × ((ks : List ℕ) × (is ≡ is ++ ks) × Waiting rows ks (turn dist q (want aim (length list)) u st).0)) (sym z.1)
      (m z.0 z.4 old st k, ([], sym (append-nil is), tt))

  pub branch_visited : (b : Branch) → n ≡ node.Branch b → (is js : List ℕ) (list new : List Hit) (p r : Found) (flags : List Bool) → BranchSurveyed rows dist q aim b list new p r flags → js ≡ is ++ open_rows b.pivots flags 0 b.count
      → Visited rows dist q aim n list new p r is js
  branch_visited b e is js list new p r flags m pushed = λ t fs shows old st k.
      let z = shown_branch rows n t fs b e shows in
      let w = want aim (length list) in
      let known = m z.0 fs z.2 z.4 old st k in
      let opened : Waiting rows (open_rows b.pivots flags 0 b.count) (unstruck z.0 (survey dist q w z.0 [] st).0) =
      subst (λ c. Waiting rows (open_rows b.pivots flags 0 c) (unstruck z.0 (survey dist q w z.0 [] st).0)) (sym z.2) (waiting_open rows b flags (survey dist q w z.0 [] st).0 known.1 z.0 0 fs (omega (arith, z.2)) z.4) in
      subst (λ u. Kept old new r (turn dist q w u st).1 × ((ks : List ℕ) × (js ≡ is ++ ks) × Waiting rows ks (turn dist q w u st).0)) (sym z.1)
      (known.0, (open_rows b.pivots flags 0 b.count, pushed, opened))

-- What holds of the trees that are pending, the list and the counts: the search of what is pending gives the search of the
-- whole tree, and what is pending bounds what may still be measured.
pub record Still {E : Type 0} (dist : E → E → ℕ) (q : E) (w : Want) (old : List Hit) (tree : Tree E) (ts : List (Tree E)) (list : List Hit) (p : Found) : Type 0 where
  pub state : State
  pub gives : searched_all dist q w ts state ≡ searched dist q w tree start
  pub keeps : Kept old list p state
  pub light : weight ts ≤ 1025
  pub ahead : p.measured + 32 * weight ts ≤ 32800

-- a node is to be visited, and rows are pending
record Visit {E : Type 0} (rows : List (Row E)) (dist : E → E → ℕ) (q : E) (aim : Aim) (root : Node) (old : List Hit) (is : List ℕ) (n : Node) (list : List Hit) (p : Found) : Type 0 where
  tree : Tree E
  fs : List ℕ
  roots : Shows rows root tree fs
  ts : List (Tree E)
  waits : Waiting rows is ts
  here : Tree E
  hs : List ℕ
  shows : Shows rows n here hs
  still : Still dist q (want aim (length old)) old tree (ts ++ (here ∷ [])) list p

-- rows are pending
pub record Pause {E : Type 0} (rows : List (Row E)) (dist : E → E → ℕ) (q : E) (aim : Aim) (root : Node) (old : List Hit) (is : List ℕ) (list : List Hit) (p : Found) : Type 0 where
  pub tree : Tree E
  pub fs : List ℕ
  pub roots : Shows rows root tree fs
  pub ts : List (Tree E)
  pub waits : Waiting rows is ts
  pub still : Still dist q (want aim (length old)) old tree ts list p

module _ {E : Type 0} (rows : List (Row E)) (dist : E → E → ℕ) (q : E) (aim : Aim) (root : Node) (old : List Hit) where
  module _ (is : List ℕ) (n : Node) (list : List Hit) (p : Found) (v : Visit rows dist q aim root old is n list p) where
    load : weight (v.ts ++ (v.here ∷ [])) ≡ weight v.ts + suc (pivot_count v.here)
    load = omega (arith, weight_append v.ts (v.here ∷ []))

    -- all children have a place
    visit_shown : Searchable rows (1024 - length is) n
    visit_shown = (v.here, v.hs, v.shows, omega (arith, load, v.still.light, waiting_length rows is v.ts v.waits, length_weight v.ts))

    -- a turn is made
    module _ (js : List ℕ) (new : List Hit) (r : Found) (c : Counted p r 32) (made : Visited rows dist q aim n list new p r is js) where
      turned : (z : Pause rows dist q aim root old js new r) × (weight z.ts < weight (v.ts ++ (v.here ∷ [])))
      turned =
          let st = v.still.state in
          let w = want aim (length old) in
          let m = subst (λ k. Kept old new r (turn dist q (want aim k) v.here st).1 × ((ks : List ℕ) × (js ≡ is ++ ks) × Waiting rows ks (turn dist q (want aim k) v.here st).0)) (kept_long old list p st v.still.keeps) (made v.here v.hs v.shows old st v.still.keeps) in
          let falls : weight (v.ts ++ (turn dist q w v.here st).0) < weight (v.ts ++ (v.here ∷ [])) = turn_falls dist q w v.ts v.here st in (
            record {
              tree = v.tree;
              fs = v.fs;
              roots = v.roots;
              ts = v.ts ++ (turn dist q w v.here st).0;
              waits = subst (λ z. Waiting rows z (v.ts ++ (turn dist q w v.here st).0)) (sym m.1.1) (waiting_append rows is m.1.0 v.ts (turn dist q w v.here st).0 v.waits m.1.2);
              still = record {
                state = (turn dist q w v.here st).1;
                gives = sym (turn_step dist q w v.ts v.here st) ∙ v.still.gives;
                keeps = m.0;
                light = omega (arith, v.still.light);
                ahead = omega (arith, v.still.ahead, c);
              };
            },
            falls,
          )

  -- the root is visited first, and nothing is counted before
  first_visit : (p : Found) → (p.found ≡ 0) × ((p.held ≡ 0) × (p.measured ≡ 0)) → Searchable rows 1024 root → Visit rows dist q aim root old [] root old p
  first_visit p zeros s = record {
    tree = s.0;
    fs = s.1;
    roots = s.2;
    ts = [];
    waits = tt;
    here = s.0;
    hs = s.1;
    shows = s.2;
    still = record {
      state = start;
      gives = refl;
      keeps = record { finds = zeros.0; holds = omega (arith, zeros.1.0); measures = zeros.1.1; writes = ap (λ z. over z old) (sym (take-nil (length old))); sorted = tt };
      light = omega (arith, s.3);
      ahead = omega (arith, zeros.1.1, s.3);
    };
  }

  pub root_visited : (p : Found) → (p.found ≡ 0) × ((p.held ≡ 0) × (p.measured ≡ 0)) → Searchable rows 1024 root → (is js : List ℕ) (new : List Hit) (r : Found) → is ≡ [] → Counted p r 32 → Visited rows dist q aim root old new p r is js → Pause rows dist q aim root old js new r
  root_visited p zeros s is js new r empty c made = (turned [] root old p (first_visit p zeros s) js new r c (subst (λ z. Visited rows dist q aim root old new p r z js) empty made)).0

  module _ (list : List Hit) (p : Found) where
    -- nothing is pending
    pub search_ends : (is : List ℕ) → is ≡ [] → Pause rows dist q aim root old is list p → (t : Tree E) (fs : List ℕ) → Shows rows root t fs → Kept old list p (searched dist q (want aim (length old)) t start)
    search_ends is e x t fs s = go x.ts (subst (λ z. Waiting rows z x.ts) e x.waits) x.still.gives
      where
        go : (ts : List (Tree E)) → Waiting rows [] ts → searched_all dist q (want aim (length old)) ts x.still.state ≡ searched dist q (want aim (length old)) x.tree start → Kept old list p (searched dist q (want aim (length old)) t start)
        go [] w' g = subst (Kept old list p) (g ∙ ap (λ z. searched dist q (want aim (length old)) z start) (shows_same rows root x.tree t x.fs fs x.roots s)) x.still.keeps
        go (u ∷ us) w' g = absurd w'

    -- the last of the pending rows is visited next
    module _ (all is : List ℕ) (i : ℕ) (split : all ≡ is ++ (i ∷ [])) (x : Pause rows dist q aim root old all list p) where
      last : Last rows is i x.ts
      last = waiting_last rows is i x.ts (subst (λ z. Waiting rows z x.ts) split x.waits)

      pub next_within : i < length rows
      next_within = slice_get_within rows i last.row last.at

      -- the row, which is read with this default
      module _ (d : Row E) where
        abbrev row : Row E
        row = get_or rows i d

        at : slice_get rows i ≡ Some row
        at = slice_get-get_or rows i d next_within

        abbrev next : Visit rows dist q aim root old is row.node list p
        next = record {
          tree = x.tree;
          fs = x.fs;
          roots = x.roots;
          ts = last.before;
          waits = last.waits;
          here = last.tree;
          hs = last.fs;
          shows = subst (λ r. Shows rows r.node last.tree last.fs) (same_row rows i last.row row last.at at) last.shows;
          still = subst (λ z. Still dist q (want aim (length old)) old x.tree z list p) last.split x.still;
        }

        pub next_shown : Searchable rows (1024 - length is) row.node
        next_shown = visit_shown is row.node list p next

        module _ (js : List ℕ) (new : List Hit) (r : Found) (c : Counted p r 32) (made : Visited rows dist q aim row.node list new p r is js) where
          pub next_pause : Pause rows dist q aim root old js new r
          next_pause = (turned is row.node list p next js new r c made).0

          pub next_less : pending_below rows js < pending_below rows all
          next_less =
              let z = turned is row.node list p next js new r c made in
              omega (arith, z.1, pending_is rows js z.0.ts z.0.still.light z.0.waits, pending_is rows all x.ts x.still.light x.waits, ap weight last.split)
