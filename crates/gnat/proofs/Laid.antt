-- A GNAT's tree with the rows that it lies in, which are functions of the rows. Assumes nothing.
use Rattle.std.proofs.Common.{◌≡◌, ℕ, zero, suc, ◌+◌, ◌<◌, ◌≤◌, Bool, true, false, cond, List, [], ◌∷◌, ◌++◌, length, take, Some, None, Option, sym, refl, ap, ◌∙◌, subst, inl, inr, ⊎_elim, arith}
use Rattle.std.specs.List.{slice_get, AllByRecursion}
use Rattle.std.proofs.lemmas.List.{length-map, length-take-le}
use Rattle.hits.specs.Samples.{Sample, Among, Rising, numbers_of}
use Rattle.hits.proofs.Among.{all_among, among_left, among_right, among_append}
use Rattle.gnat_theory.specs.Tree.{Tree, Parts, Pivot, sample_of, gathered_parts, if_standing, always, standing, members}
use Rattle.gnat_theory.specs.Tree.Tree.{leaf, branch}
use Rattle.gnat_theory.specs.Tree.Parts.{none, part}
use Rattle.gnat_theory.specs.Keeping.{Files}
use Rattle.gnat_theory.specs.Ranges.{Ranged, Placed}
use Rattle.gnat_theory.specs.Shapes.{Branching, Leaves}
use Rattle.gnat_theory.specs.Shuffles.{Shuffle, Apart, SameTimes, times}
use Rattle.gnat_theory.proofs.Counting.{times_shuffle, shuffle_by, same_times, shuffle_numbers}
use Rattle.gnat_theory.proofs.Shuffling.{among_shuffle, shuffle_back, length_shuffle}
use Rattle.gnat_theory.proofs.Theorems.{rows_counted}
use Rattle.gnat_rows.specs.declared.Node.{Node}
use Rattle.gnat_rows.specs.declared.Row.{Row}
use Rattle.gnat_rows.specs.Lying.{Distinct}
use Rattle.gnat_rows.specs.Shows.{Shows, sample_in}
use Rattle.gnat_rows.specs.Trees.{sample_on, samples_at, rows_of, height}
use Rattle.gnat_rows.proofs.Showing.{row_among, shows_length}
use Rattle.gnat_rows.proofs.Trees.{shown_tree, height_bound}
use Rattle.gnat_rows.proofs.Whole.{is_shown, shows_whole}
use Rattle.gnat_order.specs.Order.{Within, places}
use Rattle.gnat.specs.States.{State, capacity_of, in_use, standing_in, tree_in, GnatSound, FilesAll}

-- the same facts of a tree and of rows that are not yet known to be those that the rows show
pub record LaidOut {E : Type 0} (dist : E → E → ℕ) (g : State E) : Type 0 where
  pub last_bound : g.last ≤ 65535
  pub in_use : g.standing + g.marked ≤ capacity_of g
  pub within : Within (take (capacity_of g) (places g.rows)) (capacity_of g)
  pub apart : Distinct (take (capacity_of g) (places g.rows))
  pub rising : Rising 0 g.last (standing_in g)
  pub tree : Tree E
  pub lies : List ℕ
  pub shows : Shows g.rows g.root tree lies
  pub lists : Shuffle ℕ lies (take (g.standing + g.marked) (places g.rows))
  pub files : Files dist g.settings.degree g.settings.bucket (standing_in g) tree
  pub numbers : Apart (members tree)
  pub given : AllByRecursion (λ s. s.number ≤ g.last) (members tree)

-- a tree in at most 1,024 rows is shown whole
pub shallow : {E : Type 0} (dist : E → E → ℕ) (rows : List (Row E)) (n : Node) (t : Tree E) (fs : List ℕ) (degree bucket : ℕ) (xs : List (Sample E)) → 2 ≤ degree → Files dist degree bucket xs t → Shows rows n t fs → length fs ≤ 1024 → height t < 1025
shallow dist rows n t fs degree bucket xs two files shows few =
    omega (arith, height_bound degree (omega arith) t files.branching, rows_counted dist t, shows_length rows n t fs shows)

module _ {E : Type 0} where
  -- what stands is in the tree
  standing_member : (s : Sample E) (p : Pivot E) → Among s (if_standing p) → Among s (always p)
  standing_member s p m = go p.marked m
    where
      go : (b : Bool) → Among s (cond b [] (sample_of p ∷ [])) → Among s (sample_of p ∷ [])
      go true k = absurd k
      go false k = k

  module _ (s : Sample E) where
    mutual
      standing_members : (t : Tree E) → Among s (standing t) → Among s (members t)
      standing_members (leaf xs) m = m
      standing_members (branch ps) m = standing_parts ps m

      standing_parts : (ps : Parts E) → Among s (gathered_parts if_standing ps) → Among s (gathered_parts always ps)
      standing_parts none m = m
      standing_parts (part p column t rest) m =
          let g = members t ++ gathered_parts always rest in
          ⊎_elim (λ k. among_left s (always p) g (standing_member s p k))
          (λ k. among_right s (always p) g
          (⊎_elim (λ j. among_left s (members t) (gathered_parts always rest) (standing_members t j))
          (λ j. among_right s (members t) (gathered_parts always rest) (standing_parts rest j))
          (among_append s (standing t) (gathered_parts if_standing rest) k)))
          (among_append s (if_standing p) (standing t ++ gathered_parts if_standing rest) m)

  -- where numbers are apart, a number tells its sample
  same_number : (x y : Sample E) (zs : List (Sample E)) → Apart zs → Among x zs → Among y zs → x.number ≡ y.number → x ≡ y
  same_number x y [] a m k e = absurd m
  same_number x y (z ∷ zs) a (inl i) (inl j) e = i ∙ sym j
  same_number x y (z ∷ zs) a (inl i) (inr k) e = absurd (all_among (λ u. z.number ≡ u.number → ⊥) y zs a.0 k (ap (λ u. u.number) (sym i) ∙ e))
  same_number x y (z ∷ zs) a (inr m) (inl j) e = absurd (all_among (λ u. z.number ≡ u.number → ⊥) x zs a.0 m (ap (λ u. u.number) (sym j) ∙ sym e))
  same_number x y (z ∷ zs) a (inr m) (inr k) e = same_number x y zs a.1 m k e

  -- a row, and its sample
  record OwnRow (rows : List (Row E)) (is : List ℕ) (x : Sample E) : Type 0 where
    place : ℕ
    row : Row E
    among : Among place is
    there : slice_get rows place ≡ Some row
    own : x ≡ sample_in row

  own_row : (rows : List (Row E)) (is : List ℕ) (x : Sample E) → Among x (samples_at rows is) → OwnRow rows is x
  own_row rows [] x m = absurd m
  own_row rows (i ∷ is) x m = go (λ k. behind (own_row rows is x k)) (slice_get rows i) refl m
    where
      behind : OwnRow rows is x → OwnRow rows (i ∷ is) x
      behind r = record { place = r.place; row = r.row; among = inr r.among; there = r.there; own = r.own }

      go : (Among x (samples_at rows is) → OwnRow rows (i ∷ is) x) → (o : Option (Row E)) → slice_get rows i ≡ o → Among x (sample_on o (samples_at rows is)) → OwnRow rows (i ∷ is) x
      go more None e k = more k
      go more (Some r) e (inl k) = record { place = i; row = r; among = inl refl; there = e; own = k }
      go more (Some r) e (inr k) = more k

among_take : (i a b : ℕ) (is : List ℕ) → Among i (take a is) → Among i (take (a + b) is)
among_take i zero b is m = absurd m
among_take i (suc a) b [] m = absurd m
among_take i (suc a) b (j ∷ is) m =
    let more : suc (a + b) ≡ suc a + b = omega arith in
    subst (λ n. Among i (take n (j ∷ is))) more (⊎_elim inl (λ k. inr (among_take i a b is k)) m)

module _ {E : Type 0} (dist : E → E → ℕ) (g : State E) where
  -- a sound state's tree is laid out in its rows
  module _ (o : GnatSound dist g) where
    abbrev rows_in : List ℕ
    rows_in = rows_of 1025 g.rows g.root

    shows_in : Shows g.rows g.root (tree_in g) rows_in
    shows_in = shows_whole g.rows 1025 g.root o.shown

    lists_in : Shuffle ℕ rows_in (in_use g)
    lists_in = shuffle_numbers rows_in (in_use g) o.lies

    listed_member : (y : Sample E) → Among y (standing_in g) → Among y (members (tree_in g))
    listed_member y m =
        let r = own_row g.rows (take g.standing (places g.rows)) y m in
        let used = among_take r.place g.standing g.marked (places g.rows) r.among in
        subst (λ z. Among z (members (tree_in g))) (sym r.own)
        (row_among g.rows always r.place r.row r.there (inl refl) g.root (tree_in g) rows_in (among_shuffle r.place (in_use g) rows_in (shuffle_back rows_in (in_use g) lists_in) used) shows_in)

    pub files_in : FilesAll dist g
    files_in = record {
      stands = shuffle_by (λ s. s.number) (standing (tree_in g)) (standing_in g) (λ x y m k e. same_number x y (members (tree_in g)) o.numbers (standing_members x (tree_in g) m) (listed_member y k) e) o.stands;
      branching = o.branching;
      leaves = o.leaves;
      ranged = o.ranged;
      placed = o.placed;
    }

    pub laid_out : LaidOut dist g
    laid_out = record {
      last_bound = o.last_bound;
      in_use = o.few;
      within = o.within;
      apart = o.apart;
      rising = o.rising;
      tree = tree_in g;
      lies = rows_in;
      shows = shows_in;
      lists = lists_in;
      files = files_in;
      numbers = o.numbers;
      given = o.given;
    }

  -- and a state with a tree laid out in its rows is sound
  module _ (o : LaidOut dist g) where
    -- how many rows the tree lies in
    pub rows_in_tree : length o.lies ≡ g.standing + g.marked
    rows_in_tree = length_shuffle _ _ o.lists ∙ length-take-le (g.standing + g.marked) (places g.rows) (omega (arith, length-map g.rows (λ (r : Row E). r.place), o.in_use))

    not_deep : height o.tree < 1025
    not_deep = shallow dist g.rows g.root o.tree o.lies g.settings.degree g.settings.bucket (standing_in g) g.settings.two o.files o.shows (omega (arith, rows_in_tree, o.in_use))

    pub whole_tree : tree_in g ≡ o.tree
    whole_tree = shown_tree g.rows o.tree 1025 g.root o.lies o.shows not_deep

    pub sound_of : GnatSound dist g
    sound_of =
        let shown = is_shown g.rows o.tree 1025 g.root o.lies o.shows not_deep in
        let tree = sym whole_tree in
        record {
          last_bound = o.last_bound;
          few = o.in_use;
          within = o.within;
          apart = o.apart;
          rising = o.rising;
          shown = shown.0;
          lies = subst (λ is. SameTimes is (in_use g)) (sym shown.1) (same_times o.lies (in_use g) o.lists);
          stands = λ n. ap (λ t. times n (numbers_of (standing t))) whole_tree ∙ times_shuffle (λ s. s.number) n (standing o.tree) (standing_in g) o.files.stands;
          branching = subst (Branching g.settings.degree) tree o.files.branching;
          leaves = subst (Leaves g.settings.bucket) tree o.files.leaves;
          ranged = subst (Ranged dist) tree o.files.ranged;
          placed = subst (Placed dist) tree o.files.placed;
          numbers = subst (λ t. Apart (members t)) tree o.numbers;
          given = subst (λ t. AllByRecursion (λ s. s.number ≤ g.last) (members t)) tree o.given;
        }
