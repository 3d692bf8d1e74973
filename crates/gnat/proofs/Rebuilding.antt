-- The state of a GNAT whose standing samples are filed anew. Assumes nothing.
use Rattle.std.proofs.Common.{◌≡◌, ℕ, suc, ◌+◌, ◌<◌, ◌≤◌, min, List, [], ◌∷◌, ◌++◌, length, get_or, take, drop, replicate, Some, sym, refl, ap, ◌∙◌, subst, arith, take-suc}
use Rattle.std.specs.List.{slice_get, AllByRecursion}
use Rattle.std.proofs.ByRecursion.{All-take, All-get_or}
use Rattle.std.proofs.lemmas.List.{append-nil, length-take, length-take-le, length-map, take_all, take-append-drop, take-take, get_or-take}
use Rattle.hits.specs.Samples.{Sample, Rising}
use Rattle.gnat_theory.specs.Tree.{Tree, members}
use Rattle.gnat_theory.specs.Tree.Tree.{leaf}
use Rattle.gnat_theory.specs.Filing.{filed, filed_all}
use Rattle.gnat_theory.specs.Splitting.{grown, kept_or_split}
use Rattle.gnat_theory.specs.Rebuilding.{rebuilt}
use Rattle.gnat_theory.specs.Keeping.{Files}
use Rattle.gnat_theory.specs.Shuffles.{Shuffle}
use Rattle.gnat_theory.specs.Shuffles.Shuffle.{nothing, after, in_turn}
use Rattle.gnat_theory.proofs.Shuffling.{shuffle_back, shuffle_front, all_shuffle, length_shuffle}
use Rattle.gnat_theory.proofs.Pruning.{apart_shuffle, rising_apart}
use Rattle.gnat_theory.proofs.Theorems.{keeps_tree}
use Rattle.gnat_rows.specs.declared.Node.{Node}
use Rattle.gnat_rows.specs.declared.Row.{Row}
use Rattle.gnat_rows.specs.Rows.{empty}
use Rattle.gnat_rows.specs.Lying.{Distinct, OnlyIn}
use Rattle.gnat_rows.specs.Shows.{Shows, sample_in}
use Rattle.gnat_rows.specs.Trees.{sample_on, samples_at, tree_of}
use Rattle.gnat_rows.proofs.Apart.{distinct_left, distinct_shuffle}
use Rattle.gnat_rows.proofs.Only.{only_none, only_wider, only_then}
use Rattle.gnat_rows.proofs.Trees.{shown_tree}
use Rattle.gnat_order.specs.Order.{Within, places}
use Rattle.gnat_order.proofs.Places.{place_of}
use Rattle.gnat_rows.proofs.Changes.{nth_there}
use Rattle.gnat_order.proofs.Framing.{samples_only, places_only, samples_append}
use Rattle.gnat_filing.specs.Filed.{Ready, FilesIn}
use Rattle.gnat_filing.specs.declared.settings.Settings.{Settings}
use Rattle.gnat.specs.States.{State, capacity_of, listed, standing_in, meaning_of}
use Rattle.gnat.proofs.Laid.{LaidOut, shallow}
use Rattle.gnat.specs.Refiling.{Refiled}
use Rattle.gnat.specs.Lawful.{in_rows, listed_within}

module _ {E : Type 0} (dist : E → E → ℕ) where
  filed_push : (became : List (Sample E) → Tree E) (xs : List (Sample E)) (s : Sample E) (t : Tree E) → filed_all dist became (xs ++ (s ∷ [])) t ≡ filed dist became s (filed_all dist became xs t)
  filed_push became [] s t = refl
  filed_push became (x ∷ xs) s t = filed_push became xs s (filed dist became x t)

  -- one more sample filed anew
  rebuilt_more : (degree bucket : ℕ) (xs : List (Sample E)) (s : Sample E) → rebuilt dist degree bucket (xs ++ (s ∷ [])) ≡ grown dist degree bucket s (rebuilt dist degree bucket xs)
  rebuilt_more degree bucket xs s = filed_push (kept_or_split dist degree bucket) xs s (leaf [])

  module _ (degree bucket : ℕ) (rows : List (Row E)) (order : List ℕ) where
    module _ (within : Within order (length rows)) (j : ℕ) (inside : j < length order) (new later : List (Row E)) (root grown_root : Node) (f : Refiled dist degree bucket rows order j new root) (row : Row E) (is_row : slice_get new (get_or order j 0) ≡ Some row)
        (lies : List ℕ) (shows : Shows later grown_root (grown dist degree bucket (sample_in row) (rebuilt dist degree bucket (samples_at rows (take j order)))) lies) (same_rows : Shuffle ℕ lies (get_or order j 0 ∷ f.lies)) (only : OnlyIn (get_or order j 0 ∷ f.lies) new later) (as_long : length later ≡ length new) where
      more : take (suc j) order ≡ take j order ++ (get_or order j 0 ∷ [])
      more = take-suc order j 0 inside

      -- the sample is as it was
      same_sample : samples_at rows (get_or order j 0 ∷ []) ≡ sample_in row ∷ []
      same_sample =
          let old = nth_there rows (get_or order j 0) (All-get_or (λ k. k < length rows) order j 0 inside within) in
          let n = f.only.samples (get_or order j 0) old.0 old.1 in
          let one : n.0 ≡ row = same_some (sym n.1 ∙ is_row) in
          ap (λ r. sample_on r []) old.1 ∙ ap (λ x. x ∷ []) (sym n.2.0 ∙ ap sample_in one)
        where
          same_some : {x y : Row E} → Some x ≡ Some y → x ≡ y
          same_some e = cc

      next_tree : rebuilt dist degree bucket (samples_at rows (take (suc j) order)) ≡ grown dist degree bucket (sample_in row) (rebuilt dist degree bucket (samples_at rows (take j order)))
      next_tree =
          ap (λ is. rebuilt dist degree bucket (samples_at rows is)) more
          ∙ (ap (rebuilt dist degree bucket) (samples_append rows (take j order) (get_or order j 0 ∷ []) ∙ ap (λ z. samples_at rows (take j order) ++ z) same_sample)
          ∙ rebuilt_more degree bucket (samples_at rows (take j order)) (sample_in row))

      in_order : Shuffle ℕ lies (take (suc j) order)
      in_order =
          let turned : Shuffle ℕ (take j order ++ (get_or order j 0 ∷ [])) (get_or order j 0 ∷ take j order) = subst (λ z. Shuffle ℕ (take j order ++ (get_or order j 0 ∷ [])) (get_or order j 0 ∷ z)) (append-nil (take j order)) (shuffle_front (take j order) (get_or order j 0) []) in
          in_turn _ _ _ same_rows (in_turn _ _ _ (after (get_or order j 0) _ _ f.same_rows) (subst (Shuffle ℕ (get_or order j 0 ∷ take j order)) (sym more) (shuffle_back _ _ turned)))

      pub refiled_more : Refiled dist degree bucket rows order (suc j) later grown_root
      refiled_more = record {
        lies = lies;
        shows = subst (λ t. Shows later grown_root t lies) (sym next_tree) shows;
        same_rows = in_order;
        only = only_then rows new later order f.only (only_wider new later (get_or order j 0 ∷ f.lies) order (λ i a. all_shuffle (λ k. i ≡ k → ⊥) _ _ (in_turn _ _ _ (shuffle_back _ _ in_order) same_rows) (All-take (λ k. i ≡ k → ⊥) (suc j) order a)) only);
        as_long = as_long ∙ f.as_long;
      }

    -- the next row may be filed
    module _ (two : 2 ≤ degree) (room : degree ≤ bucket) (within : Within order (length rows)) (apart : Distinct order) (j : ℕ) (inside : j < length order) (new : List (Row E)) (root : Node) (f : Refiled dist degree bucket rows order j new root) where
      abbrev filed_tree : Tree E
      filed_tree = rebuilt dist degree bucket (samples_at rows (take j order))

      so_far : Files dist degree bucket (samples_at rows (take j order)) filed_tree
      so_far = ((keeps_tree dist degree bucket (omega (arith, two)) room).by_rebuilding (samples_at rows (take j order))).files

      next_apart : Distinct (get_or order j 0 ∷ f.lies)
      next_apart =
          let front : Distinct (take (suc j) order) = distinct_left (take (suc j) order) (drop (suc j) order) (subst Distinct (sym (take-append-drop (suc j) order)) apart) in
          let turned : Shuffle ℕ (take j order ++ (get_or order j 0 ∷ [])) (get_or order j 0 ∷ take j order) = subst (λ z. Shuffle ℕ (take j order ++ (get_or order j 0 ∷ [])) (get_or order j 0 ∷ z)) (append-nil (take j order)) (shuffle_front (take j order) (get_or order j 0) []) in
          distinct_shuffle _ _ (in_turn _ _ _ turned (after (get_or order j 0) _ _ (shuffle_back _ _ f.same_rows))) (subst Distinct (take-suc order j 0 inside) front)

      pub ready_next : Ready degree bucket new root (get_or order j 0) filed_tree f.lies
      ready_next = record {
        shows = f.shows;
        apart = next_apart;
        within = omega (arith, All-get_or (λ k. k < length rows) order j 0 inside within, f.as_long);
        branching = so_far.branching;
        leaves = so_far.leaves;
      }

    -- before any is filed
    pub refiled_none : Refiled dist degree bucket rows order 0 rows empty
    refiled_none = record { lies = []; shows = (record { count = 0; rows = replicate 32 0 }, refl, refl, omega arith, refl, tt); same_rows = nothing; only = only_none rows order; as_long = refl }

-- the row that is listed next is filed
module _ {E : Type 0} (dist : E → E → ℕ) (degree bucket : ℕ) (rows : List (Row E)) (standing : ℕ) (two : 2 ≤ degree) (room : degree ≤ bucket) (fits : standing ≤ length rows) (within : Within (take standing (places rows)) (length rows)) (apart : Distinct (take standing (places rows)))
    (j : ℕ) (inside : j < standing) (new : List (Row E)) (root : Node) (f : Refiled dist degree bucket rows (take standing (places rows)) j new root) where
  abbrev order : List ℕ
  order = take standing (places rows)

  all_listed : length order ≡ standing
  all_listed = length-take-le standing (places rows) (omega (arith, fits, length-map rows (λ (r : Row E). r.place)))

  pub next_place : (at : ℕ) (row : Row E) → slice_get new j ≡ Some row → at ≡ row.place → at ≡ get_or order j 0
  next_place at row is_row is-place =
      is-place ∙ (sym (place_of new j row is_row) ∙ (ap (λ ps. get_or ps j 0) (places_only order rows new f.only f.as_long) ∙ sym (get_or-take standing (places rows) j 0 inside)))

  next_ready : Ready degree bucket new root (get_or order j 0) (rebuilt dist degree bucket (samples_at rows (take j order))) f.lies
  next_ready = ready_next dist degree bucket rows order two room within apart j (omega (arith, all_listed)) new root f

  pub may_file : (at : ℕ) → at ≡ get_or order j 0 → Ready degree bucket new root at (rebuilt dist degree bucket (samples_at rows (take j order))) f.lies
  may_file at same = subst (λ i. Ready degree bucket new root i (rebuilt dist degree bucket (samples_at rows (take j order))) f.lies) (sym same) next_ready

  pub has_filed : (at : ℕ) → at ≡ get_or order j 0 → (later : List (Row E)) (after_it : Node) → FilesIn dist degree bucket new later root after_it at → length later ≡ length new → Refiled dist degree bucket rows order (suc j) later after_it
  has_filed at same later after_it files as_long =
      let r = nth_there new (get_or order j 0) next_ready.within in
      let l = subst (λ i. FilesIn dist degree bucket new later root after_it i) same files _ f.lies r.0 next_ready r.1 in
      refiled_more dist degree bucket rows order within j (omega (arith, all_listed)) new later root after_it f r.0 r.1 l.lies l.shows l.same_rows l.only as_long

rising_at_most : {E : Type 0} (most low high : ℕ) (xs : List (Sample E)) → high ≤ most → Rising low high xs → AllByRecursion (λ x. x.number ≤ most) xs
rising_at_most most low high [] l r = tt
rising_at_most most low high (x ∷ xs) l r = (omega (arith, r.1), rising_at_most most x.number high xs l r.2)

-- all that stand are filed anew: the marked rows are free
module _ {E : Type 0} (dist : E → E → ℕ) (g : State E) (o : LaidOut dist g) (new : List (Row E)) (root : Node) (f : Refiled dist g.settings.degree g.settings.bucket g.rows (listed g) g.standing new root) where
  long : length (places g.rows) ≡ length g.rows
  long = length-map g.rows (λ (r : Row E). r.place)

  whole : take g.standing (listed g) ≡ listed g
  whole = take_all g.standing (listed g) (omega (arith, length-take-le g.standing (places g.rows) (omega (arith, in_rows g o.in_use o.within, long))))

  new_places : places new ≡ places g.rows
  new_places = places_only (listed g) g.rows new f.only f.as_long

  new_samples : samples_at new (listed g) ≡ standing_in g
  new_samples = samples_only (listed g) g.rows new f.only f.as_long (listed g) (listed_within g o.in_use o.within)

  new_standing : samples_at new (take g.standing (places new)) ≡ standing_in g
  new_standing = ap (λ ps. samples_at new (take g.standing ps)) new_places ∙ new_samples

  same_capacity : min (length new) 1024 ≡ capacity_of g
  same_capacity = ap (λ n. min n 1024) f.as_long

  abbrev new_tree : Tree E
  new_tree = rebuilt dist g.settings.degree g.settings.bucket (standing_in g)

  new_shows : Shows new root new_tree f.lies
  new_shows = subst (λ is. Shows new root (rebuilt dist g.settings.degree g.settings.bucket (samples_at g.rows is)) f.lies) whole f.shows

  new_files : Files dist g.settings.degree g.settings.bucket (standing_in g) new_tree
  new_files = ((keeps_tree dist g.settings.degree g.settings.bucket (omega (arith, g.settings.two)) g.settings.room).by_rebuilding (standing_in g)).files

  new_rows : Shuffle (Sample E) (members new_tree) (standing_in g)
  new_rows = ((keeps_tree dist g.settings.degree g.settings.bucket (omega (arith, g.settings.two)) g.settings.room).by_rebuilding (standing_in g)).rows

  few : length f.lies ≤ 1024
  few = omega (arith, length_shuffle _ _ f.same_rows, ap length whole, length-take g.standing (places g.rows), o.in_use)

  pub rebuild_means : record { capacity = min (length new) 1024; last = g.last; standing = samples_at new (take g.standing (places new)) } ≡ meaning_of g
  rebuild_means = λ i. record { capacity = same_capacity i; last = g.last; standing = new_standing i }

  pub rebuild_tree : tree_of 1025 new root ≡ rebuilt dist g.settings.degree g.settings.bucket (standing_in g)
  rebuild_tree = shown_tree new new_tree 1025 root f.lies new_shows (shallow dist new root new_tree f.lies g.settings.degree g.settings.bucket _ g.settings.two new_files new_shows few)

  pub rebuild_sound : (h : State E) → h.rows ≡ new → h.root ≡ root → h.settings ≡ g.settings → h.standing ≡ g.standing → h.marked ≡ 0 → h.last ≡ g.last → LaidOut dist h
  rebuild_sound h rs rt se st mk ls =
      let cap : capacity_of h ≡ capacity_of g = ap (λ z. min (length z) 1024) rs ∙ same_capacity in
      let listing : take (capacity_of h) (places h.rows) ≡ take (capacity_of g) (places g.rows) = ap (λ k. take k (places h.rows)) cap ∙ ap (take (capacity_of g)) (ap places rs ∙ new_places) in
      let stands : standing_in h ≡ standing_in g = ap (λ k. samples_at h.rows (take k (places h.rows))) st ∙ (ap (λ z. samples_at z (take g.standing (places z))) rs ∙ new_standing) in
      let used : h.standing + h.marked ≡ g.standing = omega arith in
      record {
        last_bound = omega (arith, o.last_bound);
        in_use = omega (arith, o.in_use);
        within = subst (λ k. Within (take (capacity_of h) (places h.rows)) k) (sym cap) (subst (λ z. Within z (capacity_of g)) (sym listing) o.within);
        apart = subst Distinct (sym listing) o.apart;
        rising = subst (λ k. Rising 0 k (standing_in h)) (sym ls) (subst (Rising 0 g.last) (sym stands) o.rising);
        tree = new_tree;
        lies = f.lies;
        shows = subst (λ n. Shows h.rows n new_tree f.lies) (sym rt) (subst (λ z. Shows z root new_tree f.lies) (sym rs) new_shows);
        lists = subst (λ k. Shuffle ℕ f.lies (take k (places h.rows))) (sym used) (subst (λ ps. Shuffle ℕ f.lies (take g.standing ps)) (sym (ap places rs ∙ new_places)) (subst (Shuffle ℕ f.lies) whole f.same_rows));
        files = subst (λ (d : Settings). Files dist d.degree d.bucket (standing_in h) new_tree) (sym se) (subst (λ xs. Files dist g.settings.degree g.settings.bucket xs new_tree) (sym stands) new_files);
        numbers = apart_shuffle _ _ (shuffle_back _ _ new_rows) (rising_apart 0 g.last (standing_in g) o.rising);
        given = all_shuffle (λ x. x.number ≤ h.last) _ _ (shuffle_back _ _ new_rows) (rising_at_most h.last 0 g.last (standing_in g) (omega arith) o.rising);
      }

-- a sound GNAT's standing samples may be filed anew
pub record MayRefile {E : Type 0} (g : State E) : Type 0 where
  pub fits : g.standing ≤ length g.rows
  pub within : Within (listed g) (length g.rows)
  pub apart : Distinct (listed g)

pub may_refile : {E : Type 0} (dist : E → E → ℕ) (g : State E) (o : LaidOut dist g) → MayRefile g
may_refile dist g o =
    let ps = take (capacity_of g) (places g.rows) in
    let cut : take g.standing ps ≡ listed g = take-take g.standing (capacity_of g) (places g.rows) (omega (arith, o.in_use)) in
    record {
      fits = in_rows g o.in_use o.within;
      within = listed_within g o.in_use o.within;
      apart = subst Distinct cut (distinct_left (take g.standing ps) (drop g.standing ps) (subst Distinct (sym (take-append-drop g.standing ps)) o.apart));
    }
