-- The state of a GNAT after one more sample is filed. Assumes nothing.
use Rattle.std.proofs.Common.{◌≡◌, ℕ, suc, ◌+◌, ◌<◌, ◌≤◌, min, false, List, [], ◌∷◌, ◌++◌, length, get_or, take, drop, Some, sym, refl, ap, ◌∙◌, subst, arith, take-suc}
use Rattle.std.specs.List.{slice_get}
use Rattle.std.proofs.ByRecursion.{All-get_or, All-weaker, All-take, All-push}
use Rattle.std.proofs.lemmas.List.{length-map, length-take-le, get_or-take, take-take, take_at, take-append-drop, append-nil, append_assoc, length-append}
use Rattle.hits.specs.Samples.{Sample, Rising}
use Rattle.index.specs.Meaning.{added}
use Rattle.index.proofs.Standing.{rising_push}
use Rattle.gnat_theory.specs.Tree.{Tree, members}
use Rattle.gnat_theory.specs.Splitting.{grown}
use Rattle.gnat_theory.specs.Keeping.{Files}
use Rattle.gnat_theory.specs.Shuffles.{Shuffle}
use Rattle.gnat_theory.specs.Shuffles.Shuffle.{after, in_turn}
use Rattle.gnat_theory.proofs.Shuffling.{shuffle_back, shuffle_front, all_shuffle, length_shuffle}
use Rattle.gnat_theory.proofs.Pruning.{apart_shuffle}
use Rattle.gnat_theory.proofs.Theorems.{keeps_tree}
use Rattle.gnat_rows.specs.declared.Node.{Node}
use Rattle.gnat_rows.specs.declared.Row.{Row}
use Rattle.gnat_rows.specs.Rows.{with_sample}
use Rattle.gnat_rows.specs.Lying.{Absent, Distinct, OnlyIn}
use Rattle.gnat_rows.specs.Shows.{Shows, sample_in}
use Rattle.gnat_rows.specs.Trees.{sample_on, samples_at, tree_of}
use Rattle.gnat_rows.proofs.Apart.{distinct_left, distinct_shuffle, distinct_across}
use Rattle.gnat_rows.proofs.Changes.{length_changed, nth_changed, nth_unchanged}
use Rattle.gnat_rows.proofs.Showing.{Same, frame}
use Rattle.gnat_rows.proofs.Trees.{shown_tree}
use Rattle.gnat_order.specs.Order.{Within, places, placed, swapped}
use Rattle.gnat_order.proofs.Places.{places_placed, length_placed}
use Rattle.gnat_rows.proofs.Changes.{nth_there}
use Rattle.gnat_order.proofs.Moves.{enlisted, shuffled_enlisted, take_swapped, length_swapped}
use Rattle.gnat_order.proofs.Framing.{shows_placed, samples_placed, samples_only, places_only, samples_append, samples_other, places_kept}
use Rattle.gnat_filing.specs.declared.settings.Settings.{Settings}
use Rattle.gnat.specs.States.{State, capacity_of, listed, standing_in, meaning_of, tree_in}
use Rattle.gnat.proofs.Laid.{LaidOut, shallow, rows_in_tree, whole_tree}
use Rattle.gnat.specs.Lawful.{listed_within}

module _ {E : Type 0} (dist : E → E → ℕ) (g : State E) (o : LaidOut dist g) (roomy : g.standing + g.marked < capacity_of g) where
  long : length (places g.rows) ≡ length g.rows
  long = length-map g.rows (λ (r : Row E). r.place)

  -- the first free row
  abbrev pub free_row : ℕ
  free_row = get_or (places g.rows) (g.standing + g.marked) 0

  -- those in use, and the free one behind them
  one_more : take (suc (g.standing + g.marked)) (places g.rows) ≡ take (g.standing + g.marked) (places g.rows) ++ (free_row ∷ [])
  one_more = take-suc (places g.rows) (g.standing + g.marked) 0 (omega (arith, long))

  first_distinct : Distinct (take (g.standing + g.marked) (places g.rows) ++ (free_row ∷ []))
  first_distinct =
      let cut : take (suc (g.standing + g.marked)) (take (capacity_of g) (places g.rows)) ≡ take (suc (g.standing + g.marked)) (places g.rows) = take-take (suc (g.standing + g.marked)) (capacity_of g) (places g.rows) (omega arith) in
      subst Distinct (cut ∙ one_more)
      (distinct_left (take (suc (g.standing + g.marked)) (take (capacity_of g) (places g.rows))) (drop (suc (g.standing + g.marked)) (take (capacity_of g) (places g.rows)))
      (subst Distinct (sym (take-append-drop (suc (g.standing + g.marked)) (take (capacity_of g) (places g.rows)))) o.apart))

  -- the free row is none of the tree's
  pub free_apart : Distinct (free_row ∷ o.lies)
  free_apart =
      distinct_shuffle (take (g.standing + g.marked) (places g.rows) ++ (free_row ∷ [])) (free_row ∷ o.lies)
      (in_turn _ _ _ (shuffle_front (take (g.standing + g.marked) (places g.rows)) free_row []) (after free_row _ _ (subst (λ z. Shuffle ℕ z o.lies) (sym (append-nil (take (g.standing + g.marked) (places g.rows)))) (shuffle_back _ _ o.lists))))
      first_distinct

  pub free_within : free_row < length g.rows
  free_within =
      let read : get_or (take (capacity_of g) (places g.rows)) (g.standing + g.marked) 0 ≡ free_row = get_or-take (capacity_of g) (places g.rows) (g.standing + g.marked) 0 roomy in
      let low : get_or (take (capacity_of g) (places g.rows)) (g.standing + g.marked) 0 < capacity_of g = All-get_or (λ i. i < capacity_of g) (take (capacity_of g) (places g.rows)) (g.standing + g.marked) 0 (omega (arith, length-take-le (capacity_of g) (places g.rows) (omega (arith, long)))) o.within in
      omega arith

  -- the rows with the free one listed behind those that stand, and the new sample in it
  module _ (number : ℕ) (e : E) where
    abbrev pub relisted : List (Row E)
    relisted = placed (swapped g.standing (g.standing + g.marked) (places g.rows)) g.rows

    abbrev pub prepared : List (Row E)
    prepared = with_sample free_row number e relisted

    relisted_length : length relisted ≡ length g.rows
    relisted_length = length_placed (swapped g.standing (g.standing + g.marked) (places g.rows)) g.rows

    pub prepared_length : length prepared ≡ length g.rows
    prepared_length = length_changed relisted free_row _ ∙ relisted_length

    prepared_places : places prepared ≡ swapped g.standing (g.standing + g.marked) (places g.rows)
    prepared_places = places_kept relisted free_row _ (λ r. refl) ∙ places_placed (swapped g.standing (g.standing + g.marked) (places g.rows)) g.rows (length_swapped g.standing (g.standing + g.marked) (places g.rows) ∙ long)

    -- the tree is still shown
    pub prepared_shows : Shows prepared g.root o.tree o.lies
    prepared_shows =
        frame relisted prepared g.root o.tree o.lies
        (All-weaker (λ j. free_row ≡ j → ⊥) (Same relisted prepared) (λ j n. nth_unchanged relisted free_row j _ (λ i. n (sym i))) o.lies free_apart.0)
        (shows_placed (swapped g.standing (g.standing + g.marked) (places g.rows)) g.rows o.tree g.root o.lies o.shows)

    -- the new sample is there
    pub prepared_row : (row : Row E) × (slice_get prepared free_row ≡ Some row) × (sample_in row ≡ record { number = number; element = e })
    prepared_row =
        let r = nth_there relisted free_row (omega (arith, free_within, relisted_length)) in
        (record { element = e; number = number; marked = false; place = r.0.place; node = r.0.node }, nth_changed relisted free_row _ r.0 r.1, refl)

    -- the free row comes right behind those that stand
    first_listed : take (g.standing + 1) (swapped g.standing (g.standing + g.marked) (places g.rows)) ≡ listed g ++ (free_row ∷ [])
    first_listed =
        let x = enlisted g.standing g.marked (places g.rows) (omega (arith, long)) in
        let back = x.marked ++ drop (suc (g.standing + g.marked)) (places g.rows) in
        let size : length (listed g ++ (free_row ∷ [])) ≡ g.standing + 1 = length-append (listed g) (free_row ∷ []) ∙ omega (arith, length-take-le g.standing (places g.rows) (omega (arith, long))) in
        ap (take (g.standing + 1)) (x.is ∙ sym (append_assoc (listed g) (free_row ∷ []) back)) ∙ take_at (listed g ++ (free_row ∷ [])) back (g.standing + 1) size

    free_unlisted : Absent free_row (listed g)
    free_unlisted =
        subst (Absent free_row) (take-take g.standing (g.standing + g.marked) (places g.rows) (omega arith))
        (All-take (λ j. free_row ≡ j → ⊥) g.standing (take (g.standing + g.marked) (places g.rows)) (distinct_across (take (g.standing + g.marked) (places g.rows)) (free_row ∷ []) first_distinct).0)

    prepared_samples : samples_at prepared (listed g ++ (free_row ∷ [])) ≡ standing_in g ++ (record { number = number; element = e } ∷ [])
    prepared_samples =
        let row = prepared_row in
        let new : samples_at prepared (free_row ∷ []) ≡ record { number = number; element = e } ∷ [] = ap (λ r. sample_on r []) row.1 ∙ ap (λ x. x ∷ []) row.2 in
        samples_append prepared (listed g) (free_row ∷ [])
        ∙ (ap (λ z. z ++ samples_at prepared (free_row ∷ [])) (samples_other relisted free_row _ (listed g) free_unlisted ∙ samples_placed (swapped g.standing (g.standing + g.marked) (places g.rows)) g.rows (listed g) (listed_within g o.in_use o.within))
        ∙ ap (λ z. standing_in g ++ z) new)

    -- what filing leaves: the new rows and the new root
    module _ (rows : List (Row E)) (root : Node) (lies : List ℕ) (shows : Shows rows root (grown dist g.settings.degree g.settings.bucket (record { number = number; element = e }) o.tree) lies) (same_rows : Shuffle ℕ lies (free_row ∷ o.lies)) (only : OnlyIn (free_row ∷ o.lies) prepared rows) (kept_length : length rows ≡ length prepared) where
      as_long : length rows ≡ length g.rows
      as_long = kept_length ∙ prepared_length

      new_places : places rows ≡ swapped g.standing (g.standing + g.marked) (places g.rows)
      new_places = places_only (free_row ∷ o.lies) prepared rows only kept_length ∙ prepared_places

      new_listed : take (g.standing + 1) (places rows) ≡ listed g ++ (free_row ∷ [])
      new_listed = ap (take (g.standing + 1)) new_places ∙ first_listed

      new_within : Within (listed g ++ (free_row ∷ [])) (length prepared)
      new_within = All-push (λ i. i < length prepared) (listed g) free_row (subst (Within (listed g)) (sym prepared_length) (listed_within g o.in_use o.within)) (omega (arith, free_within, prepared_length))

      new_standing : samples_at rows (take (g.standing + 1) (places rows)) ≡ standing_in g ++ (record { number = number; element = e } ∷ [])
      new_standing = ap (samples_at rows) new_listed ∙ (samples_only (free_row ∷ o.lies) prepared rows only kept_length (listed g ++ (free_row ∷ [])) new_within ∙ prepared_samples)

      same_capacity : min (length rows) 1024 ≡ capacity_of g
      same_capacity = ap (λ n. min n 1024) as_long

      abbrev grown_tree : Tree E
      grown_tree = grown dist g.settings.degree g.settings.bucket (record { number = number; element = e }) o.tree

      grown_files : Files dist g.settings.degree g.settings.bucket (standing_in g ++ (record { number = number; element = e } ∷ [])) grown_tree
      grown_files = ((keeps_tree dist g.settings.degree g.settings.bucket (omega (arith, g.settings.two)) g.settings.room).by_filing (standing_in g) (record { number = number; element = e }) o.tree o.files).files

      grown_rows : Shuffle (Sample E) (members grown_tree) (record { number = number; element = e } ∷ members o.tree)
      grown_rows = ((keeps_tree dist g.settings.degree g.settings.bucket (omega (arith, g.settings.two)) g.settings.room).by_filing (standing_in g) (record { number = number; element = e }) o.tree o.files).rows

      -- what it means
      pub add_means : number ≡ g.last + 1 → record { capacity = min (length rows) 1024; last = number; standing = samples_at rows (take (g.standing + 1) (places rows)) } ≡ added (meaning_of g) e
      add_means is =
          let standing = new_standing ∙ ap (λ n. standing_in g ++ (record { number = n; element = e } ∷ [])) is in
          λ i. record { capacity = same_capacity i; last = is i; standing = standing i }

      -- its tree
      pub add_tree : tree_of 1025 rows root ≡ grown dist g.settings.degree g.settings.bucket (record { number = number; element = e }) (tree_in g)
      add_tree =
          shown_tree rows grown_tree 1025 root lies shows (shallow dist rows root grown_tree lies g.settings.degree g.settings.bucket _ g.settings.two grown_files shows (omega (arith, length_shuffle _ _ same_rows, rows_in_tree dist g o)))
          ∙ ap (λ t. grown dist g.settings.degree g.settings.bucket (record { number = number; element = e }) t)
          (sym (whole_tree dist g o))

      -- those in use after it
      lists_more : Shuffle ℕ lies (take (suc (g.standing + g.marked)) (places rows))
      lists_more =
          let s = g.standing in
          let m = g.marked in
          let ps = places g.rows in
          let front = take (suc (s + m)) ps in
          let enough : s + m < length front = omega (arith, length-take-le (suc (s + m)) ps (omega (arith, long))) in
          let same : take (suc (s + m)) (places rows) ≡ swapped s (s + m) front = ap (take (suc (s + m))) new_places ∙ take_swapped (suc (s + m)) s (s + m) ps (omega arith) (omega arith) in
          let there : Shuffle ℕ (free_row ∷ o.lies) (take (s + m) ps ++ (free_row ∷ [])) =
          in_turn _ _ _ (after free_row _ _ o.lists) (shuffle_back _ _ (subst (λ z. Shuffle ℕ (take (s + m) ps ++ (free_row ∷ [])) (free_row ∷ z)) (append-nil (take (s + m) ps)) (shuffle_front (take (s + m) ps) free_row []))) in
          in_turn _ _ _ same_rows (in_turn _ _ _ (subst (Shuffle ℕ (free_row ∷ o.lies)) (sym one_more) there) (subst (Shuffle ℕ front) (sym same) (shuffle_back _ _ (shuffled_enlisted s m front enough))))

      -- it stays sound
      pub add_sound : (h : State E) → h.rows ≡ rows → h.root ≡ root → h.settings ≡ g.settings → h.standing ≡ g.standing + 1 → h.marked ≡ g.marked → h.last ≡ number → number ≡ g.last + 1 → number ≤ 65535 → LaidOut dist h
      add_sound h rs rt se st mk ls is few =
          let s = g.standing in
          let m = g.marked in
          let ps = places g.rows in
          let cap : capacity_of h ≡ capacity_of g = ap (λ z. min (length z) 1024) rs ∙ same_capacity in
          let front = take (capacity_of g) ps in
          let enough : s + m < length front = omega (arith, length-take-le (capacity_of g) ps (omega (arith, long))) in
          let listing : take (capacity_of h) (places h.rows) ≡ swapped s (s + m) front =
          ap (λ k. take k (places h.rows)) cap ∙ (ap (take (capacity_of g)) (ap places rs ∙ new_places) ∙ take_swapped (capacity_of g) s (s + m) ps (omega arith) roomy) in
          let moved : Shuffle ℕ front (take (capacity_of h) (places h.rows)) = subst (Shuffle ℕ front) (sym listing) (shuffle_back _ _ (shuffled_enlisted s m front enough)) in
          let stands : standing_in h ≡ standing_in g ++ (record { number = number; element = e } ∷ []) =
          ap (λ k. samples_at h.rows (take k (places h.rows))) st ∙ (ap (λ z. samples_at z (take (s + 1) (places z))) rs ∙ new_standing) in
          let used : h.standing + h.marked ≡ suc (s + m) = omega arith in
          record {
            last_bound = omega arith;
            in_use = omega arith;
            within = subst (λ k. Within (take (capacity_of h) (places h.rows)) k) (sym cap) (all_shuffle (λ i. i < capacity_of g) _ _ moved o.within);
            apart = distinct_shuffle _ _ moved o.apart;
            rising = subst (Rising 0 h.last) (sym stands) (rising_push 0 g.last h.last (standing_in g) (record { number = number; element = e }) (omega arith) (omega arith) (omega arith) o.rising);
            tree = grown_tree;
            lies = lies;
            shows = subst (λ n. Shows h.rows n grown_tree lies) (sym rt) (subst (λ z. Shows z root grown_tree lies) (sym rs) shows);
            lists = subst (λ k. Shuffle ℕ lies (take k (places h.rows))) (sym used) (subst (λ z. Shuffle ℕ lies (take (suc (s + m)) (places z))) (sym rs) lists_more);
            files = subst (λ (d : Settings). Files dist d.degree d.bucket (standing_in h) grown_tree) (sym se) (subst (λ xs. Files dist g.settings.degree g.settings.bucket xs grown_tree) (sym stands) grown_files);
            numbers = apart_shuffle _ _ (shuffle_back _ _ grown_rows) (All-weaker (λ x. x.number ≤ g.last) (λ x. number ≡ x.number → ⊥) (λ x low same. omega arith) (members o.tree) o.given, o.numbers);
            given = all_shuffle (λ x. x.number ≤ h.last) _ _ (shuffle_back _ _ grown_rows) (omega arith, All-weaker (λ x. x.number ≤ g.last) (λ x. x.number ≤ h.last) (λ x low. omega arith) (members o.tree) o.given);
          }
