-- A GNAT out of which a sample is taken. Assumes nothing.
use Rattle.std.proofs.Common.{◌≡◌, ℕ, zero, suc, ◌+◌, ◌-◌, ◌<◌, ◌≤◌, min, Bool, true, false, List, [], ◌∷◌, ◌++◌, length, get_or, take, drop, Some, None, Option, sym, refl, ap, ◌∙◌, subst, inl, inr, arith}
use Rattle.std.specs.List.{slice_get}
use Rattle.std.proofs.ByRecursion.{All-get_or}
use Rattle.std.proofs.lemmas.List.{length-map, length-take-le, get_or-take}
use Rattle.hits.specs.Samples.{Sample, Among}
use Rattle.gnat_theory.specs.Tree.{standing}
use Rattle.gnat_theory.specs.Dropping.{shrunk}
use Rattle.gnat_theory.specs.Shuffles.{Shuffle}
use Rattle.gnat_theory.proofs.Shuffling.{among_shuffle, shuffle_back}
use Rattle.gnat_rows.specs.declared.Node.{Node}
use Rattle.gnat_rows.specs.declared.Row.{Row}
use Rattle.gnat_rows.specs.Shows.{sample_in, Shows}
use Rattle.gnat_rows.specs.Lying.{OnlyIn}
use Rattle.gnat_rows.specs.Trees.{sample_on, samples_at, tree_of}
use Rattle.gnat_order.specs.Order.{places, placed, at_place}
use Rattle.gnat_order.proofs.Framing.{places_only}
use Rattle.gnat_filing.specs.Dropping.{Droppable, Drops}
use Rattle.gnat.specs.States.{State, capacity_of, listed, standing_in, meaning_of}
use Rattle.gnat.proofs.Laid.{LaidOut}
use Rattle.gnat.specs.Changes.{TakenOut}
use Rattle.gnat.specs.Unlisting.{unlisted, marked_then}
use Rattle.gnat.specs.Lawful.{in_rows, listed_within}
use Rattle.gnat.proofs.Dropping.{drop_means, drop_tree, drop_sound}
use Rattle.gnat.proofs.Orders.{in_tree_distinct, moved, moved_length, moved_first, moved_same, marked_fits, marked_lists, freed, freed_length, freed_first, freed_same, freed_fits, freed_lists}

module _ {E : Type 0} where
  pub length_places : (rows : List (Row E)) → length (places rows) ≡ length rows
  length_places rows = length-map rows (λ (r : Row E). r.place)

  -- the later order counts
  pub placed_twice : (ps qs : List ℕ) (rows : List (Row E)) → length qs ≡ length rows → placed qs (placed ps rows) ≡ placed qs rows
  placed_twice [] qs rows l = refl
  placed_twice (p ∷ ps) [] [] l = refl
  placed_twice (p ∷ ps) [] (r ∷ rows) l = absurd (omega arith)
  placed_twice (p ∷ ps) (q ∷ qs) [] l = absurd (omega arith)
  placed_twice (p ∷ ps) (q ∷ qs) (r ∷ rows) l = ap (λ z. at_place q r ∷ z) (placed_twice ps qs rows (omega arith))

  among_on : (x : Sample E) (o : Option (Row E)) (xs : List (Sample E)) → Among x xs → Among x (sample_on o xs)
  among_on x None xs m = m
  among_on x (Some r) xs m = inr m

  -- the sample of a row in a list of rows
  among_samples : (rows : List (Row E)) (is : List ℕ) (i : ℕ) (r : Row E) → i < length is → slice_get rows (get_or is i 0) ≡ Some r → Among (sample_in r) (samples_at rows is)
  among_samples rows [] i r l e = absurd (omega arith)
  among_samples rows (k ∷ is) zero r l e = subst (λ o. Among (sample_in r) (sample_on o (samples_at rows is))) (sym e) (inl refl)
  among_samples rows (k ∷ is) (suc i) r l e = among_on (sample_in r) (slice_get rows k) (samples_at rows is) (among_samples rows is i r (omega arith) e)

among_get_or : (is : List ℕ) (i : ℕ) → i < length is → Among (get_or is i 0) is
among_get_or [] i l = absurd (omega arith)
among_get_or (k ∷ is) zero l = inl refl
among_get_or (k ∷ is) (suc i) l = inr (among_get_or is i (omega arith))

module _ {E : Type 0} (dist : E → E → ℕ) (g : State E) (o : LaidOut dist g) (at : ℕ) (inside : at < g.standing) where
  abbrev old : List (Row E)
  old = g.rows

  abbrev row : ℕ
  row = get_or (places old) at 0

  long : length (places old) ≡ length old
  long = length_places old

  pub row_within : row < length old
  row_within =
      let front : get_or (listed g) at 0 < length old = All-get_or (λ i. i < length old) (listed g) at 0 (omega (arith, length-take-le g.standing (places old) (omega (arith, long, in_rows g o.in_use o.within)))) (listed_within g o.in_use o.within) in
      omega (arith, front, get_or-take g.standing (places old) at 0 inside)

  in_tree : Among row o.lies
  in_tree =
      let n = g.standing + g.marked in
      let front : Among (get_or (take n (places old)) at 0) (take n (places old)) = among_get_or (take n (places old)) at (omega (arith, length-take-le n (places old) (omega (arith, long, o.in_use)))) in
      among_shuffle row (take n (places old)) o.lies (shuffle_back _ _ o.lists) (subst (λ i. Among i (take n (places old))) (get_or-take n (places old) at 0 (omega arith)) front)

  module _ (r : Row E) (is_row : slice_get old row ≡ Some r) where
    pub it_is_listed : Among (sample_in r) (standing_in g)
    it_is_listed = among_samples old (listed g) at r (omega (arith, length-take-le g.standing (places old) (omega (arith, long, in_rows g o.in_use o.within)))) (ap (slice_get old) (get_or-take g.standing (places old) at 0 inside) ∙ is_row)

    it_stands : Among (sample_in r) (standing o.tree)
    it_stands = among_shuffle (sample_in r) (standing_in g) (standing o.tree) (shuffle_back _ _ o.files.stands) it_is_listed

    pub may_take : Droppable dist g.settings.degree old g.root row o.tree o.lies r
    may_take = record {
      shows = o.shows;
      apart = in_tree_distinct dist g o at inside o.lies;
      there = is_row;
      lies = in_tree;
      stands = it_stands;
      some = omega (arith, g.settings.two);
      branching = o.files.branching;
      placed = o.files.placed;
      numbers = o.numbers;
    }

    module _ (n : ℕ) (is_number : r.number ≡ n) (later : List (Row E)) (root : Node) (kept_length : length later ≡ length old) (h : State E) (is_root : h.root ≡ root) (same_settings : h.settings ≡ g.settings) (one_less : h.standing ≡ g.standing - 1) (same_last : h.last ≡ g.last) where
      -- the rows in the order R, with so many marked
      module _ (lies : List ℕ) (d : Shows later root (shrunk n o.tree) lies × OnlyIn o.lies old later) (R : List ℕ) (marked : ℕ) (RLength : length R ≡ length old) (first : take (g.standing - 1) R ≡ take at (listed g) ++ drop (suc at) (listed g))
          (AllSame : Shuffle ℕ (take (capacity_of g) (places old)) (take (capacity_of g) R)) (fits : (g.standing - 1) + marked ≤ capacity_of g) (lists : Shuffle ℕ lies (take ((g.standing - 1) + marked) R)) (is_rows : h.rows ≡ placed R later) (is_marked : h.marked ≡ marked) where
        ordered : LaidOut dist h × TakenOut dist g n h
        ordered = (
          drop_sound dist g o at n inside r is_row is_number later root lies d.0 d.1 kept_length R marked RLength first AllSame fits lists h is_rows is_root same_settings one_less is_marked same_last,
          record {
            means = means_so ∙ drop_means dist g o at n inside r is_row is_number later root lies d.0 d.1 kept_length R marked RLength first AllSame fits lists;
            tree = ap (tree_of 1025 h.rows) is_root ∙ (ap (λ z. tree_of 1025 z root) is_rows ∙ drop_tree dist g o at n inside r is_row is_number later root lies d.0 d.1 kept_length R marked RLength first AllSame fits lists);
            settings = same_settings;
          },
        )
          where
            means_so : meaning_of h ≡ record { capacity = min (length (placed R later)) 1024; last = g.last; standing = samples_at (placed R later) (take (g.standing - 1) (places (placed R later))) }
            means_so = λ k. record { capacity = min (length (is_rows k)) 1024; last = same_last k; standing = samples_at (is_rows k) (take (one_less k) (places (is_rows k))) }

      same_places : (lies : List ℕ) → OnlyIn o.lies old later → places later ≡ places old
      same_places lies only = places_only o.lies old later only kept_length

      pub taken : (is_freed : Bool) → Drops old later root is_freed row (shrunk n o.tree) o.lies → h.rows ≡ placed (unlisted at g.standing g.marked is_freed (places later)) later → h.marked ≡ marked_then g.marked is_freed → LaidOut dist h × TakenOut dist g n h
      taken true d is_rows is_marked =
          let ls = d.lies in
          ordered ls (d.shows, d.only) (freed dist g o at inside ls) g.marked (freed_length dist g o at inside ls) (freed_first dist g o at inside ls) (freed_same dist g o at inside ls) (freed_fits dist g o at inside ls) (freed_lists dist g o at inside ls d.same_rows)
          (is_rows ∙ ap (λ ps. placed (unlisted at g.standing g.marked true ps) later) (same_places ls d.only)) is_marked
      taken false d is_rows is_marked =
          let ls = d.lies in
          ordered ls (d.shows, d.only) (moved dist g o at inside ls) (g.marked + 1) (moved_length dist g o at inside ls) (moved_first dist g o at inside ls) (moved_same dist g o at inside ls) (marked_fits dist g o at inside ls) (marked_lists dist g o at inside ls d.same_rows)
          (is_rows ∙ ap (λ ps. placed (unlisted at g.standing g.marked false ps) later) (same_places ls d.only)) is_marked
