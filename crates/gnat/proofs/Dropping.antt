-- The state of a GNAT after a sample is dropped. Assumes nothing.
use Rattle.std.proofs.Common.{◌≡◌, ℕ, zero, suc, ◌+◌, ◌-◌, ◌<◌, ◌≤◌, min, cond, List, [], ◌∷◌, ◌++◌, length, get_or, take, drop, Some, sym, ap, ◌∙◌, subst, arith, eq-eqb, ne_eqb}
use Rattle.std.specs.List.{slice_get}
use Rattle.hits.specs.Samples.{Rising}
use Rattle.std.proofs.ByRecursion.{All-append, All-take, All-drop, All-weaker}
use Rattle.std.proofs.lemmas.List.{length-map, length-take, length-take-le, get_or-take}
use Rattle.index.specs.Meaning.{without, dropped}
use Rattle.index.proofs.Standing.{without_below, rising_wider, rising_without}
use Rattle.gnat_theory.specs.Tree.{members}
use Rattle.gnat_theory.specs.Dropping.{shrunk}
use Rattle.gnat_theory.specs.Keeping.{Files}
use Rattle.gnat_theory.proofs.Sublists.{apart_sub, all_sub, shrunk_sub}
use Rattle.gnat_theory.proofs.Theorems.{keeps_tree}
use Rattle.gnat_rows.specs.declared.Node.{Node}
use Rattle.gnat_rows.proofs.Apart.{distinct_shuffle}
use Rattle.gnat_rows.proofs.Trees.{shown_tree}
use Rattle.gnat_order.proofs.Places.{places_placed, length_placed}
use Rattle.gnat_order.proofs.Framing.{shows_placed, samples_placed, samples_only}
use Rattle.gnat_filing.specs.declared.settings.Settings.{Settings}
use Rattle.gnat.specs.States.{State, capacity_of, listed, standing_in, meaning_of, tree_in}
use Rattle.gnat.proofs.Laid.{LaidOut, shallow, whole_tree}
use Rattle.gnat.specs.Lawful.{in_rows, listed_within}
use Rattle.gnat_theory.specs.Shuffles.{Shuffle}
use Rattle.gnat_theory.proofs.Shuffling.{all_shuffle, length_shuffle}
use Rattle.gnat_rows.specs.declared.Row.{Row}
use Rattle.gnat_rows.specs.Lying.{Distinct, OnlyIn}
use Rattle.gnat_rows.specs.Shows.{sample_in, Shows}
use Rattle.gnat_rows.specs.Trees.{sample_on, samples_at, tree_of}
use Rattle.gnat_order.specs.Order.{Within, places, placed}
use Rattle.gnat_rows.proofs.Changes.{nth_there}
use Rattle.gnat_order.proofs.Numbers.{number_listed, rising_order, length_samples_at}

module _ {E : Type 0} where
  -- the samples that are listed, without the one at place i
  pub listed_without : (rows : List (Row E)) (n low high : ℕ) (is : List ℕ) (i : ℕ) (r : Row E) → Within is (length rows) → i < length is → Rising low high (samples_at rows is) → slice_get rows (get_or is i 0) ≡ Some r → r.number ≡ n → samples_at rows (take i is ++ drop (suc i) is) ≡ without n (samples_at rows is)
  listed_without rows n low high [] i r w l rise e k = absurd (omega arith)
  listed_without rows n low high (j ∷ is) zero r w l rise e k =
      let here : samples_at rows (j ∷ is) ≡ sample_in r ∷ samples_at rows is = ap (λ o. sample_on o (samples_at rows is)) e in
      let up : Rising low high (sample_in r ∷ samples_at rows is) = subst (Rising low high) here rise in
      sym (ap (without n) here ∙ (ap (λ b. cond b (without n (samples_at rows is)) (sample_in r ∷ without n (samples_at rows is))) (eq-eqb r.number n k) ∙ without_below n r.number high (samples_at rows is) (omega arith) up.2))
  listed_without rows n low high (j ∷ is) (suc i) r w l rise e k =
      let x = nth_there rows j w.0 in
      let here : samples_at rows (j ∷ is) ≡ sample_in x.0 ∷ samples_at rows is = ap (λ o. sample_on o (samples_at rows is)) x.1 in
      let there-too : samples_at rows (j ∷ (take i is ++ drop (suc i) is)) ≡ sample_in x.0 ∷ samples_at rows (take i is ++ drop (suc i) is) = ap (λ o. sample_on o (samples_at rows (take i is ++ drop (suc i) is))) x.1 in
      let up : Rising low high (sample_in x.0 ∷ samples_at rows is) = subst (Rising low high) here rise in
      let later = number_listed rows is w.1 i (omega arith) r e in
      let above = rising_order low high (sample_in x.0 ∷ samples_at rows is) 0 (suc i) up (omega arith) (omega (arith, length_samples_at rows is w.1)) in
      let other : x.0.number ≡ n → ⊥ = λ q. omega arith in
      there-too ∙ (ap (λ z. sample_in x.0 ∷ z) (listed_without rows n x.0.number high is i r w.1 (omega arith) up.2 e k)
      ∙ (sym (ap (λ b. cond b (without n (samples_at rows is)) (sample_in x.0 ∷ without n (samples_at rows is))) (ne_eqb x.0.number n other)) ∙ ap (without n) (sym here)))

-- The sample n, listed at place i, is dropped: `rows` and `root` show the tree without it, in the rows `lies`, and R is the
-- new order, in which the others that stood come first.
module _ {E : Type 0} (dist : E → E → ℕ) (g : State E) (o : LaidOut dist g) (i n : ℕ) (inside : i < g.standing) (r : Row E) (is_row : slice_get g.rows (get_or (places g.rows) i 0) ≡ Some r) (is_number : r.number ≡ n)
    (rows : List (Row E)) (root : Node) (lies : List ℕ) (shows : Shows rows root (shrunk n o.tree) lies) (only : OnlyIn o.lies g.rows rows) (kept_length : length rows ≡ length g.rows)
    (R : List ℕ) (marked : ℕ) (RLength : length R ≡ length g.rows) (first : take (g.standing - 1) R ≡ take i (listed g) ++ drop (suc i) (listed g))
    (AllSame : Shuffle ℕ (take (capacity_of g) (places g.rows)) (take (capacity_of g) R)) (fits : (g.standing - 1) + marked ≤ capacity_of g) (lists : Shuffle ℕ lies (take ((g.standing - 1) + marked) R)) where
  long : length (places g.rows) ≡ length g.rows
  long = length-map g.rows (λ (x : Row E). x.place)

  -- the rows in their new order
  abbrev pub reordered : List (Row E)
  reordered = placed R rows

  as_long : length reordered ≡ length g.rows
  as_long = length_placed R rows ∙ kept_length

  new_places : places reordered ≡ R
  new_places = places_placed R rows (RLength ∙ sym kept_length)

  same_capacity : min (length reordered) 1024 ≡ capacity_of g
  same_capacity = ap (λ k. min k 1024) as_long

  listed_length : length (listed g) ≡ g.standing
  listed_length = length-take-le g.standing (places g.rows) (omega (arith, in_rows g o.in_use o.within, long))

  left_within : Within (take i (listed g) ++ drop (suc i) (listed g)) (length g.rows)
  left_within = All-append (λ k. k < length g.rows) (take i (listed g)) (drop (suc i) (listed g)) (All-take (λ k. k < length g.rows) i (listed g) (listed_within g o.in_use o.within)) (All-drop (λ k. k < length g.rows) (suc i) (listed g) (listed_within g o.in_use o.within))

  left_standing : samples_at reordered (take (g.standing - 1) (places reordered)) ≡ without n (standing_in g)
  left_standing =
      ap (λ ps. samples_at reordered (take (g.standing - 1) ps)) new_places
      ∙ (ap (samples_at reordered) first
      ∙ (samples_placed R rows (take i (listed g) ++ drop (suc i) (listed g)) (subst (Within (take i (listed g) ++ drop (suc i) (listed g))) (sym kept_length) left_within)
      ∙ (samples_only o.lies g.rows rows only kept_length (take i (listed g) ++ drop (suc i) (listed g)) left_within
      ∙ listed_without g.rows n 0 g.last (listed g) i r (listed_within g o.in_use o.within) (omega (arith, listed_length)) o.rising (ap (slice_get g.rows) (get_or-take g.standing (places g.rows) i 0 inside) ∙ is_row) is_number)))

  shrunk_files : Files dist g.settings.degree g.settings.bucket (without n (standing_in g)) (shrunk n o.tree)
  shrunk_files = ((keeps_tree dist g.settings.degree g.settings.bucket (omega (arith, g.settings.two)) g.settings.room).by_dropping (standing_in g) n o.tree o.files).files

  new_shows : Shows reordered root (shrunk n o.tree) lies
  new_shows = shows_placed R rows (shrunk n o.tree) root lies shows

  few : length lies ≤ 1024
  few = omega (arith, length_shuffle _ _ lists, length-take ((g.standing - 1) + marked) R)

  -- what it means
  pub drop_means : record { capacity = min (length reordered) 1024; last = g.last; standing = samples_at reordered (take (g.standing - 1) (places reordered)) } ≡ dropped (meaning_of g) n
  drop_means = λ k. record { capacity = same_capacity k; last = g.last; standing = left_standing k }

  -- its tree
  pub drop_tree : tree_of 1025 reordered root ≡ shrunk n (tree_in g)
  drop_tree =
      shown_tree reordered (shrunk n o.tree) 1025 root lies new_shows (shallow dist reordered root (shrunk n o.tree) lies g.settings.degree g.settings.bucket _ g.settings.two shrunk_files new_shows few)
      ∙ ap (shrunk n) (sym (whole_tree dist g o))

  -- it stays sound
  pub drop_sound : (h : State E) → h.rows ≡ reordered → h.root ≡ root → h.settings ≡ g.settings → h.standing ≡ g.standing - 1 → h.marked ≡ marked → h.last ≡ g.last → LaidOut dist h
  drop_sound h rs rt se st mk ls =
      let cap : capacity_of h ≡ capacity_of g = ap (λ z. min (length z) 1024) rs ∙ same_capacity in
      let listing : take (capacity_of h) (places h.rows) ≡ take (capacity_of g) R = ap (λ k. take k (places h.rows)) cap ∙ ap (take (capacity_of g)) (ap places rs ∙ new_places) in
      let stands : standing_in h ≡ without n (standing_in g) = ap (λ k. samples_at h.rows (take k (places h.rows))) st ∙ (ap (λ z. samples_at z (take (g.standing - 1) (places z))) rs ∙ left_standing) in
      let used : h.standing + h.marked ≡ (g.standing - 1) + marked = omega arith in
      record {
        last_bound = omega (arith, o.last_bound);
        in_use = omega arith;
        within = subst (λ k. Within (take (capacity_of h) (places h.rows)) k) (sym cap) (subst (λ z. Within z (capacity_of g)) (sym listing) (all_shuffle (λ k. k < capacity_of g) _ _ AllSame o.within));
        apart = subst Distinct (sym listing) (distinct_shuffle _ _ AllSame o.apart);
        rising = subst (Rising 0 h.last) (sym stands) (rising_wider 0 g.last 0 h.last (without n (standing_in g)) (omega arith) (omega arith) (rising_without n 0 g.last (standing_in g) o.rising));
        tree = shrunk n o.tree;
        lies = lies;
        shows = subst (λ x. Shows h.rows x (shrunk n o.tree) lies) (sym rt) (subst (λ z. Shows z root (shrunk n o.tree) lies) (sym rs) new_shows);
        lists = subst (λ k. Shuffle ℕ lies (take k (places h.rows))) (sym used) (subst (λ ps. Shuffle ℕ lies (take ((g.standing - 1) + marked) ps)) (sym (ap places rs ∙ new_places)) lists);
        files = subst (λ (d : Settings). Files dist d.degree d.bucket (standing_in h) (shrunk n o.tree)) (sym se) (subst (λ xs. Files dist g.settings.degree g.settings.bucket xs (shrunk n o.tree)) (sym stands) shrunk_files);
        numbers = apart_sub _ _ (shrunk_sub n o.tree) o.numbers;
        given = All-weaker (λ x. x.number ≤ g.last) (λ x. x.number ≤ h.last) (λ x low. omega arith) (members (shrunk n o.tree)) (all_sub (λ x. x.number ≤ g.last) _ _ (shrunk_sub n o.tree) o.given);
      }
