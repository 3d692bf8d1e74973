-- The order of the rows after a drop: the dropped row is marked, or free. Assumes nothing.
use Rattle.std.proofs.Common.{◌≡◌, ℕ, suc, ◌+◌, ◌-◌, ◌<◌, ◌≤◌, List, [], ◌∷◌, ◌++◌, length, get_or, take, drop, sym, ap, ◌∙◌, subst, arith, take-suc}
use Rattle.std.proofs.lemmas.List.{length-map, append-nil, take-append-drop, take-take}
use Rattle.hits.specs.Lists.{closed}
use Rattle.hits.proofs.Closing.{closed_front, closed_length}
use Rattle.gnat_theory.specs.Shuffles.{Shuffle}
use Rattle.gnat_theory.specs.Shuffles.Shuffle.{in_turn}
use Rattle.gnat_theory.proofs.Shuffling.{shuffle_front, shuffle_back}
use Rattle.gnat_theory.proofs.Counting.{shuffle_left}
use Rattle.gnat_rows.specs.declared.Row.{Row}
use Rattle.gnat_rows.specs.Lying.{Distinct}
use Rattle.gnat_rows.proofs.Apart.{distinct_left, distinct_shuffle}
use Rattle.gnat_order.specs.Order.{places, swapped}
use Rattle.gnat_order.proofs.Moves.{closed_firsts, swapped_firsts, length_swapped, closed_last, take_before, get_or_swapped}
use Rattle.gnat.specs.States.{State, capacity_of, listed}
use Rattle.gnat.proofs.Laid.{LaidOut}

module _ {E : Type 0} (dist : E → E → ℕ) (g : State E) (o : LaidOut dist g) (i : ℕ) (inside : i < g.standing) (lies : List ℕ) where
  long : length (places g.rows) ≡ length g.rows
  long = length-map g.rows (λ (x : Row E). x.place)

  fit : g.standing ≤ length (places g.rows)
  fit = omega (arith, long, o.in_use)

  -- the row that is dropped
  abbrev pub dropped_row : ℕ
  dropped_row = get_or (places g.rows) i 0

  -- the order with it behind those that stand
  abbrev pub moved : List ℕ
  moved = closed i g.standing (places g.rows)

  pub moved_length : length moved ≡ length g.rows
  moved_length = closed_length i g.standing (places g.rows) inside fit ∙ long

  pub moved_first : take (g.standing - 1) moved ≡ take i (listed g) ++ drop (suc i) (listed g)
  moved_first = closed_front i g.standing (places g.rows) inside fit

  pub moved_same : Shuffle ℕ (take (capacity_of g) (places g.rows)) (take (capacity_of g) moved)
  moved_same = closed_firsts i g.standing (capacity_of g) (places g.rows) inside (omega (arith, o.in_use)) fit

  moved_in_use : Shuffle ℕ o.lies (take (g.standing + g.marked) moved)
  moved_in_use = in_turn _ _ _ o.lists (closed_firsts i g.standing (g.standing + g.marked) (places g.rows) inside (omega arith) fit)

  -- a pivot: it is the first of the marked ones
  pub marked_fits : (g.standing - 1) + (g.marked + 1) ≤ capacity_of g
  marked_fits = omega (arith, o.in_use)

  pub marked_lists : Shuffle ℕ lies o.lies → Shuffle ℕ lies (take ((g.standing - 1) + (g.marked + 1)) moved)
  marked_lists s =
      let count : g.standing + g.marked ≡ (g.standing - 1) + (g.marked + 1) = omega arith in
      in_turn _ _ _ s (subst (λ k. Shuffle ℕ o.lies (take k moved)) count moved_in_use)

  -- out of a leaf: it is exchanged with the last of the marked ones, and is the first of the free
  abbrev pub freed : List ℕ
  freed = swapped (g.standing - 1) ((g.standing - 1) + g.marked) moved

  last_in_use : (g.standing - 1) + g.marked < length moved
  last_in_use = omega (arith, moved_length, o.in_use)

  pub freed_length : length freed ≡ length g.rows
  freed_length = length_swapped (g.standing - 1) ((g.standing - 1) + g.marked) moved ∙ moved_length

  pub freed_first : take (g.standing - 1) freed ≡ take i (listed g) ++ drop (suc i) (listed g)
  freed_first = take_before (g.standing - 1) g.marked moved ∙ moved_first

  pub freed_same : Shuffle ℕ (take (capacity_of g) (places g.rows)) (take (capacity_of g) freed)
  freed_same = in_turn _ _ _ moved_same (swapped_firsts (g.standing - 1) g.marked (capacity_of g) moved (omega (arith, o.in_use)) last_in_use)

  pub freed_fits : (g.standing - 1) + g.marked ≤ capacity_of g
  freed_fits = omega (arith, o.in_use)

  freed_in_use : Shuffle ℕ o.lies (take ((g.standing - 1) + g.marked) freed ++ (dropped_row ∷ []))
  freed_in_use =
      let count : g.standing + g.marked ≡ suc ((g.standing - 1) + g.marked) = omega arith in
      let last : get_or freed ((g.standing - 1) + g.marked) 0 ≡ dropped_row = get_or_swapped (g.standing - 1) g.marked moved last_in_use ∙ closed_last i g.standing (places g.rows) inside fit in
      let cut : take (suc ((g.standing - 1) + g.marked)) freed ≡ take ((g.standing - 1) + g.marked) freed ++ (dropped_row ∷ []) =
      take-suc freed ((g.standing - 1) + g.marked) 0 (omega (arith, freed_length, moved_length, last_in_use)) ∙ ap (λ x. take ((g.standing - 1) + g.marked) freed ++ (x ∷ [])) last in
      subst (Shuffle ℕ o.lies) cut
      (in_turn _ _ _ (subst (λ k. Shuffle ℕ o.lies (take k moved)) count moved_in_use)
      (swapped_firsts (g.standing - 1) g.marked (suc ((g.standing - 1) + g.marked)) moved (omega arith) last_in_use))

  pub in_tree_distinct : Distinct o.lies
  in_tree_distinct =
      let n = g.standing + g.marked in
      let ps = places g.rows in
      let cut : take n (take (capacity_of g) ps) ≡ take n ps = take-take n (capacity_of g) ps o.in_use in
      let front : Distinct (take n ps) = subst Distinct cut (distinct_left (take n (take (capacity_of g) ps)) (drop n (take (capacity_of g) ps)) (subst Distinct (sym (take-append-drop n (take (capacity_of g) ps))) o.apart)) in
      distinct_shuffle _ _ (shuffle_back _ _ o.lists) front

  pub freed_lists : Shuffle ℕ (dropped_row ∷ lies) o.lies → Shuffle ℕ lies (take ((g.standing - 1) + g.marked) freed)
  freed_lists s =
      let rest = take ((g.standing - 1) + g.marked) freed in
      let turned : Shuffle ℕ (rest ++ (dropped_row ∷ [])) (dropped_row ∷ rest) = subst (λ z. Shuffle ℕ (rest ++ (dropped_row ∷ [])) (dropped_row ∷ z)) (append-nil rest) (shuffle_front rest dropped_row []) in
      let there : Shuffle ℕ o.lies (dropped_row ∷ rest) = in_turn _ _ _ freed_in_use turned in
      shuffle_left dropped_row lies rest (in_turn _ _ _ s there)
