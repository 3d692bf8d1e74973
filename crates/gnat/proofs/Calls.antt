-- What the calls of a GNAT need of its state. Assumes the laws of the distance.
use Rattle.std.proofs.Common.{◌≡◌, ℕ, ◌<◌, ◌≤◌, eqb, List, [], ◌∷◌, ◌++◌, length, get_or, take, drop, Some, sym, ap, ◌∙◌, subst, inl, inr, arith, length-take}
use Rattle.std.specs.List.{slice_get}
use Rattle.std.proofs.lemmas.List.{length-take-le, append_assoc, drop-append-le, take-append-drop}
use Rattle.std.proofs.lemmas.Bool.{eq-eqb, ne_eqb, cond-true, cond-false}
use Rattle.hits.specs.declared.Hit.{Hit}
use Rattle.hits.specs.Lists.{over}
use Rattle.hits.specs.Samples.{Sample, Among, Ranked, Rising, hits}
use Rattle.hits.proofs.Ranking.{hits_ranked}
use Rattle.hits.proofs.Among.{all_among}
use Rattle.index.specs.Meaning.{element_at}
use Rattle.index.specs.Outcomes.{room_outcome}
use Rattle.index.specs.Calls.{room_of}
use Rattle.index.proofs.Standing.{rising_wider}
use Rattle.gnat_theory.specs.Shuffles.{Apart}
use Rattle.gnat_theory.proofs.Pruning.{rising_apart}
use Rattle.gnat_theory.proofs.Theorems.{rows_counted}
use Rattle.gnat_rows.specs.declared.Row.{Row}
use Rattle.gnat_rows.specs.Shows.{sample_in}
use Rattle.gnat_rows.proofs.Showing.{shows_length}
use Rattle.gnat_order.specs.Order.{places}
use Rattle.gnat_search.specs.Nodes.{Searchable}
use Rattle.gnat.specs.States.{State, capacity_of, standing_in, meaning_of}
use Rattle.gnat.proofs.Laid.{LaidOut, rows_in_tree}
use Rattle.gnat.specs.Lawful.{standing_count}
use Rattle.gnat.proofs.Taking.{it_is_listed}

-- where numbers are apart, a sample is found by its number
element_among : {E : Type 0} (s : Sample E) (xs : List (Sample E)) → Apart xs → Among s xs → element_at s.number xs ≡ Some s.element
element_among s [] a m = absurd m
element_among s (x ∷ xs) a (inl e) = cond-true (eqb x.number s.number) (Some x.element) (element_at s.number xs) (eq-eqb x.number s.number (ap (λ z. z.number) (sym e))) ∙ ap (λ z. Some z.element) (sym e)
element_among s (x ∷ xs) a (inr m) =
    cond-false (eqb x.number s.number) (Some x.element) (element_at s.number xs) (ne_eqb x.number s.number (all_among (λ y. x.number ≡ y.number → ⊥) s xs a.0 m)) ∙ element_among s xs a.1 m

module _ {E : Type 0} (dist : E → E → ℕ) (g : State E) (o : LaidOut dist g) where
  pub standing_rise : Rising 0 65535 (standing_in g)
  standing_rise = rising_wider 0 g.last 0 65535 (standing_in g) (omega arith) o.last_bound o.rising

  pub may_search : Searchable g.rows 1024 g.root
  may_search = (o.tree, o.lies, o.shows, omega (arith, rows_counted dist o.tree, shows_length g.rows g.root o.tree o.lies o.shows, rows_in_tree dist g o, o.in_use))

  pub ranked : (q : E) → Ranked dist q (standing_in g) (hits dist q (standing_in g))
  ranked q = hits_ranked dist q 0 g.last (standing_in g) o.rising

  pub room_is : (capacity : ℕ) → capacity ≡ capacity_of g → room_outcome capacity g.standing g.last ≡ room_of (meaning_of g)
  room_is capacity e = ap (λ k. room_outcome k g.standing g.last) e ∙ ap (λ n. room_outcome (capacity_of g) n g.last) (sym (standing_count g o.in_use o.within))

  -- the sample that is listed at this place
  pub found_element : (n at : ℕ) → at < g.standing → (r : Row E) → slice_get g.rows (get_or (places g.rows) at 0) ≡ Some r → r.number ≡ n → element_at n (standing_in g) ≡ Some r.element
  found_element n at inside r is_row is_number =
      subst (λ k. element_at k (standing_in g) ≡ Some r.element) is_number (element_among (sample_in r) (standing_in g) (rising_apart 0 g.last (standing_in g) o.rising) (it_is_listed dist g o at inside r is_row))

-- what is written to the first k places of a list
pub lent_front : (hs list new : List Hit) (k j : ℕ) → k ≤ length list → j ≡ k → new ≡ over (take (length (take j list)) hs) (take j list) → new ++ drop j list ≡ over (take k hs) list
lent_front hs list new k j fits same e =
    let n : length (take j list) ≡ k = length-take-le j list (omega arith) ∙ same in
    let few : length (take k hs) ≤ length (take j list) = omega (arith, length-take k hs) in
    ap (λ z. z ++ drop j list) (e ∙ ap (λ i. over (take i hs) (take j list)) n)
    ∙ (append_assoc (take k hs) (drop (length (take k hs)) (take j list)) (drop j list)
    ∙ ap (λ z. take k hs ++ z) (sym (drop-append-le (length (take k hs)) (take j list) (drop j list) few) ∙ ap (drop (length (take k hs))) (take-append-drop j list)))
