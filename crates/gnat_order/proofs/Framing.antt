-- What rows show does not depend on their places. Assumes nothing.
use Rattle.std.proofs.Common.{◌≡◌, ℕ, zero, suc, List, [], ◌∷◌, ◌++◌, length, get_or, Some, None, Option, sym, refl, ap, ◌∙◌, arith}
use Rattle.std.specs.List.{slice_get}
use Rattle.std.proofs.lemmas.List.{ext_get_or, length-map}
use Rattle.hits.specs.Samples.{Sample}
use Rattle.gnat_theory.specs.Tree.{Tree, Parts}
use Rattle.gnat_theory.specs.Tree.Tree.{leaf, branch}
use Rattle.gnat_theory.specs.Tree.Parts.{none, part}
use Rattle.gnat_rows.specs.declared.Branch.{Branch as BranchRecord}
use Rattle.gnat_rows.specs.declared.Node.{Node}
use Rattle.gnat_rows.specs.declared.Row.{Row}
use Rattle.gnat_rows.specs.Lying.{Absent, OnlyIn}
use Rattle.gnat_rows.specs.Rows.{changed}
use Rattle.gnat_rows.proofs.Changes.{nth_unchanged, nth_there}
use Rattle.gnat_rows.specs.Shows.{HoldsSamples, Shows, ShowsParts, sample_in}
use Rattle.gnat_rows.specs.Trees.{sample_on, samples_at}
use Rattle.gnat_order.specs.Order.{Within, places, at_place, placed}
use Rattle.gnat_order.proofs.Places.{place_of}

module _ {E : Type 0} where
  -- a row with other places
  nth_placed : (ps : List ℕ) (rows : List (Row E)) (i : ℕ) (r : Row E) → slice_get rows i ≡ Some r → (p : ℕ) × (slice_get (placed ps rows) i ≡ Some (at_place p r))
  nth_placed [] rows i r e = (r.place, e)
  nth_placed (p ∷ ps) [] i r e = let z : ◌≡◌ {A = ℕ} 0 1 = cc in absurd (omega arith)
  nth_placed (p ∷ ps) (x ∷ rows) zero r e = let s : x ≡ r = cc in (p, ap (λ y. Some (at_place p y)) s)
  nth_placed (p ∷ ps) (x ∷ rows) (suc i) r e = nth_placed ps rows i r e

  module _ (ps : List ℕ) (rows : List (Row E)) where
    holds_placed : (fs : List ℕ) (xs : List (Sample E)) → HoldsSamples rows fs xs → HoldsSamples (placed ps rows) fs xs
    holds_placed [] [] h = tt
    holds_placed [] (x ∷ xs) h = absurd h
    holds_placed (i ∷ fs) [] h = absurd h
    holds_placed (i ∷ fs) (x ∷ xs) h = let n = nth_placed ps rows i h.0 h.1 in (at_place n.0 h.0, n.1, h.2, holds_placed fs xs h.3)

    mutual
      pub shows_placed : (t : Tree E) (n : Node) (fs : List ℕ) → Shows rows n t fs → Shows (placed ps rows) n t fs
      shows_placed (leaf xs) n fs s = (s.0, s.1, s.2, s.3, s.4, holds_placed fs xs s.5)
      shows_placed (branch parts) n fs s = (s.0, s.1, s.2, s.3, parts_placed parts s.0 0 fs s.4)

      parts_placed : (parts : Parts E) (b : BranchRecord) (j : ℕ) (fs : List ℕ) → ShowsParts rows b j parts fs → ShowsParts (placed ps rows) b j parts fs
      parts_placed none b j fs s = s
      parts_placed (part p col t rest) b j fs s =
          let n = nth_placed ps rows (get_or b.pivots j 0) s.0 s.3 in
          (at_place n.0 s.0, s.1, s.2, n.1, s.4, s.5, shows_placed t s.0.node s.1 s.6, parts_placed rest b (suc j) s.2 s.7, s.8)

  -- two lists of rows with the same samples
  module _ (rows new : List (Row E)) (same : (i : ℕ) (r : Row E) → slice_get rows i ≡ Some r → (r' : Row E) × (slice_get new i ≡ Some r') × (sample_in r' ≡ sample_in r)) where
    pub samples_same : (is : List ℕ) → Within is (length rows) → samples_at new is ≡ samples_at rows is
    samples_same [] w = refl
    samples_same (i ∷ is) w =
        let r = nth_there rows i w.0 in
        let n = same i r.0 r.1 in
        ap (λ o. sample_on o (samples_at new is)) n.1 ∙ (ap (λ x. x ∷ samples_at new is) n.2 ∙ (ap (λ z. sample_in r.0 ∷ z) (samples_same is w.1) ∙ ap (λ o. sample_on o (samples_at rows is)) (sym r.1)))

  pub samples_placed : (ps : List ℕ) (rows : List (Row E)) (is : List ℕ) → Within is (length rows) → samples_at (placed ps rows) is ≡ samples_at rows is
  samples_placed ps rows is w = samples_same rows (placed ps rows) (λ i r e. let n = nth_placed ps rows i r e in (at_place n.0 r, n.1, refl)) is w

  module _ (fs : List ℕ) (rows new : List (Row E)) (only : OnlyIn fs rows new) (long : length new ≡ length rows) where
    -- what changes the nodes or marks of some rows alone leaves all samples
    pub samples_only : (is : List ℕ) → Within is (length rows) → samples_at new is ≡ samples_at rows is
    samples_only is w = samples_same rows new (λ i r e. let n = only.samples i r e in (n.0, n.1, n.2.0)) is w

    -- and all places
    pub places_only : places new ≡ places rows
    places_only = ext_get_or 0 (places new) (places rows) (length-map new _ ∙ (long ∙ sym (length-map rows _)))
        (λ i l. let r = nth_there rows i (omega (arith, length-map new (λ (x : Row E). x.place))) in let n = only.samples i r.0 r.1 in place_of new i n.0 n.1 ∙ (n.2.1 ∙ sym (place_of rows i r.0 r.1)))

  pub samples_append : (rows : List (Row E)) (is js : List ℕ) → samples_at rows (is ++ js) ≡ samples_at rows is ++ samples_at rows js
  samples_append rows [] js = refl
  samples_append rows (i ∷ is) js = on (slice_get rows i) (samples_append rows is js)
    where
      on : (o : Option (Row E)) → samples_at rows (is ++ js) ≡ samples_at rows is ++ samples_at rows js → sample_on o (samples_at rows (is ++ js)) ≡ sample_on o (samples_at rows is) ++ samples_at rows js
      on None e = e
      on (Some r) e = ap (λ z. sample_in r ∷ z) e

  -- a row that is none of those listed may change
  pub samples_other : (rows : List (Row E)) (at : ℕ) (f : Row E → Row E) (is : List ℕ) → Absent at is → samples_at (changed at f rows) is ≡ samples_at rows is
  samples_other rows at f [] a = refl
  samples_other rows at f (i ∷ is) a =
      ap (λ o. sample_on o (samples_at (changed at f rows) is)) (nth_unchanged rows at i f (λ e. a.0 (sym e))) ∙ ap (sample_on (slice_get rows i)) (samples_other rows at f is a.1)

  -- a change that keeps the place of a row keeps all places
  pub places_kept : (rows : List (Row E)) (at : ℕ) (f : Row E → Row E) → ((r : Row E) → (f r).place ≡ r.place) → places (changed at f rows) ≡ places rows
  places_kept [] at f k = refl
  places_kept (r ∷ rs) zero f k = ap (λ p. p ∷ places rs) (k r)
  places_kept (r ∷ rs) (suc at) f k = ap (λ z. r.place ∷ z) (places_kept rs at f k)
