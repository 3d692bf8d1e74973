-- The rows of pivots cleared, and the ranges of a branch with its pivots alone. Assumes nothing.
use Rattle.std.proofs.Common.{◌≡◌, ℕ, suc, ◌+◌, ◌<◌, ◌≤◌, false, List, [], ◌∷◌, length, get_or, take, replicate, sym, refl, ap, ◌∙◌, subst, ⊎_elim, arith}
use Rattle.std.specs.List.{slice_get}
use Rattle.std.proofs.lemmas.List.{take_more, get_or-take, length-take-le}
use Rattle.std.proofs.lemmas.Bool.{cases_eq}
use Rattle.hits.specs.Samples.{Sample}
use Rattle.hits.proofs.Among.{all_left, all_right}
use Rattle.gnat_theory.specs.Splitting.{points, bare}
use Rattle.gnat_rows.specs.declared.Branch.{Branch}
use Rattle.gnat_rows.specs.declared.Row.{Row}
use Rattle.gnat_rows.specs.Rows.{HasRow, empty, with_node, with_marked}
use Rattle.gnat_rows.specs.Shows.{sample_in, ranges, column, HoldsSamples, ShowsParts}
use Rattle.gnat_rows.specs.Lying.{Absent, OnlyIn}
use Rattle.gnat_rows.proofs.Changes.{nth_there, nth_changed, nth_unchanged, same_row}
use Rattle.gnat_rows.proofs.Only.{only_wider, only_then, only_node, only_marked}
use Rattle.gnat_filing.specs.Filling.{Cleared, Clears, Bare}

module _ {E : Type 0} (rows rows₁ rows₂ : List (Row E)) (i : ℕ) (put : rows₁ ≡ with_node i empty rows) (mark : rows₂ ≡ with_marked i false rows₁) where
  emptied : Row E → Row E
  emptied r = record { element = r.element; number = r.number; marked = r.marked; place = r.place; node = empty }

  unmarked : Row E → Row E
  unmarked r = record { element = r.element; number = r.number; marked = false; place = r.place; node = r.node }

  cleared_here : i < length rows → Cleared rows₂ i
  unfolding emptied unmarked
  cleared_here w =
      let r = nth_there rows i w in
      let one = ap (λ z. slice_get z i) put ∙ nth_changed rows i emptied r.0 r.1 in
      (unmarked (emptied r.0), ap (λ z. slice_get z i) mark ∙ nth_changed rows₁ i unmarked (emptied r.0) one, (refl, refl))

  cleared_still : (k : ℕ) → (k ≡ i → ⊥) → Cleared rows k → Cleared rows₂ k
  unfolding emptied unmarked
  cleared_still k n h = (h.0, (ap (λ z. slice_get z k) mark ∙ nth_unchanged rows₁ i k unmarked n) ∙ ((ap (λ z. slice_get z k) put ∙ nth_unchanged rows i k emptied n) ∙ h.1), h.2)

  only_here : OnlyIn (i ∷ []) rows rows₂
  only_here = only_then rows rows₁ rows₂ (i ∷ []) (subst (OnlyIn (i ∷ []) rows) (sym put) (only_node rows i empty)) (subst (OnlyIn (i ∷ []) rows₁) (sym mark) (only_marked rows₁ i false))

pub clears_more : {E : Type 0} (rows₀ rows rows₁ rows₂ : List (Row E)) (is : List ℕ) (j : ℕ) → j < length is → get_or is j 0 < length rows → rows₁ ≡ with_node (get_or is j 0) empty rows → rows₂ ≡ with_marked (get_or is j 0) false rows₁ → Clears rows₀ rows is j → Clears rows₀ rows₂ is (j + 1)
clears_more rows₀ rows rows₁ rows₂ is j l w put mark c =
    let i = get_or is j 0 in
    let more = take_more is j 0 l in
    let earlier : (k : ℕ) → k < j + 1 → (get_or is k 0 ≡ i → ⊥) → k < j = λ k u n. ⊎_elim (λ e. absurd (n (ap (λ z. get_or is z 0) e))) (λ e. omega arith) (cases_eq k j) in
    record {
      cleared = λ k u. ⊎_elim (λ e. subst (Cleared rows₂) (sym e) (cleared_here rows rows₁ rows₂ i put mark w)) (λ n. cleared_still rows rows₁ rows₂ i put mark (get_or is k 0) n (c.cleared k (earlier k u n))) (cases_eq (get_or is k 0) i);
      only = only_then rows₀ rows rows₂ (take (j + 1) is)
          (only_wider rows₀ rows (take j is) (take (j + 1) is) (λ k a. all_left (λ z. k ≡ z → ⊥) (take j is) (i ∷ []) (subst (Absent k) more a)) c.only)
          (only_wider rows rows₂ (i ∷ []) (take (j + 1) is) (λ k a. all_right (λ z. k ≡ z → ⊥) (take j is) (i ∷ []) (subst (Absent k) more a)) (only_here rows rows₁ rows₂ i put mark));
    }

module _ {E : Type 0} (dist : E → E → ℕ) (rows : List (Row E)) where
  -- the distances of pivots to one sample, as ranges
  points_are : (s : Sample E) (is : List ℕ) (ps : List (Sample E)) (ds : List ℕ) → length is ≤ length ds → ((k : ℕ) → k < length is → HasRow rows (get_or is k 0) (λ q. get_or ds k 0 ≡ dist q.element s.element)) → HoldsSamples rows is ps → ranges (length is) ds ds ≡ points dist ps s
  points_are s [] [] ds l f h = refl
  points_are s [] (p ∷ ps) ds l f h = absurd h
  points_are s (i ∷ is) [] ds l f h = absurd h
  points_are s (i ∷ is) (p ∷ ps) [] l f h = absurd (omega arith)
  points_are s (i ∷ is) (p ∷ ps) (d ∷ ds) l f h =
      let one = f 0 (omega arith) in
      let same = same_row rows i one.0 h.0 one.1 h.1 in
      let here : d ≡ dist p.element s.element = one.2 ∙ ap (λ z. dist z.element s.element) same ∙ ap (λ z. dist z.element s.element) h.2 in
      λ k. record { low = here k; high = here k } ∷ points_are s is ps ds (omega arith) (λ m u. f (suc m) (omega arith)) h.3 k

  module _ (b : Branch) (ps : List (Sample E)) where
    -- the parts from the j-th on of a branch over empty leaves
    parts_bare : (j : ℕ) (is : List ℕ) (qs : List (Sample E)) → ((k : ℕ) → k < length is → get_or is k 0 ≡ get_or b.pivots (j + k) 0) → ((k : ℕ) → k < length is → Cleared rows (get_or is k 0))
        → ((k : ℕ) → k < length is → HasRow rows (get_or is k 0) (λ r. column b (j + k) ≡ points dist ps (sample_in r))) → HoldsSamples rows is qs → ShowsParts rows b j (bare dist ps qs) is
    parts_bare j [] [] at cleared ranged h = refl
    parts_bare j [] (q ∷ qs) at cleared ranged h = absurd h
    parts_bare j (i ∷ is) [] at cleared ranged h = absurd h
    parts_bare j (i ∷ is) (q ∷ qs) at cleared ranged h =
        let back : j + 0 ≡ j = omega arith in
        let here : i ≡ get_or b.pivots j 0 = at 0 (omega arith) ∙ ap (λ z. get_or b.pivots z 0) back in
        let c = cleared 0 (omega arith) in
        let r = h.0 in
        let same = same_row rows i c.0 r c.1 h.1 in
        let node-is : r.node ≡ empty = ap (λ z. z.node) (sym same) ∙ c.2.0 in
        let mark-is : r.marked ≡ false = ap (λ z. z.marked) (sym same) ∙ c.2.1 in
        let g = ranged 0 (omega arith) in
        let same' = same_row rows i g.0 r g.1 h.1 in
        let col : column b j ≡ points dist ps q = ap (column b) (sym back) ∙ (g.2 ∙ ap (λ z. points dist ps (sample_in z)) same' ∙ ap (points dist ps) h.2) in (
          r,
          [],
          is,
          ap (slice_get rows) (sym here) ∙ h.1,
          (λ k. record { number = (h.2 k).number; element = (h.2 k).element; marked = mark-is k }),
          col,
          (record { count = 0; rows = replicate 32 0 }, node-is, refl, omega arith, refl, tt),
          parts_bare (suc j) is qs (λ k u. at (suc k) (omega arith) ∙ ap (λ z. get_or b.pivots z 0) (omega arith)) (λ k u. cleared (suc k) (omega arith))
              (λ k u. let v = ranged (suc k) (omega arith) in (v.0, v.1, ap (column b) (omega arith) ∙ v.2)) h.3,
          (λ k. here k ∷ is),
        )

  -- a branch of cleared pivots, with the ranges of its pivots alone
  pub bare_shown : (is : List ℕ) (degree : ℕ) (b : Branch) (ps : List (Sample E)) → degree ≤ length is → degree ≤ 8 → ((k : ℕ) → k < degree → Cleared rows (get_or is k 0)) → Bare dist rows is degree b → HoldsSamples rows (take degree is) ps → ShowsParts rows b 0 (bare dist ps ps) (take degree is)
  bare_shown is degree b ps l m cleared made h =
      let size : length (take degree is) ≡ degree = length-take-le degree is l in
      let at : (k : ℕ) → k < length (take degree is) → get_or (take degree is) k 0 ≡ get_or is k 0 = λ k u. get_or-take degree is k 0 (omega arith) in
      parts_bare b ps 0 (take degree is) ps
      (λ k u. let z : 0 + k ≡ k = omega arith in at k u ∙ (λ e. get_or (sym made.pivots e) (sym z e) 0))
      (λ k u. subst (Cleared rows) (sym (at k u)) (cleared k (omega arith)))
      (λ k u.
      let z : 0 + k ≡ k = omega arith in
      let p = made.points k (omega arith) in
      let same : b.count ≡ length (take degree is) = made.count ∙ sym size in
      let ds = p.2.0 in
      let dots = points_are (sample_in p.0) (take degree is) ps ds (omega (arith, p.2.2)) (λ j v. subst (λ y. HasRow rows y (λ q. get_or ds j 0 ≡ dist q.element p.0.element)) (sym (at j v)) (p.2.1 j (omega arith))) h in
      (p.0, ap (slice_get rows) (at k u) ∙ p.1, ap (column b) z ∙ (p.2.3 ∙ ap (λ y. ranges y ds ds) same ∙ dots)))
      h
