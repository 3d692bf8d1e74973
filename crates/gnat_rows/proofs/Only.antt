-- What changes of rows leave as it was, one after the other. Assumes nothing.
use Rattle.std.proofs.Common.{◌≡◌, ℕ, Bool, List, [], ◌∷◌, Some, sym, refl, ◌∙◌, subst, ⊎_elim}
use Rattle.std.specs.List.{slice_get}
use Rattle.std.proofs.lemmas.Bool.{cases_eq}
use Rattle.hits.specs.Samples.{Sample}
use Rattle.gnat_rows.specs.declared.Node.{Node}
use Rattle.gnat_rows.specs.declared.Row.{Row}
use Rattle.gnat_rows.specs.Rows.{changed, HasRow, with_node, with_marked}
use Rattle.gnat_rows.specs.Shows.{sample_in, HoldsSamples}
use Rattle.gnat_rows.specs.Lying.{Absent, OnlyIn}
use Rattle.gnat_rows.proofs.Changes.{nth_changed, nth_unchanged}

module _ {E : Type 0} where
  -- the same sample and place
  abbrev pub Alike : Row E → Row E → Type 0
  Alike r r' = (sample_in r' ≡ sample_in r) × (r'.place ≡ r.place)

  pub only_none : (rows : List (Row E)) (fs : List ℕ) → OnlyIn fs rows rows
  only_none rows fs = record { samples = λ i r e. (r, e, (refl, refl)); others = λ i a. refl }

  pub only_wider : (rows rows' : List (Row E)) (fs gs : List ℕ) → ((i : ℕ) → Absent i gs → Absent i fs) → OnlyIn fs rows rows' → OnlyIn gs rows rows'
  only_wider rows rows' fs gs f o = record { samples = o.samples; others = λ i a. o.others i (f i a) }

  pub only_then : (rows rows₁ rows₂ : List (Row E)) (fs : List ℕ) → OnlyIn fs rows rows₁ → OnlyIn fs rows₁ rows₂ → OnlyIn fs rows rows₂
  only_then rows rows₁ rows₂ fs o p =
      record {
        samples = λ i r e. let u = o.samples i r e in let v = p.samples i u.0 u.1 in (v.0, v.1, (v.2.0 ∙ u.2.0, v.2.1 ∙ u.2.1));
        others = λ i a. p.others i a ∙ o.others i a;
      }

  -- one row changed, its sample and place left
  pub only_changed : (rows : List (Row E)) (i : ℕ) (f : Row E → Row E) → ((r : Row E) → Alike r (f r)) → OnlyIn (i ∷ []) rows (changed i f rows)
  only_changed rows i f alike =
      record {
        samples = λ j r e. ⊎_elim
            (λ q. subst (λ z. HasRow (changed i f rows) z (Alike r)) (sym q) (f r, nth_changed rows i f r (subst (λ z. slice_get rows z ≡ Some r) q e), alike r))
            (λ n. (r, nth_unchanged rows i j f n ∙ e, (refl, refl))) (cases_eq j i);
        others = λ j a. nth_unchanged rows i j f a.0;
      }

  pub only_node : (rows : List (Row E)) (i : ℕ) (n : Node) → OnlyIn (i ∷ []) rows (with_node i n rows)
  only_node rows i n = only_changed rows i (λ r. record { element = r.element; number = r.number; marked = r.marked; place = r.place; node = n }) (λ r. (refl, refl))

  pub only_marked : (rows : List (Row E)) (i : ℕ) (m : Bool) → OnlyIn (i ∷ []) rows (with_marked i m rows)
  only_marked rows i m = only_changed rows i (λ r. record { element = r.element; number = r.number; marked = m; place = r.place; node = r.node }) (λ r. (refl, refl))

  -- rows hold the samples that they held
  pub holds_kept : (rows rows' : List (Row E)) (fs is : List ℕ) (xs : List (Sample E)) → OnlyIn fs rows rows' → HoldsSamples rows is xs → HoldsSamples rows' is xs
  holds_kept rows rows' fs [] [] o h = tt
  holds_kept rows rows' fs [] (x ∷ xs) o h = h
  holds_kept rows rows' fs (i ∷ is) [] o h = h
  holds_kept rows rows' fs (i ∷ is) (x ∷ xs) o h = let v = o.samples i h.0 h.1 in (v.0, v.1, v.2.0 ∙ h.2, holds_kept rows rows' fs is xs o h.3)
