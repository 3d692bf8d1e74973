-- The caller's list, hit by hit. Assumes nothing.
use Rattle.std.proofs.Common.{◌≡◌, ℕ, zero, suc, ◌+◌, ◌-◌, ◌<◌, ◌≤◌, min, Bool, true, false, cond, leb, eqb, List, length, get_or, take, drop, Some, sym, refl, ap, ◌∙◌, subst, arith, length-append, length-drop, length-take}
use Rattle.std.proofs.lemmas.List.{take-take, get_or_append_left, get_or-take}
use Rattle.std.proofs.lemmas.Bool.{le-leb, lt-leb, eqb-true, eq-eqb}
use Rattle.std.proofs.lemmas.Option.{slice_get_within, get_or_from_slice_get}
use Rattle.std.specs.Bool.{then_some}
use Rattle.std.specs.List.{slice_get}
use Rattle.hits.specs.declared.Hit.{Hit}
use Rattle.hits.specs.Order.{Sorted, put}
use Rattle.hits.specs.Lists.{over}
use Rattle.hits.proofs.Putting.{length_put, put_sorted}
use Rattle.hits.proofs.Keeping.{keep_one, keep_count}
use Rattle.gnat_theory.specs.Searching.{State, kth, counted_in}
use Rattle.gnat_theory.proofs.Steps.{kth_there, kth_none, nearest_sorted}
use Rattle.gnat_search.specs.declared.Aim.{Aim}
use Rattle.gnat_search.specs.declared.Aim.TheVariants.{Nearest, Within}
use Rattle.gnat_search.specs.declared.found.Found.{Found}
use Rattle.gnat_search.specs.Wants.{want, Kept}

module _ (old list : List Hit) (p : Found) (st : State) (k : Kept old list p st) where
  pub kept_long : length list ≡ length old
  kept_long = ap length k.writes ∙ simp (length-append, length-take, length-drop) (omega arith)

  -- one more hit is placed
  module _ (h : Hit) (more : ℕ) (new : List Hit) (n : more ≡ min (length list) (p.held + 1)) (after : Sorted (take p.held list) → new ≡ over (take (length list) (put h (take p.held list))) list) where
    placed : new ≡ over (take (length old) (put h st.kept)) old
    placed = keep_one p.held h st.kept list new old k.writes k.holds k.sorted after

    counts : more ≡ min (length old) (length (put h st.kept))
    counts = keep_count p.held h st.kept list new old k.writes k.holds more n

    -- it counts, by the aim
    module _ (a : Aim) (r : Found) (held : r.held ≡ more) (measured : r.measured ≡ p.measured + 1) where
      pub near_kept : a ≡ Nearest → r.found ≡ more → Kept old new r (counted_in (want a (length list)) h st)
      near_kept is found =
          let some : length (take (length list) (put h st.kept)) ≡ more = length-take (length list) (put h st.kept) ∙ omega (arith, counts, kept_long) in
          subst (λ z. Kept old new r (counted_in (want z (length list)) h st)) (sym is)
          (record {
            finds = found ∙ sym some;
            holds = omega (arith, held, counts, some, kept_long);
            measures = omega (arith, measured, k.measures);
            writes = placed ∙ ap (λ z. over z old) (sym (ap (λ m. take (length old) (take m (put h st.kept))) kept_long ∙ take-take (length old) (length old) (put h st.kept) (omega arith)));
            sorted = nearest_sorted (length list) h st.kept k.sorted;
          })

      pub within_kept : (radius : ℕ) → a ≡ Within radius → h.distance ≤ radius → r.found ≡ p.found + 1 → Kept old new r (counted_in (want a (length list)) h st)
      within_kept radius is l found =
          let whole : cond (leb h.distance radius) (put h st.kept) st.kept ≡ put h st.kept = ap (λ t. cond t (put h st.kept) st.kept) (le-leb h.distance radius l) in
          subst (λ z. Kept old new r (counted_in (want z (length list)) h st)) (sym is)
          (subst (λ z. Kept old new r (record { kept = z; measured = suc st.measured })) (sym whole)
          (record {
            finds = omega (arith, found, k.finds, length_put h st.kept);
            holds = held ∙ counts;
            measures = omega (arith, measured, k.measures);
            writes = placed;
            sorted = put_sorted h st.kept k.sorted;
          }))

  -- a hit outside the radius is not placed
  pub outside_kept : (h : Hit) (new : List Hit) (a : Aim) (r : Found) (radius : ℕ) → a ≡ Within radius → radius < h.distance → new ≡ list → r.found ≡ p.found → r.held ≡ p.held → r.measured ≡ p.measured + 1 → Kept old new r (counted_in (want a (length list)) h st)
  outside_kept h new a r radius is l same found held measured =
      let none : cond (leb h.distance radius) (put h st.kept) st.kept ≡ st.kept = ap (λ t. cond t (put h st.kept) st.kept) (lt-leb h.distance radius l) in
      subst (λ z. Kept old new r (counted_in (want z (length list)) h st)) (sym is)
      (subst (λ z. Kept old new r (record { kept = z; measured = suc st.measured })) (sym none)
      (record { finds = found ∙ k.finds; holds = held ∙ k.holds; measures = omega (arith, measured, k.measures); writes = same ∙ k.writes; sorted = k.sorted }))

  -- the farthest hit of a full list is the k-th
  pub full_reach : (d : Hit) → 0 < length list → p.held ≡ length list → Some (get_or list (length list - 1) d).distance ≡ kth (length list) st.kept
  full_reach d some full = go (length list) refl
    where
      go : (n : ℕ) → n ≡ length list → Some (get_or list (n - 1) d).distance ≡ kth n st.kept
      go zero e = absurd (omega arith)
      go (suc m) e =
          let back : suc m - 1 ≡ m = omega arith in
          let there : m < length st.kept = omega (arith, kept_long, k.holds) in
          let front : m < length (take (length old) st.kept) = simp length-take (omega (arith, kept_long)) in
          let same : get_or list m d ≡ get_or st.kept m d =
          ap (λ z. get_or z m d) k.writes ∙ (get_or_append_left (take (length old) st.kept) (drop (length (take (length old) st.kept)) old) d m front ∙ get_or-take (length old) st.kept m d (omega (arith, kept_long))) in
          ap (λ n. Some (get_or list n d).distance) back ∙ (ap (λ z. Some z.distance) same ∙ sym (kth_there m st.kept d there))

  -- how far off a sample could still count, by the list's last hit
  pub last_reach : (d : Hit) → slice_get list (length list - 1) ≡ Some d → then_some (eqb p.held (length list)) d.distance ≡ kth (length list) st.kept
  last_reach d e = go (eqb p.held (length list)) refl
    where
      some : length list - 1 < length list
      some = slice_get_within list (length list - 1) d e

      go : (b : Bool) → eqb p.held (length list) ≡ b → then_some b d.distance ≡ kth (length list) st.kept
      go true f = ap (λ z. Some z.distance) (sym (get_or_from_slice_get list (length list - 1) d d e)) ∙ full_reach d (omega (arith, some)) (eqb-true p.held (length list) f)
      go false f =
          let fewer : p.held ≡ length list → ⊥ = λ z. (let x : true ≡ false = sym (eq-eqb p.held (length list) z) ∙ f in absurd cc) in
          sym (kth_none (length list) st.kept (omega (arith, some, fewer, kept_long, k.holds)))
