-- Row by row, the hits within a radius. Assumes nothing.
use Rattle.std.proofs.Common.{◌≡◌, ℕ, ◌+◌, ◌<◌, ◌≤◌, min, List, [], ◌∷◌, ◌++◌, length, get_or, take, sym, refl, ap, ◌∙◌, subst, arith}
use Rattle.std.proofs.Math.Seq.{take-nil}
use Rattle.std.proofs.lemmas.List.{take_more, take_all, map_push, take-map}
use Rattle.hits.specs.declared.Hit.{Hit}
use Rattle.hits.specs.Order.{InOrder, Sorted, put, inside}
use Rattle.hits.specs.Samples.{Rising, hit_of, hits}
use Rattle.hits.proofs.Ranking.{hits_push, hits_ranked, hits_sorted}
use Rattle.hits.proofs.Keeping.{inside_put, inside_put_far, inside_in_order, inside_sorted, keep_one, keep_count}
use Rattle.hits.proofs.Putting.{length_put}
use Rattle.hits.specs.Lists.{over}
use Rattle.index.proofs.Standing.{rising_take}
use Rattle.scan.specs.declared.rows.Row.{Row}
use Rattle.scan.specs.Rows.{sample_of, samples}

-- the hits within r among the first i rows
module _ {E : Type 0} (dist : E → E → ℕ) (q : E) (r : ℕ) where
  abbrev pub first_hits : ℕ → List (Row E) → List Hit
  first_hits i rows = inside r (hits dist q (samples (take i rows)))

  module _ (rows : List (Row E)) where
    order : (i : ℕ) → Sorted (hits dist q (samples (take i rows)))
    order i = hits_sorted dist q (samples (take i rows))

    pub first_sorted : (i : ℕ) → Sorted (first_hits i rows)
    first_sorted i = inside_sorted r (hits dist q (samples (take i rows))) (order i)

    -- by number rising, each of these hits precedes all behind it
    pub first_in_order : Rising 0 65535 (samples rows) → (i : ℕ) → InOrder (first_hits i rows)
    first_in_order rise i = inside_in_order r (hits dist q (samples (take i rows))) (in_order i)
      where
        in_order : (i : ℕ) → InOrder (hits dist q (samples (take i rows)))
        in_order i = (hits_ranked dist q 0 65535 (samples (take i rows)) (subst (Rising 0 65535) (take-map sample_of i rows) (rising_take 0 65535 i (samples rows) rise))).ordered

    module _ (i : ℕ) (row : Row E) (l : i < length rows) (is : row ≡ get_or rows i row) where
      next : hits dist q (samples (take (i + 1) rows)) ≡ put (hit_of dist q (sample_of row)) (hits dist q (samples (take i rows)))
      next =
          let more : take (i + 1) rows ≡ take i rows ++ (row ∷ []) = take_more rows i row l ∙ ap (λ z. take i rows ++ (z ∷ [])) (sym is) in
          ap (λ z. hits dist q (samples z)) more ∙ (ap (hits dist q) (map_push sample_of (take i rows) row) ∙ hits_push dist q (samples (take i rows)) (sample_of row))

      -- one row more, within the radius
      pub first_near : dist q row.element ≤ r → first_hits (i + 1) rows ≡ put (hit_of dist q (sample_of row)) (first_hits i rows)
      first_near h = ap (inside r) next ∙ inside_put r (hit_of dist q (sample_of row)) (hits dist q (samples (take i rows))) (order i) h

      -- one row more, outside it
      pub first_far : r < dist q row.element → first_hits (i + 1) rows ≡ first_hits i rows
      first_far h = ap (inside r) next ∙ inside_put_far r (hit_of dist q (sample_of row)) (hits dist q (samples (take i rows))) h

-- After i rows: how many of them are within the radius, how many of those hits the list holds, and the list, which keeps
-- the nearest of them over what it held before.
pub record Gathered {E : Type 0} (dist : E → E → ℕ) (q : E) (r : ℕ) (rows : List (Row E)) (i found held : ℕ) (list old : List Hit) : Type 0 where
  pub few : found ≤ i
  pub count : found ≡ length (first_hits dist q r i rows)
  pub holds : held ≡ min (length old) found
  pub writes : list ≡ over (take (length old) (first_hits dist q r i rows)) old

module _ {E : Type 0} (dist : E → E → ℕ) (q : E) (r : ℕ) (rows : List (Row E)) where
  pub none_gathered : (old : List Hit) → Gathered dist q r rows 0 0 0 old old
  none_gathered old = record { few = omega arith; count = refl; holds = omega arith; writes = ap (λ z. over z old) (sym (take-nil (length old))) }

  module _ (i found held : ℕ) (list old : List Hit) (row : Row E) (l : i < length rows) (is : row ≡ get_or rows i row) (g : Gathered dist q r rows i found held list old) where
    pub near_gathered : (d more : ℕ) (new : List Hit) → d ≡ dist q row.element → d ≤ r
        → more ≡ min (length list) (held + 1)
        → (Sorted (take held list) → new ≡ over (take (length list) (put (record { number = row.number; distance = d }) (take held list))) list)
        → Gathered dist q r rows (i + 1) (found + 1) more new old
    near_gathered d more new e h n after =
        let fs = first_hits dist q r i rows in
        let x : Hit = record { number = row.number; distance = d } in
        let same : hit_of dist q (sample_of row) ≡ x = ap (λ z. record { number = row.number; distance = z }) (sym e) in
        let next : first_hits dist q r (i + 1) rows ≡ put x fs = first_near dist q r rows i row l is (omega arith) ∙ ap (λ z. put z fs) same in
        let room : held ≡ min (length old) (length fs) = g.holds ∙ ap (min (length old)) g.count in
        record {
          few = omega (arith, g.few);
          count = omega (arith, ap length next, length_put x fs, g.count);
          holds = keep_count held x fs list new old g.writes room more n ∙ ap (min (length old)) (omega (arith, length_put x fs, g.count));
          writes = keep_one held x fs list new old g.writes room (first_sorted dist q r rows i) after ∙ ap (λ z. over (take (length old) z) old) (sym next);
        }

    pub far_gathered : (d : ℕ) → d ≡ dist q row.element → r < d → Gathered dist q r rows (i + 1) found held list old
    far_gathered d e h =
        let same = first_far dist q r rows i row l is (omega arith) in
        record {
          few = omega (arith, g.few);
          count = g.count ∙ ap length (sym same);
          holds = g.holds;
          writes = g.writes ∙ ap (λ z. over (take (length old) z) old) (sym same);
        }

  all_hits : (i : ℕ) → length rows ≤ i → first_hits dist q r i rows ≡ inside r (hits dist q (samples rows))
  all_hits i l = ap (λ z. inside r (hits dist q (samples z))) (take_all i rows l)

  module _ (i found held : ℕ) (list old : List Hit) (l : length rows ≤ i) (g : Gathered dist q r rows i found held list old) where
    pub all_counted : found ≡ length (inside r (hits dist q (samples rows)))
    all_counted = g.count ∙ ap length (all_hits i l)

    pub all_written : list ≡ over (take (length old) (inside r (hits dist q (samples rows)))) old
    all_written = g.writes ∙ ap (λ z. over (take (length old) z) old) (all_hits i l)

  -- the same under other names
  pub gathered_as : (i f g h k : ℕ) (xs ys old : List Hit) → f ≡ g → h ≡ k → xs ≡ ys → Gathered dist q r rows i g k ys old → Gathered dist q r rows i f h xs old
  gathered_as i f g h k xs ys old a b c x = record { few = omega (arith, x.few); count = a ∙ x.count; holds = b ∙ (x.holds ∙ ap (min (length old)) (sym a)); writes = c ∙ x.writes }
