-- The states of a scan before and after a call. Assumes nothing.
use Rattle.std.proofs.Common.{◌≡◌, ◌==◌, ℕ, ◌+◌, ◌-◌, ◌<◌, ◌≤◌, min, List, [], ◌∷◌, ◌++◌, length, get_or, take, drop, set, Some, None, Option, Result, refl, sym, ap, ◌∙◌, subst, arith, length-set, length-take}
use Rattle.std.specs.List.{HoldsAt, AllByRecursion, position}
use Rattle.std.specs.Option.{ok_or}
use Rattle.std.proofs.lemmas.List.{length-map, map_push, take_more_set, get_or-take, get_or_default, length-take-le, append_assoc, drop-append-le, take-append-drop}
use Rattle.metric.specs.Laws.{MetricLaws}
use Rattle.hits.specs.declared.Hit.{Hit}
use Rattle.hits.specs.Order.{inside}
use Rattle.hits.specs.Lists.{over, closed}
use Rattle.hits.specs.Samples.{Sample, Rising, hits, hit_of, Ranked}
use Rattle.hits.proofs.Closing.{closed_front, closed_length}
use Rattle.hits.proofs.Putting.{all_put}
use Rattle.hits.proofs.Keeping.{inside_all}
use Rattle.hits.proofs.Ranking.{hits_ranked, length_hits}
use Rattle.index.specs.Meaning.{Meaning, added, dropped, without, element_at}
use Rattle.index.specs.Outcomes.{room_outcome}
use Rattle.index.specs.Calls.{room_of}
use Rattle.index.specs.declared.refusal.Refusal.{Refusal}
use Rattle.index.specs.declared.refusal.Refusal.TheVariants.{NotStanding}
use Rattle.index.proofs.Standing.{rising_push, rising_without}
use Rattle.scan.specs.declared.rows.Row.{Row}
use Rattle.scan.specs.declared.scan.Scan.{Scan}
use Rattle.scan.specs.Rows.{sample_of, samples, Found}
use Rattle.scan.specs.Scans.{scan_meaning, HoldsNumberAt, PlaceTold}
use Rattle.scan.proofs.Closing.{found_first, element_here, stands_here, taken_out}

module _ {E : Type 0} (s : Scan E) where
  -- as many samples stand as rows are in use
  pub standing_count : length (scan_meaning s).standing ≡ s.used
  standing_count = simp (length-map, length-take) (omega (arith, s.used_bound))

  -- whether one more sample can be filed
  pub room_is : (capacity : ℕ) → capacity ≡ (scan_meaning s).capacity → room_outcome capacity s.used s.last ≡ room_of (scan_meaning s)
  room_is capacity e = ap (λ k. room_outcome k s.used s.last) e ∙ ap (λ n. room_outcome (scan_meaning s).capacity n s.last) (sym standing_count)

  -- the part of the rows that is in use, as it is lent
  pub lent : take (s.used - 0) s.rows.now ≡ take s.used s.rows.now
  lent = let e : s.used - 0 ≡ s.used = omega arith in ap (λ k. take k s.rows.now) e

  pub ranked : (dist : E → E → ℕ) (q : E) → Ranked dist q (scan_meaning s).standing (hits dist q (scan_meaning s).standing)
  ranked dist q = hits_ranked dist q 0 s.last (scan_meaning s).standing s.rising

-- where the sample n is, as a call tells it
pub place_told : {E : Type 0} (s : Scan E) (n : ℕ) (place : Option ℕ) (told : Result ℕ Refusal) → place ≡ position (λ row. row.number == n) (take (s.used - 0) s.rows.now) → told ≡ ok_or place (NotStanding n) → PlaceTold s n told
place_told {E} s n place told e f = subst (PlaceTold s n) (sym f) (either place (subst (λ rows. Found n rows place) (lent s) (found_first n (take (s.used - 0) s.rows.now) place e)))
  where
    either : (place : Option ℕ) → HoldsNumberAt s n place → PlaceTold s n (ok_or place (NotStanding n))
    either None h = (refl, h)
    either (Some at) h = h

-- the first rows after one more is written behind them
pub pushed : {E : Type 0} (rows : List (Row E)) (used : ℕ) (row : Row E) → used < length rows → samples (take (used + 1) (set rows used row)) ≡ samples (take used rows) ++ (sample_of row ∷ [])
pushed rows used row l = ap samples (take_more_set rows used row l) ∙ map_push sample_of (take used rows) row

-- every hit is within the largest radius
pub all_within : {E : Type 0} {top : ℕ} (dist : E → E → ℕ) → MetricLaws top dist → (q : E) (xs : List (Sample E)) → inside 4294967295 (hits dist q xs) ≡ hits dist q xs
all_within {E} dist laws q xs = inside_all 4294967295 (hits dist q xs) (each xs)
  where
    each : (xs : List (Sample E)) → AllByRecursion (λ h. h.distance ≤ 4294967295) (hits dist q xs)
    each [] = tt
    each (x ∷ xs) = all_put (λ h. h.distance ≤ 4294967295) (hit_of dist q x) (hits dist q xs) (omega (arith, laws.bounded q x.element, laws.small)) (each xs)

-- what rows mean of which the first are in use
abbrev pub rows_mean : {E : Type 0} → List (Row E) → ℕ → ℕ → Meaning E
rows_mean rows used last = record { capacity = min (length rows) 1024; last = last; standing = samples (take used rows) }

-- the state after one more row is written
module _ {E : Type 0} (s : Scan E) (e : E) (room : s.used ≡ (scan_meaning s).capacity → ⊥) (rows : List (Row E)) (filed : rows ≡ set s.rows.now s.used (record { number = s.last + 1; element = e })) where
  free : s.used < min (length s.rows.now) 1024
  free = omega (arith, s.used_bound)

  same_length : length rows ≡ length s.rows.now
  same_length = ap length filed ∙ length-set s.rows.now s.used (record { number = s.last + 1; element = e })

  one_more : samples (take (s.used + 1) rows) ≡ (scan_meaning s).standing ++ (record { number = s.last + 1; element = e } ∷ [])
  one_more = ap (λ z. samples (take (s.used + 1) z)) filed ∙ pushed s.rows.now s.used (record { number = s.last + 1; element = e }) (omega (arith, free))

  pub add_means : rows_mean rows (s.used + 1) (s.last + 1) ≡ added (scan_meaning s) e
  add_means = λ i. record { capacity = min (same_length i) 1024; last = s.last + 1; standing = one_more i }

  pub add_used : s.used + 1 ≤ min (length rows) 1024
  add_used = omega (arith, free, same_length)

  pub add_rising : Rising 0 (s.last + 1) (samples (take (s.used + 1) rows))
  add_rising = subst (Rising 0 (s.last + 1)) (sym one_more) (rising_push 0 s.last (s.last + 1) (scan_meaning s).standing (record { number = s.last + 1; element = e }) (omega arith) (omega arith) (omega arith) s.rising)

-- a row in use that holds the sample n
module _ {E : Type 0} (s : Scan E) (n at : ℕ) (here : (at < length (take s.used s.rows.now)) × HoldsAt (λ row. row.number ≡ n) (take s.used s.rows.now) at) where
  in_use : at < s.used
  in_use = omega (arith, here.0, length-take s.used s.rows.now)

  in_rows : s.used ≤ length s.rows.now
  in_rows = omega (arith, s.used_bound)

  pub stands : (e : E) × (element_at n (scan_meaning s).standing ≡ Some e)
  stands = stands_here n 0 s.last (take s.used s.rows.now) at here.0 s.rising here.1

  pub found_element : (d : Row E) → element_at n (scan_meaning s).standing ≡ Some (get_or s.rows.now at d).element
  found_element d =
      element_here n 0 s.last (take s.used s.rows.now) at (get_or s.rows.now at d).element here.0 s.rising here.1
      (λ c. ap (λ row. row.element) (get_or_default s.rows.now at d c (omega (arith, in_use, in_rows)) ∙ sym (get_or-take s.used s.rows.now at c in_use)))

  -- the state after that row is taken out
  module _ (rows : List (Row E)) (moved : rows ≡ closed at s.used s.rows.now) where
    as_long : length rows ≡ length s.rows.now
    as_long = ap length moved ∙ closed_length at s.used s.rows.now in_use in_rows

    one_less : samples (take (s.used - 1) rows) ≡ without n (scan_meaning s).standing
    one_less =
        ap (λ z. samples (take (s.used - 1) z)) moved
        ∙ (ap samples (closed_front at s.used s.rows.now in_use in_rows)
        ∙ taken_out n 0 s.last (take s.used s.rows.now) at here.0 s.rising here.1)

    pub drop_means : rows_mean rows (s.used - 1) s.last ≡ dropped (scan_meaning s) n
    drop_means = λ i. record { capacity = min (as_long i) 1024; last = s.last; standing = one_less i }

    pub drop_used : s.used - 1 ≤ min (length rows) 1024
    drop_used = omega (arith, s.used_bound, as_long)

    pub drop_rising : Rising 0 s.last (samples (take (s.used - 1) rows))
    drop_rising = subst (Rising 0 s.last) (sym one_less) (rising_without n 0 s.last (scan_meaning s).standing s.rising)

-- near asks for the hits at any distance, of which a part of the list keeps the first k; `ys` and `j` are the samples and
-- the part's length as they are lent
module _ {E : Type 0} {top : ℕ} (dist : E → E → ℕ) (laws : MetricLaws top dist) (q : E) (xs ys : List (Sample E)) (whole : ys ≡ xs) (k : ℕ) where
  any_distance : inside 4294967295 (hits dist q ys) ≡ hits dist q xs
  any_distance = ap (λ z. inside 4294967295 (hits dist q z)) whole ∙ all_within dist laws q xs

  pub near_writes : (list : List Hit) → k ≤ length list → (j : ℕ) → j ≡ k → (new : List Hit) → new ≡ over (take (length (take j list)) (inside 4294967295 (hits dist q ys))) (take j list) → new ++ drop j list ≡ over (take k (hits dist q xs)) list
  near_writes list fits j same new e =
      let hs = hits dist q xs in
      let n : length (take j list) ≡ k = length-take-le j list (omega arith) ∙ same in
      let first : take (length (take j list)) (inside 4294967295 (hits dist q ys)) ≡ take k hs = ap (λ i. take i (inside 4294967295 (hits dist q ys))) n ∙ ap (take k) any_distance in
      let few : length (take k hs) ≤ length (take j list) = omega (arith, length-take k hs) in
      ap (λ z. z ++ drop j list) (e ∙ ap (λ z. over z (take j list)) first)
      ∙ (append_assoc (take k hs) (drop (length (take k hs)) (take j list)) (drop j list)
      ∙ ap (λ z. take k hs ++ z) (sym (drop-append-le (length (take k hs)) (take j list) (drop j list) few) ∙ ap (drop (length (take k hs))) (take-append-drop j list)))

  pub near_counts : (found r : ℕ) → found ≡ length (inside 4294967295 (hits dist q ys)) → r ≡ min found k → r ≡ min k (length xs)
  near_counts found r e f = omega (arith, ap length any_distance, length_hits dist q xs)
