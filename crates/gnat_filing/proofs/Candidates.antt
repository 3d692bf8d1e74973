-- What candidates stand for, and the next pivot among them. Assumes nothing.
use Rattle.std.proofs.Common.{◌≡◌, ℕ, zero, suc, ◌+◌, ◌-◌, ◌<◌, ◌≤◌, min, cond, ◌&&◌, ◌||◌, eqb, ltb, List, [], ◌∷◌, ◌++◌, map, length, get_or, take, sym, refl, ap, ◌∙◌, subst, ⊎_elim, arith}
use Rattle.std.specs.List.{slice_get}
use Rattle.std.proofs.lemmas.List.{get_or_default, get_or_append_left, get_or_push, length_push, append_assoc, take-append-le}
use Rattle.std.proofs.lemmas.Bool.{le-ltb, eq-eqb, cases_lt}
use Rattle.std.proofs.lemmas.Option.{slice_get_within}
use Rattle.metric.specs.Laws.{MetricLaws}
use Rattle.hits.specs.Samples.{Sample}
use Rattle.gnat_theory.specs.Choice.{first_from, first_place, removed}
use Rattle.gnat_theory.specs.Filing.{distances}
use Rattle.gnat_theory.specs.Splitting.{least, gap, farther, chosen}
use Rattle.gnat_theory.specs.Shuffles.{Shuffle}
use Rattle.gnat_theory.specs.Shuffles.Shuffle.{nothing, after, swapped, in_turn}
use Rattle.gnat_theory.proofs.Firsts.{first_below, removed_shuffle}
use Rattle.gnat_theory.proofs.Shuffling.{same_order, shuffle_behind}
use Rattle.gnat_rows.specs.declared.Row.{Row}
use Rattle.gnat_rows.specs.Rows.{HasRow}
use Rattle.gnat_rows.specs.Shows.{sample_in, HoldsSamples}
use Rattle.gnat_rows.proofs.Changes.{same_row}
use Rattle.gnat_rows.proofs.Showing.{holds_append}
use Rattle.gnat_filing.specs.declared.choosing.Candidate.{Candidate}
use Rattle.gnat_filing.specs.Choosing.{top, blank, farther_one, rows_of, reach, Candidates, Renewed, CandidateOf, TakesNext, TakesItsNext, Chosen}

pub shuffle_map : {X Y : Type 0} (f : X → Y) (xs ys : List X) → Shuffle X xs ys → Shuffle Y (map f xs) (map f ys)
shuffle_map f _ _ nothing = nothing
shuffle_map f _ _ (after x xs ys s) = after (f x) (map f xs) (map f ys) (shuffle_map f xs ys s)
shuffle_map f _ _ (swapped x y xs) = swapped (f x) (f y) (map f xs)
shuffle_map f _ _ (in_turn xs ys zs s t) = in_turn (map f xs) (map f ys) (map f zs) (shuffle_map f xs ys s) (shuffle_map f ys zs t)

level_test : (a m n : ℕ) → (ltb a a || (eqb a a && ltb m n)) ≡ ltb m n
level_test a m n = λ i. (le-ltb a a (omega arith)) i || ((eq-eqb a a refl) i && ltb m n)

-- no distance is large
pub never_large : {E : Type 0} {most : ℕ} {dist : E → E → ℕ} → MetricLaws most dist → (e f : E) → dist e f ≤ 1048576
never_large laws e f = omega (arith, laws.bounded e f, laws.small)

module _ {E : Type 0} (rows : List (Row E)) where
  -- these rows are put down as candidates, in order
  pub record PutDown (is : List ℕ) (cs : List Candidate) : Type 0 where
    pub long : length cs ≡ length is
    pub each : (k : ℕ) → k < length is → CandidateOf rows (get_or is k 0) (get_or cs k blank)

  pub put_more : (is : List ℕ) (cs : List Candidate) (i : ℕ) (c : Candidate) → PutDown is cs → CandidateOf rows i c → PutDown (is ++ (i ∷ [])) (cs ++ (c ∷ []))
  put_more is cs i c p new =
      record {
        long = length_push cs c ∙ ap (λ z. z + 1) p.long ∙ sym (length_push is i);
        each = λ k u.
            ⊎_elim
            (λ v. subst (λ z. CandidateOf rows z (get_or (cs ++ (c ∷ [])) k blank)) (sym (get_or_append_left is (i ∷ []) 0 k v)) (subst (CandidateOf rows (get_or is k 0)) (sym (get_or_append_left cs (c ∷ []) blank k (omega (arith, p.long)))) (p.each k v)))
            (λ v. let e : length is ≡ k = omega (arith, length_push is i) in
            subst (λ z. CandidateOf rows z (get_or (cs ++ (c ∷ [])) k blank)) (sym (get_or_push is i 0 k e)) (subst (CandidateOf rows i) (sym (get_or_push cs c blank k (p.long ∙ e))) new))
            (cases_lt k (length is));
      }

module _ {E : Type 0} (dist : E → E → ℕ) (small : (e f : E) → dist e f ≤ 1048576) (rows : List (Row E)) where
  reach_gap : (p : Sample E) (ps : List (Sample E)) (x : Sample E) → reach dist rows (p ∷ ps) x ≡ gap dist (p ∷ ps) x
  unfolding top
  reach_gap p ps x = let d = small p.element x.element in let e : min top (dist p.element x.element) ≡ dist p.element x.element = omega arith in ap (λ z. least z (distances dist ps x)) e

  same_test : (ps : List (Sample E)) (x y : Sample E) (c d : Candidate) → c.number ≡ x.number → c.gap ≡ reach dist rows ps x → d.number ≡ y.number → d.gap ≡ reach dist rows ps y → farther_one c d ≡ farther dist ps x y
  unfolding farther
  same_test [] x y c d n g n' g' =
      (λ i. ltb (g' i) (g i) || (eqb (g' i) (g i) && ltb (n i) (n' i))) ∙ level_test top x.number y.number ∙ sym (level_test 0 x.number y.number)
  same_test (p ∷ ps) x y c d n g n' g' =
      let u = g ∙ reach_gap p ps x in
      let v = g' ∙ reach_gap p ps y in
      λ i. ltb (v i) (u i) || (eqb (v i) (u i) && ltb (n i) (n' i))

  reach_more : (p : Sample E) (ps : List (Sample E)) (x : Sample E) (a : ℕ) → least a (distances dist (ps ++ (p ∷ [])) x) ≡ min (least a (distances dist ps x)) (dist p.element x.element)
  reach_more p [] x a = refl
  reach_more p (q ∷ ps) x a = reach_more p ps x (min a (dist q.element x.element))

  module _ (ps : List (Sample E)) where
    pub cand_length : (cs : List Candidate) (xs : List (Sample E)) → Candidates dist rows ps cs xs → length cs ≡ length xs
    cand_length [] [] h = refl
    cand_length [] (x ∷ xs) h = absurd h
    cand_length (c ∷ cs) [] h = absurd h
    cand_length (c ∷ cs) (x ∷ xs) h = ap suc (cand_length cs xs h.3)

    pub cand_at : (cs : List Candidate) (xs : List (Sample E)) (k : ℕ) (d : Sample E) → k < length cs → Candidates dist rows ps cs xs → HasRow rows (get_or cs k blank).row (λ r. sample_in r ≡ get_or xs k d)
    cand_at [] xs k d l h = absurd (omega arith)
    cand_at (c ∷ cs) [] k d l h = absurd h
    cand_at (c ∷ cs) (x ∷ xs) zero d l h = h.0
    cand_at (c ∷ cs) (x ∷ xs) (suc k) d l h = cand_at cs xs k d (omega arith) h.3

    pub cand_within : (cs : List Candidate) (xs : List (Sample E)) (k : ℕ) → k < length cs → Candidates dist rows ps cs xs → (get_or cs k blank).row < length rows
    cand_within [] xs k l h = absurd (omega arith)
    cand_within (c ∷ cs) [] k l h = absurd h
    cand_within (c ∷ cs) (x ∷ xs) zero l h = slice_get_within rows c.row h.0.0 h.0.1
    cand_within (c ∷ cs) (x ∷ xs) (suc k) l h = cand_within cs xs k (omega arith) h.3

    pub cand_holds : (cs : List Candidate) (xs : List (Sample E)) → Candidates dist rows ps cs xs → HoldsSamples rows (rows_of cs) xs
    cand_holds [] [] h = tt
    cand_holds [] (x ∷ xs) h = h
    cand_holds (c ∷ cs) [] h = h
    cand_holds (c ∷ cs) (x ∷ xs) h = (h.0.0, h.0.1, h.0.2, cand_holds cs xs h.3)

    pub cand_removed : (j : ℕ) (cs : List Candidate) (xs : List (Sample E)) → Candidates dist rows ps cs xs → Candidates dist rows ps (removed j cs) (removed j xs)
    cand_removed j [] [] h = tt
    cand_removed j [] (x ∷ xs) h = absurd h
    cand_removed j (c ∷ cs) [] h = absurd h
    cand_removed zero (c ∷ cs) (x ∷ xs) h = h.3
    cand_removed (suc j) (c ∷ cs) (x ∷ xs) h = (h.0, h.1, h.2, cand_removed j cs xs h.3)

    same_from : (j i : ℕ) (c : Candidate) (x : Sample E) (cs : List Candidate) (xs : List (Sample E)) → c.number ≡ x.number → c.gap ≡ reach dist rows ps x → Candidates dist rows ps cs xs → first_from farther_one j c i cs ≡ first_from (farther dist ps) j x i xs
    same_from j i c x [] [] n g h = refl
    same_from j i c x [] (y ∷ xs) n g h = absurd h
    same_from j i c x (d ∷ cs) [] n g h = absurd h
    same_from j i c x (d ∷ cs) (y ∷ xs) n g h =
        λ k. cond (same_test ps y x d c h.1 h.2 n g k) (same_from i (suc i) d y cs xs h.1 h.2 h.3 k) (same_from j (suc i) c x cs xs n g h.3 k)

    pub same_first : (cs : List Candidate) (xs : List (Sample E)) → Candidates dist rows ps cs xs → first_place farther_one cs ≡ first_place (farther dist ps) xs
    same_first [] [] h = refl
    same_first [] (x ∷ xs) h = absurd h
    same_first (c ∷ cs) [] h = absurd h
    same_first (c ∷ cs) (x ∷ xs) h = same_from 0 1 c x cs xs h.1 h.2 h.3

    -- the distances to one more pivot count in
    cand_renewed : (p : Sample E) (cs cs' : List Candidate) (xs : List (Sample E)) → length cs ≡ length cs' → ((k : ℕ) → k < length cs → Renewed dist rows p.element (get_or cs k blank) (get_or cs' k blank)) → Candidates dist rows ps cs xs → Candidates dist rows (ps ++ (p ∷ [])) cs' xs × (rows_of cs' ≡ rows_of cs)
    cand_renewed p [] [] [] l r h = (tt, refl)
    cand_renewed p [] [] (x ∷ xs) l r h = absurd h
    cand_renewed p [] (c ∷ cs') xs l r h = absurd (omega arith)
    cand_renewed p (c ∷ cs) [] xs l r h = absurd (omega arith)
    cand_renewed p (c ∷ cs) (c' ∷ cs') [] l r h = absurd h
    cand_renewed p (c ∷ cs) (c' ∷ cs') (x ∷ xs) l r h =
        let one = r 0 (omega arith) in
        let ih = cand_renewed p cs cs' xs (omega arith) (λ k u. r (suc k) (omega arith)) h.3 in
        let same = same_row rows c.row one.gap.0 h.0.0 one.gap.1 h.0.1 in
        let element : one.gap.0.element ≡ x.element = ap (λ z. z.element) same ∙ ap (λ z. z.element) h.0.2 in
        let gap' : c'.gap ≡ reach dist rows (ps ++ (p ∷ [])) x = one.gap.2 ∙ (λ i. min (h.2 i) (dist p.element (element i))) ∙ sym (reach_more p ps x top) in
        (((h.0.0, ap (slice_get rows) one.row ∙ h.0.1, h.0.2), one.number ∙ h.1, gap', ih.0), (λ i. one.row i ∷ ih.1 i))

    -- what taking the next pivot leaves
    pub takes_next : (j : ℕ) (cs rest cs₂ : List Candidate) (p : Candidate) (e : E) (xs : List (Sample E)) (d : Sample E)
        → first_place farther_one cs ≡ j → j < length cs → p ≡ get_or cs j p → rest ≡ removed j cs → HasRow rows p.row (λ r. e ≡ r.element)
        → length cs₂ ≡ length rest → ((k : ℕ) → k < length rest → Renewed dist rows e (get_or rest k blank) (get_or cs₂ k blank))
        → Candidates dist rows ps cs xs → TakesNext dist rows cs cs₂ p.row ps xs d
    takes_next j cs rest cs₂ p e xs d first below is taken read long renews h =
        let place : j ≡ first_place (farther dist ps) xs = sym first ∙ same_first cs xs h in
        let at_j : get_or cs j blank ≡ p = get_or_default cs j blank p below ∙ sym is in
        let x = get_or xs (first_place (farther dist ps) xs) d in
        let here : HasRow rows p.row (λ r. sample_in r ≡ x) =
        subst (λ z. HasRow rows p.row (λ r. sample_in r ≡ get_or xs z d)) place
        (subst (λ z. HasRow rows z.row (λ r. sample_in r ≡ get_or xs j d)) at_j (cand_at cs xs j d below h)) in
        let same = same_row rows p.row read.0 here.0 read.1 here.1 in
        let element : e ≡ x.element = read.2 ∙ ap (λ z. z.element) same ∙ ap (λ z. z.element) here.2 in
        let before : Candidates dist rows ps rest (removed (first_place (farther dist ps) xs) xs) =
        subst (λ z. Candidates dist rows ps z (removed (first_place (farther dist ps) xs) xs)) (sym taken) (subst (λ z. Candidates dist rows ps (removed j cs) (removed z xs)) place (cand_removed j cs xs h)) in
        let each : (k : ℕ) → k < length rest → Renewed dist rows x.element (get_or rest k blank) (get_or cs₂ k blank) =
        λ k u. subst (λ z. Renewed dist rows z (get_or rest k blank) (get_or cs₂ k blank)) element (renews k u) in
        let more = cand_renewed x rest cs₂ (removed (first_place (farther dist ps) xs) xs) (sym long) each before in
        let shuffled = shuffle_map (λ c. c.row) (get_or cs j blank ∷ removed j cs) cs (removed_shuffle blank cs j below) in
        record {
          pivot = here;
          others = more.0;
          same_rows = subst (λ z. Shuffle ℕ (p.row ∷ z) (rows_of cs)) (sym (more.1 ∙ ap rows_of taken)) (subst (λ z. Shuffle ℕ (z.row ∷ rows_of (removed j cs)) (rows_of cs)) at_j shuffled);
        }

  chosen_step : (n : ℕ) (ps xs : List (Sample E)) (d : Sample E) → 1 ≤ length xs → chosen dist (suc n) ps xs ≡ chosen dist n (ps ++ (get_or xs (first_place (farther dist ps) xs) d ∷ [])) (removed (first_place (farther dist ps) xs) xs)
  chosen_step n ps [] d l = absurd (omega arith)
  chosen_step n ps (x ∷ xs) d l =
      let j = first_place (farther dist ps) (x ∷ xs) in
      ap (λ z. chosen dist n (ps ++ (z ∷ [])) (removed j (x ∷ xs))) (get_or_default (x ∷ xs) j x d (first_below (farther dist ps) (x ∷ xs) (omega arith)))

  pub chosen_none : (degree : ℕ) (cs : List Candidate) (is : List ℕ) (xs : List (Sample E)) → Candidates dist rows [] cs xs → Chosen dist rows degree 0 cs cs is xs
  chosen_none degree cs is xs h =
      let all : degree - 0 ≡ degree = omega arith in
      record { pivots = []; rest = xs; holds = tt; others = h; same_choice = ap (λ z. chosen dist z [] xs) all; same_rows = same_order (rows_of cs) }

  -- one more pivot chosen
  pub chosen_more : (degree c : ℕ) (cs cs₁ cs₂ : List Candidate) (is : List ℕ) (i : ℕ) (xs : List (Sample E)) → c < degree → 1 ≤ length cs₁
      → Chosen dist rows degree c cs cs₁ is xs → TakesItsNext dist rows cs₁ cs₂ i
      → (is' : List ℕ) → take (c + 1) is' ≡ take c is ++ (i ∷ []) → Chosen dist rows degree (c + 1) cs cs₂ is' xs
  chosen_more degree c cs cs₁ cs₂ is i xs u some h next is' e = go h.rest h.others h.same_choice
    where
      go : (rest : List (Sample E)) → Candidates dist rows h.pivots cs₁ rest → chosen dist (degree - c) h.pivots rest ≡ chosen dist degree [] xs → Chosen dist rows degree (c + 1) cs cs₂ is' xs
      go [] others same = absurd (omega (arith, cand_length h.pivots cs₁ [] others))
      go (x ∷ rest) others same =
          let t = next h.pivots (x ∷ rest) x others in
          let p = get_or (x ∷ rest) (first_place (farther dist h.pivots) (x ∷ rest)) x in
          let left = removed (first_place (farther dist h.pivots) (x ∷ rest)) (x ∷ rest) in
          let down : degree - c ≡ suc (degree - (c + 1)) = omega arith in
          let tail = rows_of cs₂ in
          record {
            pivots = h.pivots ++ (p ∷ []);
            rest = left;
            holds = subst (λ z. HoldsSamples rows z (h.pivots ++ (p ∷ []))) (sym e) (holds_append rows (take c is) (i ∷ []) h.pivots (p ∷ []) h.holds (t.pivot.0, t.pivot.1, t.pivot.2, tt));
            others = t.others;
            same_choice = sym (chosen_step (degree - (c + 1)) h.pivots (x ∷ rest) x (omega arith)) ∙ ap (λ z. chosen dist z h.pivots (x ∷ rest)) (sym down) ∙ same;
            same_rows =
                in_turn (take (c + 1) is' ++ tail) (take c is ++ rows_of cs₁) (rows_of cs)
                (subst (λ z. Shuffle ℕ (z ++ tail) (take c is ++ rows_of cs₁)) (sym e)
                (subst (λ z. Shuffle ℕ z (take c is ++ rows_of cs₁)) (sym (append_assoc (take c is) (i ∷ []) tail))
                (shuffle_behind (take c is) (i ∷ tail) (rows_of cs₁) t.same_rows)))
                h.same_rows;
          }

  -- what stands behind the pivots chosen does not matter
  pub chosen_before : (degree c : ℕ) (cs cs₁ : List Candidate) (is more : List ℕ) (xs : List (Sample E)) → length is ≡ c → Chosen dist rows degree c cs cs₁ is xs → Chosen dist rows degree c cs cs₁ (is ++ more) xs
  chosen_before degree c cs cs₁ is more xs e h =
      let same : take c (is ++ more) ≡ take c is = take-append-le c is more (omega arith) in
      record {
        pivots = h.pivots;
        rest = h.rest;
        holds = subst (λ z. HoldsSamples rows z h.pivots) (sym same) h.holds;
        others = h.others;
        same_choice = h.same_choice;
        same_rows = subst (λ z. Shuffle ℕ (z ++ rows_of cs₁) (rows_of cs)) (sym same) h.same_rows;
      }

  -- rows put down as candidates, before any pivot is chosen
  pub candidates_are : (is : List ℕ) (cs : List Candidate) (xs : List (Sample E)) → length cs ≡ length is → ((k : ℕ) → k < length is → CandidateOf rows (get_or is k 0) (get_or cs k blank)) → HoldsSamples rows is xs → Candidates dist rows [] cs xs × (rows_of cs ≡ is)
  candidates_are [] [] [] l f h = (tt, refl)
  candidates_are [] [] (x ∷ xs) l f h = absurd h
  candidates_are [] (c ∷ cs) xs l f h = absurd (omega arith)
  candidates_are (i ∷ is) [] xs l f h = absurd (omega arith)
  candidates_are (i ∷ is) (c ∷ cs) [] l f h = absurd h
  candidates_are (i ∷ is) (c ∷ cs) (x ∷ xs) l f h =
      let one = f 0 (omega arith) in
      let ih = candidates_are is cs xs (omega arith) (λ k u. f (suc k) (omega arith)) h.3 in
      let same = same_row rows i one.number.0 h.0 one.number.1 h.1 in
      (((h.0, ap (slice_get rows) one.row ∙ h.1, h.2), one.number.2 ∙ ap (λ z. z.number) same ∙ ap (λ z. z.number) h.2, one.gap, ih.0), (λ k. one.row k ∷ ih.1 k))

  pub put_down : (is : List ℕ) (cs : List Candidate) → PutDown rows is cs → (xs : List (Sample E)) → HoldsSamples rows is xs → Candidates dist rows [] cs xs × (rows_of cs ≡ is)
  put_down is cs p xs h = candidates_are is cs xs p.long p.each h
