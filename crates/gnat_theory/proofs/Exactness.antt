-- The search keeps exactly what is wanted of the hits of all standing samples. Assumes the laws of the distance.
use Rattle.std.proofs.Common.{◌≡◌, ℕ, suc, ◌<◌, Bool, true, false, cond, List, [], ◌∷◌, ◌++◌, take, Some, None, Option, sym, refl, ap, ◌∙◌, subst}
use Rattle.std.specs.List.{AllByRecursion}
use Rattle.std.proofs.lemmas.Bool.{cond_both}
use Rattle.std.proofs.lemmas.List.{append_assoc, append-nil}
use Rattle.metric.specs.Laws.{MetricLaws}
use Rattle.hits.specs.declared.Hit.{Hit}
use Rattle.hits.specs.Order.{put, inside}
use Rattle.hits.specs.Samples.{Sample, hit_of, hits}
use Rattle.hits.proofs.Putting.{put_put}
use Rattle.gnat_theory.specs.Tree.{Tree, Parts, Pivot, Range, sample_of, pivots, if_standing, standing, members, gathered_parts}
use Rattle.gnat_theory.specs.Tree.Tree.{leaf, branch}
use Rattle.gnat_theory.specs.Tree.Parts.{none, part}
use Rattle.gnat_theory.specs.Searching.{Want, State, Sight, start, nearest_hits, hits_within, struck, measure, measure_all, measure_pivot, sight_of, look, survey, searched, searched_open}
use Rattle.gnat_theory.specs.Searching.Sight.{passed, seen}
use Rattle.gnat_theory.specs.Ranges.{ThroughoutParts, Fits, RangesFit, Ranged}
use Rattle.gnat_theory.specs.Shuffles.{Shuffle}
use Rattle.gnat_theory.specs.Shuffles.Shuffle.{in_turn}
use Rattle.hits.proofs.Ranking.{hits_sorted}
use Rattle.gnat_theory.proofs.Wanting.{Keeps, nearest_keeps, within_keeps}
use Rattle.gnat_theory.proofs.Striking.{Tells, Tell, tell_push, tell_weaker, Beyond, struck_beyond}
use Rattle.gnat_theory.proofs.Gathering.{all_if_standing, all_standing}
use Rattle.gnat_theory.proofs.Shuffling.{same_order, shuffle_behind, shuffle_front, shuffle_middle, hits_shuffle}

module _ {E : Type 0} where
  -- these samples, and before them the pivots of a branch that stand
  abbrev pub with_pivots : Parts E → List (Sample E) → List (Sample E)
  with_pivots none xs = xs
  with_pivots (part p column t rest) xs = with_pivots rest (if_standing p ++ xs)

  -- these samples, and before them those below the children of a branch
  abbrev pub with_children : Parts E → List (Sample E) → List (Sample E)
  with_children none xs = xs
  with_children (part p column t rest) xs = standing t ++ with_children rest xs

  -- pivots first and children then are all of the branch
  pub all_counted : (ps : Parts E) (xs : List (Sample E)) → Shuffle (Sample E) (with_children ps (with_pivots ps xs)) (gathered_parts if_standing ps ++ xs)
  all_counted none xs = same_order xs
  all_counted (part p column t rest) xs =
      let o = if_standing p in
      let s = standing t in
      let g = gathered_parts if_standing rest in
      let c = with_children rest (with_pivots rest (o ++ xs)) in
      in_turn (s ++ c) (s ++ (g ++ (o ++ xs))) ((o ++ (s ++ g)) ++ xs)
      (shuffle_behind s c (g ++ (o ++ xs)) (all_counted rest (o ++ xs)))
      (subst (λ z. Shuffle (Sample E) z ((o ++ (s ++ g)) ++ xs)) (append_assoc s g (o ++ xs))
      (subst (Shuffle (Sample E) ((s ++ g) ++ (o ++ xs))) (sym (append_assoc o (s ++ g) xs)) (shuffle_middle (s ++ g) o xs)))

module _ {E : Type 0} (top : ℕ) (dist : E → E → ℕ) (laws : MetricLaws top dist) (q : E) (w : Want) (result : List Hit → List Hit) (keeps : Keeps w result) where
  -- the state has kept what is wanted of these samples
  abbrev Counts : List (Sample E) → State → Type 0
  Counts xs st = st.kept ≡ result (hits dist q xs)

  -- a sample farther than R would change nothing
  abbrev Settled : List (Sample E) → ℕ → Type 0
  Settled xs R = (s : Sample E) → R < dist q s.element → result (hits dist q (s ∷ xs)) ≡ result (hits dist q xs)

  settled_more : (y : Sample E) (xs : List (Sample E)) (R : ℕ) → Settled xs R → Settled (y ∷ xs) R
  settled_more y xs R f s l =
      let a = hit_of dist q s in
      let b = hit_of dist q y in
      let hs = hits dist q xs in
      ap result (put_put a b hs)
      ∙ (sym (keeps.one_more b (put a hs) (hits_sorted dist q (s ∷ xs)))
      ∙ (ap (w.keep b) (f s l)
      ∙ keeps.one_more b hs (hits_sorted dist q xs)))

  settled_all : (ys xs : List (Sample E)) (R : ℕ) → Settled xs R → Settled (ys ++ xs) R
  settled_all [] xs R f = f
  settled_all (y ∷ ys) xs R f = settled_more y (ys ++ xs) R (settled_all ys xs R f)

  -- samples beyond a settled reach may be counted in
  count_beyond : (ys xs : List (Sample E)) → AllByRecursion (Beyond top dist laws q (Settled xs)) ys → result (hits dist q (ys ++ xs)) ≡ result (hits dist q xs)
  count_beyond [] xs a = refl
  count_beyond (y ∷ ys) xs a = settled_all ys xs a.0.0 a.0.1 y a.0.2 ∙ count_beyond ys xs a.1

  measured_all : (ys xs : List (Sample E)) (st : State) → Counts xs st → Counts (ys ++ xs) (measure_all dist q w ys st)
  measured_all [] xs st e = e
  measured_all (y ∷ ys) xs st e =
      measured_all ys (y ∷ xs) (measure dist q w y st) (ap (w.keep (hit_of dist q y)) e ∙ keeps.one_more (hit_of dist q y) (hits dist q xs) (hits_sorted dist q xs))
      ∙ ap result (hits_shuffle dist q (ys ++ (y ∷ xs)) (y ∷ (ys ++ xs)) (shuffle_front ys y xs))

  measured_pivot : (p : Pivot E) (xs : List (Sample E)) (st : State) → Counts xs st → Counts (if_standing p ++ xs) (measure_pivot dist q w p st)
  measured_pivot p xs st e = go p.marked
    where
      go : (t : Bool) → Counts (cond t [] (sample_of p ∷ []) ++ xs) (cond t (record { kept = st.kept; measured = suc st.measured }) (measure dist q w (sample_of p) st))
      go true = e
      go false = ap (w.keep (hit_of dist q (sample_of p))) e ∙ keeps.one_more (hit_of dist q (sample_of p)) (hits dist q xs) (hits_sorted dist q xs)

  sight_tells : (p : Pivot E) (xs : List (Sample E)) (st : State) → Counts xs st → Tells top dist laws q (Settled xs) (sample_of p) (sight_of dist q w p st)
  sight_tells p xs st e = go (w.reach st.kept) (ap w.reach (sym e))
    where
      go : (o : Option ℕ) → w.reach (result (hits dist q xs)) ≡ o → Tells top dist laws q (Settled xs) (sample_of p) (seen (dist q p.element) o)
      go None f = tt
      go (Some R) f = (refl, λ s l. keeps.beyond (hits dist q xs) R (hits_sorted dist q xs) f (hit_of dist q s) l)

  -- the sights tell settled reaches
  abbrev Sighted : List (Sample E) → List Sight → List (Sample E) → Type 0
  Sighted ps ss xs = Tell top dist laws q (Settled xs) ps ss

  sighted_all : (ps : List (Sample E)) (ss : List Sight) (ys xs : List (Sample E)) → Sighted ps ss xs → Sighted ps ss (ys ++ xs)
  sighted_all ps ss ys xs t = tell_weaker top dist laws q (Settled xs) (Settled (ys ++ xs)) (λ R f. settled_all ys xs R f) ps ss t

  sighted_children : (ps : List (Sample E)) (ss : List Sight) (cs : Parts E) (xs : List (Sample E)) → Sighted ps ss xs → Sighted ps ss (with_children cs xs)
  sighted_children ps ss none xs t = t
  sighted_children ps ss (part p column c rest) xs t = sighted_all ps ss (standing c) (with_children rest xs) (sighted_children ps ss rest xs t)

  -- one pivot: it is counted, and its sight tells
  looked : (p : Pivot E) (column : List Range) (c : Tree E) (done more : List (Sample E)) (ss : List Sight) (st : State) (xs : List (Sample E)) → Fits dist (done ++ more) column (sample_of p ∷ members c) → Sighted done ss xs → Counts xs st → Counts (if_standing p ++ xs) (look dist q w p column ss st).1 × Tells top dist laws q (Settled (if_standing p ++ xs)) (sample_of p) (look dist q w p column ss st).0
  looked p column c done more ss st xs f t e =
      cond_both {A = Sight × State} (struck ss column) (passed, st) (sight_of dist q w p (measure_pivot dist q w p st), measure_pivot dist q w p st)
      (λ r. Counts (if_standing p ++ xs) r.1 × Tells top dist laws q (Settled (if_standing p ++ xs)) (sample_of p) r.0)
      (λ h. (e ∙ sym (count_beyond (if_standing p) xs (all_if_standing (Beyond top dist laws q (Settled xs)) p (struck_beyond top dist laws q (Settled xs) done more ss column (sample_of p ∷ members c) t f h).0)), tt))
      (λ h. (measured_pivot p xs st e, sight_tells p (if_standing p ++ xs) (measure_pivot dist q w p st) (measured_pivot p xs st e)))

  -- all pivots of a branch
  surveyed : (ps : Parts E) (j : ℕ) (done all : List (Sample E)) (ss : List Sight) (st : State) (xs : List (Sample E)) → done ++ pivots ps ≡ all → ThroughoutParts (RangesFit dist) all j ps → Sighted done ss xs → Counts xs st → Counts (with_pivots ps xs) (survey dist q w ps ss st).1 × Sighted all (survey dist q w ps ss st).0 (with_pivots ps xs)
  surveyed none j done all ss st xs i r t e = (e, subst (λ z. Sighted z ss xs) (sym (append-nil done) ∙ i) t)
  surveyed (part p column c rest) j done all ss st xs i r t e =
      let l = looked p column c done (sample_of p ∷ pivots rest) ss st xs (subst (λ z. Fits dist z column (sample_of p ∷ members c)) (sym i) r.0) t e in
      surveyed rest (suc j) (done ++ (sample_of p ∷ [])) all (ss ++ ((look dist q w p column ss st).0 ∷ [])) (look dist q w p column ss st).1 (if_standing p ++ xs)
      (append_assoc done (sample_of p ∷ []) (pivots rest) ∙ i) r.2
      (tell_push top dist laws q (Settled (if_standing p ++ xs)) done ss (sample_of p) (look dist q w p column ss st).0 (sighted_all done ss (if_standing p) xs t) l.1) l.0

  mutual
    pub search_counts : (t : Tree E) (st : State) (xs : List (Sample E)) → Ranged dist t → Counts xs st → Counts (standing t ++ xs) (searched dist q w t st)
    search_counts (leaf ys) st xs r e = measured_all ys xs st e
    search_counts (branch ps) st xs r e =
        let s = surveyed ps 0 [] (pivots ps) [] st xs refl r tt e in
        open_counts ps 0 (pivots ps) (survey dist q w ps [] st).0 (survey dist q w ps [] st).1 (with_pivots ps xs) r s.1 s.0
        ∙ ap result (hits_shuffle dist q (with_children ps (with_pivots ps xs)) (gathered_parts if_standing ps ++ xs) (all_counted ps xs))

    open_counts : (ps : Parts E) (j : ℕ) (all : List (Sample E)) (ss : List Sight) (st : State) (xs : List (Sample E)) → ThroughoutParts (RangesFit dist) all j ps → Sighted all ss xs → Counts xs st → Counts (with_children ps xs) (searched_open dist q w ps ss st)
    open_counts none j all ss st xs r t e = e
    open_counts (part p column c rest) j all ss st xs r t e =
        let before = with_children rest xs in
        let after = searched_open dist q w rest ss st in
        let ih = open_counts rest (suc j) all ss st xs r.2 t e in
        cond_both (struck ss column) after (searched dist q w c after) (Counts (standing c ++ before))
        (λ h. ih ∙ sym (count_beyond (standing c) before (all_standing (Beyond top dist laws q (Settled before)) c
        (struck_beyond top dist laws q (Settled before) all [] ss column (sample_of p ∷ members c) (sighted_children all ss rest xs t) (subst (λ z. Fits dist z column (sample_of p ∷ members c)) (sym (append-nil all)) r.0) h).1)))
        (λ h. search_counts c after before r.1 ih)

  -- from the start
  pub search_keeps : (t : Tree E) → Ranged dist t → (searched dist q w t start).kept ≡ result (hits dist q (standing t))
  search_keeps t r = search_counts t start [] r (sym keeps.none) ∙ ap (λ z. result (hits dist q z)) (append-nil (standing t))

module _ {E : Type 0} (top : ℕ) (dist : E → E → ℕ) (laws : MetricLaws top dist) (q : E) (t : Tree E) (ranged : Ranged dist t) where
  pub nearest_exact : (k : ℕ) → (searched dist q (nearest_hits k) t start).kept ≡ take k (hits dist q (standing t))
  nearest_exact k = search_keeps top dist laws q (nearest_hits k) (take k) (nearest_keeps k) t ranged

  pub within_exact : (r : ℕ) → (searched dist q (hits_within r) t start).kept ≡ inside r (hits dist q (standing t))
  within_exact r = search_keeps top dist laws q (hits_within r) (inside r) (within_keeps r) t ranged
