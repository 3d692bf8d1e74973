-- The pivots of a branch, one by one. Assumes nothing.
use Rattle.std.proofs.Common.{◌≡◌, ℕ, zero, suc, ◌+◌, ◌<◌, ◌≤◌, Bool, true, false, cond, List, [], ◌∷◌, ◌++◌, length, get_or, Some, Option, sym, refl, ap, ◌∙◌, subst, arith}
use Rattle.std.specs.List.{slice_get}
use Rattle.std.proofs.lemmas.List.{length_push}
use Rattle.hits.specs.declared.Hit.{Hit}
use Rattle.gnat_theory.specs.Tree.{Parts, pivots}
use Rattle.gnat_theory.specs.Tree.Parts.{none, part}
use Rattle.gnat_theory.specs.Searching.{Want, State, Sight, struck, measure_pivot, sight_of, look, survey}
use Rattle.gnat_theory.specs.Searching.Sight.{passed, seen}
use Rattle.gnat_rows.specs.declared.Branch.{Branch}
use Rattle.gnat_rows.specs.declared.Row.{Row}
use Rattle.gnat_rows.specs.Shows.{ShowsParts, pivot_in}
use Rattle.gnat_search.specs.declared.found.Found.{Found}
use Rattle.gnat_search.specs.Wants.{Kept}
use Rattle.gnat_search.specs.Nodes.{StruckMore, Flags}
use Rattle.gnat_rows.proofs.Changes.{same_row}
use Rattle.gnat_search.proofs.Flagging.{quiet_flags}

-- After i pivots: the parts that are left, what is known of the pivots before, and the state; the survey of what is left
-- gives the survey of all.
pub record Left {E : Type 0} (rows : List (Row E)) (dist : E → E → ℕ) (q : E) (w : Want) (b : Branch) (ps : Parts E) (st : State) (old : List Hit) (i : ℕ) (flags : List Bool) (list : List Hit) (p : Found) : Type 0 where
  pub rest : Parts E
  pub fs : List ℕ
  pub ss : List Sight
  pub after : State
  pub shows : ShowsParts rows b i rest fs
  pub count : i + length (pivots rest) ≡ b.count
  pub sights : length ss ≡ i
  pub gives : survey dist q w rest ss after ≡ survey dist q w ps [] st
  pub flagged : Flags b flags ss
  pub keeps : Kept old list p after

module _ {E : Type 0} (rows : List (Row E)) (dist : E → E → ℕ) (q : E) (w : Want) (b : Branch) (ps : Parts E) (st : State) (old : List Hit) where
  pub none_surveyed : (fs : List ℕ) (flags : List Bool) (list : List Hit) (p : Found) → b.count ≡ length (pivots ps) → ShowsParts rows b 0 ps fs → ((j : ℕ) → get_or flags j false ≡ false) → Kept old list p st → Left rows dist q w b ps st old 0 flags list p
  none_surveyed fs flags list p n s f k = record { rest = ps; fs = fs; ss = []; after = st; shows = s; count = omega arith; sights = refl; gives = refl; flagged = λ j l. f j; keeps = k }

  module _ (i : ℕ) (flags : List Bool) (list : List Hit) (p : Found) (l : i < b.count) where
    pub struck_surveyed : get_or flags i false ≡ true → Left rows dist q w b ps st old i flags list p → Left rows dist q w b ps st old (i + 1) flags list p
    struck_surveyed e x = go x.rest x.shows x.count x.gives
      where
        go : (rest : Parts E) → ShowsParts rows b i rest x.fs → i + length (pivots rest) ≡ b.count → survey dist q w rest x.ss x.after ≡ survey dist q w ps [] st → Left rows dist q w b ps st old (i + 1) flags list p
        go none s n g = absurd (omega arith)
        go (part v col t rest) s n g =
            let gone : struck x.ss col ≡ true = ap (struck x.ss) (sym s.5) ∙ (sym (x.flagged i l) ∙ e) in
            let same : look dist q w v col x.ss x.after ≡ (passed, x.after) = ap (λ t. cond {A = Sight × State} t (passed, x.after) (sight_of dist q w v (measure_pivot dist q w v x.after), measure_pivot dist q w v x.after)) gone in
            record {
              rest = rest;
              fs = s.2;
              ss = x.ss ++ (passed ∷ []);
              after = x.after;
              shows = subst (λ n. ShowsParts rows b n rest s.2) (omega arith) s.7;
              count = omega arith;
              sights = length_push x.ss passed ∙ omega (arith, x.sights);
              gives = sym (ap (λ r. survey dist q w rest (x.ss ++ (r.0 ∷ [])) r.1) same) ∙ g;
              flagged = quiet_flags b flags x.ss passed (λ r. refl) x.flagged;
              keeps = x.keeps;
            }

    -- the pivot i is in this row, at the distance d; it was counted in, and strikes as far as R
    pub seen_surveyed : (row : Row E) (d : ℕ) (R : Option ℕ) (more : List Bool) (new : List Hit) (r : Found) → get_or flags i false ≡ false
        → slice_get rows (get_or b.pivots i 0) ≡ Some row → d ≡ dist q row.element
        → ((st : State) → Kept old list p st → Kept old new r (measure_pivot dist q w (pivot_in row) st))
        → ((st : State) → Kept old new r st → R ≡ w.reach st.kept)
        → StruckMore b i (seen d R) flags more
        → Left rows dist q w b ps st old i flags list p → Left rows dist q w b ps st old (i + 1) more new r
    seen_surveyed row d R more new r e at far counted reaches strike x = go x.rest x.shows x.count x.gives
      where
        go : (rest : Parts E) → ShowsParts rows b i rest x.fs → i + length (pivots rest) ≡ b.count → survey dist q w rest x.ss x.after ≡ survey dist q w ps [] st → Left rows dist q w b ps st old (i + 1) more new r
        go none s n g = absurd (omega arith)
        go (part v col t rest) s n g =
            let there : struck x.ss col ≡ false = ap (struck x.ss) (sym s.5) ∙ (sym (x.flagged i l) ∙ e) in
            let pivot : pivot_in row ≡ v = ap pivot_in (same_row rows (get_or b.pivots i 0) row s.0 at s.3) ∙ s.4 in
            let next : State = measure_pivot dist q w v x.after in
            let kept : Kept old new r next = subst (λ z. Kept old new r (measure_pivot dist q w z x.after)) pivot (counted x.after x.keeps) in
            let sight : ◌≡◌ {A = Sight} (seen d R) (sight_of dist q w v next) = ap (λ z. seen z R) (far ∙ ap (λ z. dist q z.element) pivot) ∙ ap (seen (dist q v.element)) (reaches next kept) in
            let same : look dist q w v col x.ss x.after ≡ (seen d R, next) =
            ap (λ t. cond {A = Sight × State} t (passed, x.after) (sight_of dist q w v next, next)) there ∙ ap (λ z. (z, next)) (sym sight) in
            record {
              rest = rest;
              fs = s.2;
              ss = x.ss ++ (seen d R ∷ []);
              after = next;
              shows = subst (λ n. ShowsParts rows b n rest s.2) (omega arith) s.7;
              count = omega arith;
              sights = length_push x.ss (seen d R) ∙ omega (arith, x.sights);
              gives = sym (ap (λ r. survey dist q w rest (x.ss ++ (r.0 ∷ [])) r.1) same) ∙ g;
              flagged = strike x.ss x.sights x.flagged;
              keeps = kept;
            }

  -- the same under other names
  pub surveyed_as : (i : ℕ) (flags more : List Bool) (list new : List Hit) (p r : Found) → more ≡ flags → new ≡ list → r ≡ p → Left rows dist q w b ps st old i flags list p → Left rows dist q w b ps st old i more new r
  surveyed_as i flags more list new p r f l e x = record {
    rest = x.rest;
    fs = x.fs;
    ss = x.ss;
    after = x.after;
    shows = x.shows;
    count = x.count;
    sights = x.sights;
    gives = x.gives;
    flagged = λ j k. ap (λ z. get_or z j false) f ∙ x.flagged j k;
    keeps = subst (λ z. Kept old z r x.after) (sym l) (subst (λ z. Kept old list z x.after) (sym e) x.keeps);
  }

  pub all_surveyed : (i : ℕ) (flags : List Bool) (list : List Hit) (p : Found) → b.count ≤ i → Left rows dist q w b ps st old i flags list p
      → Kept old list p (survey dist q w ps [] st).1 × Flags b flags (survey dist q w ps [] st).0
  all_surveyed i flags list p l x = go x.rest x.count x.gives
    where
      go : (rest : Parts E) → i + length (pivots rest) ≡ b.count → survey dist q w rest x.ss x.after ≡ survey dist q w ps [] st → Kept old list p (survey dist q w ps [] st).1 × Flags b flags (survey dist q w ps [] st).0
      go none n g = (subst (λ z. Kept old list p z.1) g x.keeps, subst (λ z. Flags b flags z.0) g x.flagged)
      go (part v col t rest) n g = absurd (omega arith)

module _ {E : Type 0} (rows : List (Row E)) (b : Branch) where
  -- the pivot of the place i is in a row
  pub pivot_at : (ps : Parts E) (j i : ℕ) (fs : List ℕ) → ShowsParts rows b j ps fs → i < length (pivots ps) → (r : Row E) × (slice_get rows (get_or b.pivots (j + i) 0) ≡ Some r)
  pivot_at none j i fs s l = absurd (omega arith)
  pivot_at (part v col t rest) j zero fs s l = (s.0, ap (λ n. slice_get rows (get_or b.pivots n 0)) (omega arith) ∙ s.3)
  pivot_at (part v col t rest) j (suc i) fs s l =
      let at = pivot_at rest (suc j) i s.2 s.7 (omega arith) in
      (at.0, ap (λ n. slice_get rows (get_or b.pivots n 0)) (omega arith) ∙ at.1)
