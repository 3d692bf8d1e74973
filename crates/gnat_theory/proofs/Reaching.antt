-- A struck child is out of the reach that the search had. Assumes the laws of the distance.
use Rattle.std.proofs.Common.{◌≡◌, ℕ, suc, List, [], ◌∷◌, ◌++◌, Some, None, Option, sym, refl, ◌∙◌, subst, inl, inr}
use Rattle.std.proofs.lemmas.Bool.{cond_both}
use Rattle.std.proofs.lemmas.List.{append_assoc, append-nil}
use Rattle.std.proofs.ByRecursion.{All-weaker}
use Rattle.metric.specs.Laws.{MetricLaws}
use Rattle.hits.specs.Samples.{Sample, Among}
use Rattle.gnat_theory.specs.Tree.{Parts, Pivot, Range, sample_of, pivots, members}
use Rattle.gnat_theory.specs.Tree.Parts.{none, part}
use Rattle.gnat_theory.specs.Searching.{Want, State, Sight, struck, measure_pivot, sight_of, look, survey}
use Rattle.gnat_theory.specs.Searching.Sight.{passed, seen}
use Rattle.gnat_theory.specs.Ranges.{ThroughoutParts, Fits, RangesFit}
use Rattle.gnat_theory.specs.Finding.{BeyondOneOf, StruckBeyond, StruckOutOfReach}
use Rattle.gnat_theory.proofs.Striking.{Tells, Tell, tell_push, tell_weaker, Beyond, struck_beyond}

-- some pivot had this reach
abbrev Reached : List Sight → ℕ → Type 0
Reached ss R = (d : ℕ) × Among (seen d (Some R)) ss

module _ {E : Type 0} (top : ℕ) (dist : E → E → ℕ) (laws : MetricLaws top dist) (q : E) where
  -- the distances alone
  abbrev Any : ℕ → Type 0
  Any R = Unit {0}

  tells_reached : (p : Sample E) (s : Sight) (ss : List Sight) → Tells top dist laws q Any p s → Tells top dist laws q (Reached (s ∷ ss)) p s
  tells_reached p passed ss t = tt
  tells_reached p (seen d None) ss t = tt
  tells_reached p (seen d (Some R)) ss t = (t.0, (d, inl refl))

  tell_reached : (ps : List (Sample E)) (ss : List Sight) → Tell top dist laws q Any ps ss → Tell top dist laws q (Reached ss) ps ss
  tell_reached [] [] t = tt
  tell_reached [] (s ∷ ss) t = absurd t
  tell_reached (p ∷ ps) [] t = absurd t
  tell_reached (p ∷ ps) (s ∷ ss) t =
      (tells_reached p s ss t.0, tell_weaker top dist laws q (Reached ss) (Reached (s ∷ ss)) (λ R h. (h.0, inr h.1)) ps ss (tell_reached ps ss t.1))

  module _ (w : Want) where
    look_tells : (p : Pivot E) (column : List Range) (ss : List Sight) (st : State) → Tells top dist laws q Any (sample_of p) (look dist q w p column ss st).0
    look_tells p column ss st =
        cond_both {A = Sight × State} (struck ss column) (passed, st) (sight_of dist q w p (measure_pivot dist q w p st), measure_pivot dist q w p st)
        (λ r. Tells top dist laws q Any (sample_of p) r.0) (λ e. tt) (λ e. go (w.reach (measure_pivot dist q w p st).kept))
      where
        go : (o : Option ℕ) → Tells top dist laws q Any (sample_of p) (seen (dist q p.element) o)
        go None = tt
        go (Some R) = (refl, tt)

    survey_tells : (ps : Parts E) (done all : List (Sample E)) (ss : List Sight) (st : State) → done ++ pivots ps ≡ all → Tell top dist laws q Any done ss → Tell top dist laws q Any all (survey dist q w ps ss st).0
    survey_tells none done all ss st i t = subst (λ z. Tell top dist laws q Any z ss) (sym (append-nil done) ∙ i) t
    survey_tells (part p column c rest) done all ss st i t =
        survey_tells rest (done ++ (sample_of p ∷ [])) all (ss ++ ((look dist q w p column ss st).0 ∷ [])) (look dist q w p column ss st).1
        (append_assoc done (sample_of p ∷ []) (pivots rest) ∙ i) (tell_push top dist laws q Any done ss (sample_of p) (look dist q w p column ss st).0 t (look_tells p column ss st))

  parts_beyond : (ps : Parts E) (j : ℕ) (all : List (Sample E)) (ss : List Sight) → ThroughoutParts (RangesFit dist) all j ps → Tell top dist laws q (Reached ss) all ss → StruckBeyond dist q ss ps
  parts_beyond none j all ss r t = tt
  parts_beyond (part p column c rest) j all ss r t = (
    (λ e. All-weaker (Beyond top dist laws q (Reached ss)) (BeyondOneOf dist q ss) (λ s b. (b.1.0, b.0, b.1.1, b.2)) (sample_of p ∷ members c)
        (struck_beyond top dist laws q (Reached ss) all [] ss column (sample_of p ∷ members c) t (subst (λ z. Fits dist z column (sample_of p ∷ members c)) (sym (append-nil all)) r.0) e)),
    parts_beyond rest (suc j) all ss r.2 t,
  )

pub struck_out_of_reach : {E : Type 0} (top : ℕ) (dist : E → E → ℕ) → MetricLaws top dist → StruckOutOfReach dist
struck_out_of_reach top dist laws q w ps st r =
    let ss = (survey dist q w ps [] st).0 in
    parts_beyond top dist laws q ps 0 (pivots ps) ss r (tell_reached top dist laws q (pivots ps) ss (survey_tells top dist laws q w ps [] (pivots ps) [] st refl tt))
