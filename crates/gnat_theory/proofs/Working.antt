-- What a search measures: each sample and pivot at most once. Assumes nothing.
use Rattle.std.proofs.Common.{◌≡◌, ℕ, suc, ◌+◌, ◌≤◌, Bool, true, false, cond, List, [], ◌∷◌, ◌++◌, length, refl, arith, length-append}
use Rattle.std.proofs.lemmas.Bool.{cond_both}
use Rattle.hits.specs.Samples.{Sample}
use Rattle.gnat_theory.specs.Tree.{Tree, Parts, Pivot, Range, sample_of, pivots, gathered_parts, always, members}
use Rattle.gnat_theory.specs.Tree.Tree.{leaf, branch}
use Rattle.gnat_theory.specs.Tree.Parts.{none, part}
use Rattle.gnat_theory.specs.Searching.{Want, State, Sight, struck, measure, measure_all, measure_pivot, sight_of, look, survey, searched, searched_open}
use Rattle.gnat_theory.specs.Searching.Sight.{passed}

module _ {E : Type 0} (dist : E → E → ℕ) (q : E) (w : Want) where
  pub leaf_work : (xs : List (Sample E)) (st : State) → (measure_all dist q w xs st).measured ≡ length xs + st.measured
  leaf_work [] st = omega arith
  leaf_work (x ∷ xs) st = omega (arith, leaf_work xs (measure dist q w x st))

  pivot_work : (p : Pivot E) (st : State) → (measure_pivot dist q w p st).measured ≡ suc st.measured
  pivot_work p st = go p.marked
    where
      go : (t : Bool) → (cond t (record { kept = st.kept; measured = suc st.measured }) (measure dist q w (sample_of p) st)).measured ≡ suc st.measured
      go true = refl
      go false = refl

  look_work : (p : Pivot E) (column : List Range) (ss : List Sight) (st : State) → (look dist q w p column ss st).1.measured ≤ suc st.measured
  look_work p column ss st =
      cond_both {A = Sight × State} (struck ss column) (passed, st) (sight_of dist q w p (measure_pivot dist q w p st), measure_pivot dist q w p st) (λ r. r.1.measured ≤ suc st.measured)
      (λ e. omega arith) (λ e. omega (arith, pivot_work p st))

  survey_work : (ps : Parts E) (ss : List Sight) (st : State) → (survey dist q w ps ss st).1.measured ≤ length (pivots ps) + st.measured
  survey_work none ss st = omega arith
  survey_work (part p column t rest) ss st =
      omega (arith, look_work p column ss st, survey_work rest (ss ++ ((look dist q w p column ss st).0 ∷ [])) (look dist q w p column ss st).1)

  -- how many there are below the children of a branch
  abbrev below : Parts E → ℕ
  below none = 0
  below (part p column t rest) = length (members t) + below rest

  parts_size : (ps : Parts E) → length (gathered_parts always ps) ≡ length (pivots ps) + below ps
  parts_size none = omega arith
  parts_size (part p column t rest) = omega (arith, length-append (members t) (gathered_parts always rest), parts_size rest)

  mutual
    pub search_work : (t : Tree E) (st : State) → (searched dist q w t st).measured ≤ length (members t) + st.measured
    search_work (leaf xs) st = omega (arith, leaf_work xs st)
    search_work (branch ps) st =
        omega (arith, parts_size ps, survey_work ps [] st, open_work ps (survey dist q w ps [] st).0 (survey dist q w ps [] st).1)

    open_work : (ps : Parts E) (ss : List Sight) (st : State) → (searched_open dist q w ps ss st).measured ≤ below ps + st.measured
    open_work none ss st = omega arith
    open_work (part p column t rest) ss st =
        let after = searched_open dist q w rest ss st in
        let ih : after.measured ≤ below rest + st.measured = open_work rest ss st in
        let here : (searched dist q w t after).measured ≤ length (members t) + after.measured = search_work t after in
        cond_both (struck ss column) after (searched dist q w t after) (λ z. z.measured ≤ below (part p column t rest) + st.measured)
        (λ e. omega arith) (λ e. omega arith)
