-- The search turn by turn, over a list of pending trees. Assumes nothing.
use Rattle.std.proofs.Common.{◌≡◌, ℕ, ◌+◌, ◌<◌, ◌≤◌, Bool, true, false, cond, List, [], ◌∷◌, ◌++◌, length, sym, refl, ap, ◌∙◌, arith}
use Rattle.std.proofs.lemmas.Bool.{cond_both}
use Rattle.gnat_theory.specs.Tree.{Tree, Parts}
use Rattle.gnat_theory.specs.Tree.Tree.{leaf, branch}
use Rattle.gnat_theory.specs.Tree.Parts.{none, part}
use Rattle.gnat_theory.specs.Searching.{Want, State, Sight, struck, survey, searched, searched_open}
use Rattle.gnat_theory.specs.Pending.{unstruck, turn, searched_all}
use Rattle.gnat_theory.specs.Shapes.{pivot_count, part_count, weight}

module _ {E : Type 0} where
  pub weight_append : (ts us : List (Tree E)) → weight (ts ++ us) ≡ weight ts + weight us
  weight_append [] us = omega arith
  weight_append (t ∷ ts) us = omega (arith, weight_append ts us)

  -- as many places as the weight are enough
  pub length_weight : (ts : List (Tree E)) → length ts ≤ weight ts
  length_weight [] = omega arith
  length_weight (t ∷ ts) = omega (arith, length_weight ts)

  unstruck_weight : (ps : Parts E) (ss : List Sight) → weight (unstruck ps ss) ≤ part_count ps
  unstruck_weight none ss = omega arith
  unstruck_weight (part p column t rest) ss =
      let ih : weight (unstruck rest ss) ≤ part_count rest = unstruck_weight rest ss in
      cond_both (struck ss column) (unstruck rest ss) (t ∷ unstruck rest ss) (λ z. weight z ≤ part_count (part p column t rest)) (λ e. omega arith) (λ e. omega arith)

module _ {E : Type 0} (dist : E → E → ℕ) (q : E) (w : Want) where
  searched_append : (ts us : List (Tree E)) (st : State) → searched_all dist q w (ts ++ us) st ≡ searched_all dist q w ts (searched_all dist q w us st)
  searched_append [] us st = refl
  searched_append (t ∷ ts) us st = ap (searched dist q w t) (searched_append ts us st)

  open_all : (ps : Parts E) (ss : List Sight) (st : State) → searched_open dist q w ps ss st ≡ searched_all dist q w (unstruck ps ss) st
  open_all none ss st = refl
  open_all (part p column t rest) ss st = go (open_all rest ss st) (struck ss column)
    where
      go : searched_open dist q w rest ss st ≡ searched_all dist q w (unstruck rest ss) st → (b : Bool) → cond b (searched_open dist q w rest ss st) (searched dist q w t (searched_open dist q w rest ss st)) ≡ searched_all dist q w (cond b (unstruck rest ss) (t ∷ unstruck rest ss)) st
      go ih true = ih
      go ih false = ap (searched dist q w t) ih

  turn_all : (t : Tree E) (st : State) → searched dist q w t st ≡ searched_all dist q w (turn dist q w t st).0 (turn dist q w t st).1
  turn_all (leaf xs) st = refl
  turn_all (branch ps) st = open_all ps (survey dist q w ps [] st).0 (survey dist q w ps [] st).1

  -- the last is taken, and what it leaves goes in its place
  pub turn_step : (ts : List (Tree E)) (t : Tree E) (st : State) → searched_all dist q w (ts ++ (t ∷ [])) st ≡ searched_all dist q w (ts ++ (turn dist q w t st).0) (turn dist q w t st).1
  turn_step ts t st =
      searched_append ts (t ∷ []) st
      ∙ (ap (searched_all dist q w ts) (turn_all t st)
      ∙ sym (searched_append ts (turn dist q w t st).0 (turn dist q w t st).1))

  turn_weight : (t : Tree E) (st : State) → weight (turn dist q w t st).0 ≤ pivot_count t
  turn_weight (leaf xs) st = omega arith
  turn_weight (branch ps) st = unstruck_weight ps (survey dist q w ps [] st).0

  -- pending trees and pivots below them grow fewer with every turn
  pub turn_falls : (ts : List (Tree E)) (t : Tree E) (st : State) → weight (ts ++ (turn dist q w t st).0) < weight (ts ++ (t ∷ []))
  turn_falls ts t st = omega (arith, turn_weight t st, weight_append ts (turn dist q w t st).0, weight_append ts (t ∷ []))
