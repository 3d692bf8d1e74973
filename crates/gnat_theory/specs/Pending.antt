-- The search by a list of trees that are pending, of which the last is taken first.
use Rattle.std.specs.Prelude.{ℕ, cond, List, [], ◌∷◌}
use Rattle.gnat_theory.specs.Tree.{Tree, Parts}
use Rattle.gnat_theory.specs.Tree.Tree.{leaf, branch}
use Rattle.gnat_theory.specs.Tree.Parts.{none, part}
use Rattle.gnat_theory.specs.Searching.{Want, State, Sight, struck, survey, measure_all, searched}

module _ {E : Type 0} where
  -- the children not struck, in order
  abbrev pub unstruck : Parts E → List Sight → List (Tree E)
  unstruck none ss = []
  unstruck (part p column t rest) ss = cond (struck ss column) (unstruck rest ss) (t ∷ unstruck rest ss)

module _ {E : Type 0} (dist : E → E → ℕ) (q : E) (w : Want) where
  -- a turn with one tree: what goes on the list, and what has then been measured
  abbrev pub turn : Tree E → State → List (Tree E) × State
  turn (leaf xs) st = ([], measure_all dist q w xs st)
  turn (branch ps) st = let r : List Sight × State = survey dist q w ps [] st in (unstruck ps r.0, r.1)

  -- all that are pending, the last first
  abbrev pub searched_all : List (Tree E) → State → State
  searched_all [] st = st
  searched_all (t ∷ ts) st = searched dist q w t (searched_all ts st)
