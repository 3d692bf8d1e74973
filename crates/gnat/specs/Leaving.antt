-- The tree that the calls add and drop leave of a state g.
use Rattle.std.specs.Prelude.{ℕ, Some, None, Option}
use Rattle.index.specs.Meaning.{next_sample, element_at}
use Rattle.index.specs.Outcomes.{Outcome, gives, refuses}
use Rattle.index.specs.Calls.{room_of}
use Rattle.gnat_theory.specs.Tree.{Tree}
use Rattle.gnat_theory.specs.Dropping.{shrunk}
use Rattle.gnat_theory.specs.Rebuilding.{extended}
use Rattle.gnat.specs.States.{State, capacity_of, standing_in, meaning_of, tree_in}

module _ {E : Type 0} where
  module _ (dist : E → E → ℕ) (g : State E) (e : E) where
    -- with room: rebuilt first if every row is in use, and then with the sample filed; refused: as it was
    abbrev pub tree_with_at : Outcome Unit → Tree E
    tree_with_at (gives u) = extended dist g.settings.degree g.settings.bucket (capacity_of g) (standing_in g) (next_sample (meaning_of g) e) (tree_in g)
    tree_with_at (refuses n figures) = tree_in g

    abbrev pub tree_with : Tree E
    tree_with = tree_with_at (room_of (meaning_of g))

  module _ (g : State E) (n : ℕ) where
    -- standing: out of its leaf, or marked where it is a pivot; refused: as it was
    abbrev pub tree_without_at : Option E → Tree E
    tree_without_at None = tree_in g
    tree_without_at (Some e) = shrunk n (tree_in g)

    abbrev pub tree_without : Tree E
    tree_without = tree_without_at (element_at n (standing_in g))
