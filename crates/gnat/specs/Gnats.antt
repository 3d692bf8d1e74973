-- What a GNAT means, and which tree it holds.
use Rattle.std.specs.Prelude.{ℕ}
use Rattle.index.specs.Meaning.{Meaning}
use Rattle.gnat_theory.specs.Tree.{Tree}
use Rattle.gnat.specs.declared.gnat.Gnat.{Gnat}
use Rattle.gnat.specs.States.{State, state, meaning_of, tree_in, FilesAll}

module _ {E : Type 0} {metric : _} where
  abbrev pub state_of : Gnat E metric → State E
  state_of g = state g.rows.now g.root g.settings g.standing g.marked g.last

  abbrev pub gnat_meaning : Gnat E metric → Meaning E
  gnat_meaning g = meaning_of (state_of g)

  abbrev pub gnat_tree : Gnat E metric → Tree E
  gnat_tree g = tree_in (state_of g)

  abbrev pub TreeRight : (E → E → ℕ) → Gnat E metric → Type 0
  TreeRight dist g = FilesAll dist (state_of g)
