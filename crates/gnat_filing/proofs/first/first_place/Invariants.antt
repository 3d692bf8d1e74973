use Rattle.std.proofs.Common.{◌≡◌, ◌<◌, Bool, length}
use Rattle.gnat_theory.specs.Choice.{first_place as first_place_of}
use Rattle.gnat_filing.proofs.Loops.{so_far}
use Rattle.gnat_filing.proofs.first.first_place.Given as goal

abbrev pub invariant-loop-i : goal.invariant-loop-i
invariant-loop-i g l =
    (l.first < length l.xs)
    × ((test : g.row.T.Denot → g.row.T.Denot → Bool) (d : g.row.T.Denot) → ((x y : g.row.T.Denot) (r : Bool) → goal.F-post g l.before x y r → r ≡ test x y) → first_place_of test l.xs ≡ so_far test l.xs d l.first l.i)
