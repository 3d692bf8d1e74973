-- Arcs.
use Rattle.std.specs.Prelude.{ℕ, Bool}
use Rattle.turning.specs.Arcs.{within, meeting}
use Rattle.walls.specs.declared.arc.Arc.{Arc}

-- an angle is in an arc
abbrev pub in_arc : Arc → ℕ → Bool
in_arc c angle = within c.start c.extent angle

-- two arcs meet
abbrev pub meet : Arc → Arc → Bool
meet c d = meeting c.start c.extent d.start d.extent
