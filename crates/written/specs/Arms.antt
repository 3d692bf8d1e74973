-- How arms and their walls are written.
use Rattle.std.specs.Prelude.{◌≡◌, ℕ, List, [], ◌∷◌, refl}
use Rattle.std.proofs.Common.{ap}
use Rattle.std.specs.List.{flat_map}
use Rattle.arm.specs.declared.Arm.{Arm}
use Rattle.walls.specs.declared.arc.Arc.{Arc}
use Rattle.walls.specs.declared.wall.Wall.{Wall}

-- an arm by its six angles
abbrev pub arm_numbers : Arm → List ℕ
arm_numbers e = e.angles

abbrev pub arm_of : List ℕ → Arm
arm_of ns = record { angles = ns }

pub arm_faithful : (e : Arm) → arm_of (arm_numbers e) ≡ e
arm_faithful e = refl

-- a wall by start and extent of its arcs
abbrev pub arc_numbers : Arc → List ℕ
arc_numbers a = a.start ∷ (a.extent ∷ [])

abbrev pub wall_numbers : Wall → List ℕ
wall_numbers w = flat_map arc_numbers w.arcs

abbrev pub arcs_of : List ℕ → List Arc
arcs_of [] = []
arcs_of (n ∷ []) = []
arcs_of (n ∷ (m ∷ ns)) = record { start = n; extent = m } ∷ arcs_of ns

abbrev pub wall_of : List ℕ → Wall
wall_of ns = record { arcs = arcs_of ns }

pub arcs_faithful : (arcs : List Arc) → arcs_of (flat_map arc_numbers arcs) ≡ arcs
arcs_faithful [] = refl
arcs_faithful (a ∷ arcs) = ap (λ rest. a ∷ rest) (arcs_faithful arcs)

pub wall_faithful : (w : Wall) → wall_of (wall_numbers w) ≡ w
wall_faithful w = ap (λ arcs. record { arcs = arcs }) (arcs_faithful w.arcs)
