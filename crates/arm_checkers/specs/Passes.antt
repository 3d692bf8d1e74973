-- The pairs that Step and Box pass.
use Rattle.std.specs.Prelude.{◌≡◌, ℕ, Bool, true, not, List, map}
use Rattle.arm.specs.declared.Arm.{Arm}
use Rattle.arm.specs.Turns.{swing_of}
use Rattle.std.specs.List.{list_all}
use Rattle.turning.specs.Arcs.{swept_from}
use Rattle.turning.specs.Motions.{joints, motion}
use Rattle.walls.specs.declared.arc.Arc.{Arc}
use Rattle.walls.specs.declared.wall.Wall.{Wall}
use Rattle.walls.specs.Walls.{angle_at, in_wall, apart}

-- a pose is in none of the walls
unfoldable pub outside : List Wall → Arm → Bool
outside walls e = list_all (λ w. not (in_wall w e)) walls

-- Step passes if no pose of the motion is in any wall
unfoldable pub step_passes : List Wall → Arm → Arm → Bool
step_passes walls e f = list_all (outside walls) (motion e f)

-- the arc that a joint sweeps from a to b
unfoldable pub swept : ℕ → ℕ → Arc
swept a b = record { start = swept_from a b; extent = swing_of a b }

-- the arcs that the joints sweep
unfoldable pub swept_box : Arm → Arm → Wall
swept_box e f = record { arcs = map (λ i. swept (angle_at e i) (angle_at f i)) joints }

-- Box passes if each wall has a joint whose arc does not meet the swept one
unfoldable pub box_passes : List Wall → Arm → Arm → Bool
box_passes walls e f = list_all (λ w. apart w (swept_box e f)) walls

-- over the same walls, Step passes all that Box passes
abbrev pub BoxWithinStep : List Wall → Type 0
BoxWithinStep walls = (e f : Arm) → box_passes walls e f ≡ true → step_passes walls e f ≡ true
