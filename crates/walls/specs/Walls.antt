-- Walls.
use Rattle.std.specs.Prelude.{ℕ, Bool, not, slice_index, slice_index_or}
use Rattle.arm.specs.declared.Arm.{Arm}
use Rattle.std.specs.List.{list_all, list_any}
use Rattle.turning.specs.Motions.{joints}
use Rattle.walls.specs.declared.arc.Arc.{Arc}
use Rattle.walls.specs.declared.wall.Wall.{Wall}
use Rattle.walls.specs.Arcs.{in_arc, meet}

abbrev pub angle_at : Arm → ℕ → ℕ
angle_at e i = slice_index e.angles i

abbrev pub arc_at : Wall → ℕ → Arc
arc_at w i = slice_index_or w.arcs i (record { start = 0; extent = 0 })

-- the angle of a joint is in the wall's arc
abbrev pub joint_in : Wall → Arm → ℕ → Bool
joint_in w e i = in_arc (arc_at w i) (angle_at e i)

-- a pose is in a wall if that holds of each joint
unfoldable pub in_wall : Wall → Arm → Bool
in_wall w e = list_all (joint_in w e) joints

-- the arcs of a joint do not meet
abbrev pub joint_apart : Wall → Wall → ℕ → Bool
joint_apart w v i = not (meet (arc_at w i) (arc_at v i))

-- two walls are apart if that holds of some joint
unfoldable pub apart : Wall → Wall → Bool
apart w v = list_any (joint_apart w v) joints
