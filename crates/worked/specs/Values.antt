-- The worked values, one list.
use Rattle.std.specs.Prelude.{Bool, true, false, List, [], ◌∷◌, map, ◌≡◌, ℕ}
use Rattle.arm.specs.declared.Arm.{Arm}
use Rattle.arm.specs.Poses.{pose_distance}
use Rattle.arm_checkers.specs.Passes.{step_passes, box_passes}
use Rattle.card.specs.declared.Card.{Card}
use Rattle.card.specs.Cards.{card_distance}
use Rattle.turning.specs.Motions.{motion}
use Rattle.walls.specs.declared.arc.Arc.{Arc}
use Rattle.walls.specs.declared.wall.Wall.{Wall}
use Rattle.walls.specs.Arcs.{meet}

-- an example: what is asked, and the value that it is worked to
pub data Value : Type 0 where
  -- the distance of two poses that differ in the first joint alone
  first_angles : ℕ → ℕ → ℕ → Value
  -- the distance of two cards, by their slots
  cards : List ℕ → List ℕ → ℕ → Value
  -- the motion between two poses that differ in the first two joints alone
  moves : ℕ × ℕ → ℕ × ℕ → List (ℕ × ℕ) → Value
  -- whether Step and whether Box passes such a pair of poses, past a wall of these arcs
  passes : ℕ × ℕ → ℕ × ℕ → List (ℕ × ℕ) → Bool → Bool → Value
  -- whether two arcs meet
  meeting : ℕ × ℕ → ℕ × ℕ → Bool → Value

abbrev pub first_angle : ℕ → Arm
first_angle a = record { angles = a ∷ (0 ∷ (0 ∷ (0 ∷ (0 ∷ (0 ∷ []))))) }

abbrev pub two_angles : ℕ × ℕ → Arm
two_angles (a, b) = record { angles = a ∷ (b ∷ (0 ∷ (0 ∷ (0 ∷ (0 ∷ []))))) }

abbrev pub arc_of : ℕ × ℕ → Arc
arc_of (start, extent) = record { start = start; extent = extent }

abbrev pub wall_of : List (ℕ × ℕ) → Wall
wall_of arcs = record { arcs = map arc_of arcs }

abbrev pub card_of : List ℕ → Card
card_of slots = record { slots = slots }

abbrev pub Holds : Value → Type 0
Holds (first_angles a b d) = pose_distance (first_angle a) (first_angle b) ≡ d
Holds (cards e f d) = card_distance (card_of e) (card_of f) ≡ d
Holds (moves e f poses) = motion (two_angles e) (two_angles f) ≡ map two_angles poses
Holds (passes e f arcs step box) = (step_passes (wall_of arcs ∷ []) (two_angles e) (two_angles f) ≡ step) × (box_passes (wall_of arcs ∷ []) (two_angles e) (two_angles f) ≡ box)
Holds (meeting c d r) = meet (arc_of c) (arc_of d) ≡ r

abbrev pub EachHolds : List Value → Type 0
EachHolds [] = Unit {0}
EachHolds (v ∷ vs) = Holds v × EachHolds vs

abbrev pub values : List Value
values =
    first_angles 0 4095 32
    ∷ (first_angles 0 2048 65536
    ∷ (first_angles 0 2049 65504
    ∷ (first_angles 0 4096 0
    ∷ (cards (1 ∷ (0 ∷ (0 ∷ (0 ∷ (0 ∷ (0 ∷ (0 ∷ (7 ∷ [])))))))) (2 ∷ (0 ∷ (0 ∷ (0 ∷ (0 ∷ (0 ∷ (0 ∷ (9 ∷ [])))))))) 46
    ∷ (moves (0, 0) (2, 4093) ((0, 0) ∷ ((0, 4095) ∷ ((1, 4094) ∷ ((2, 4093) ∷ []))))
    ∷ (moves (2, 4093) (0, 0) ((2, 4093) ∷ ((1, 4094) ∷ ((0, 4095) ∷ ((0, 0) ∷ []))))
    ∷ (passes (0, 0) (2, 4093) ((2, 0) ∷ ((4094, 0) ∷ ((0, 4095) ∷ ((0, 4095) ∷ ((0, 4095) ∷ ((0, 4095) ∷ [])))))) true false
    ∷ (meeting (4090, 10) (3, 0) true
    ∷ (meeting (4090, 10) (5, 0) false
    ∷ [])))))))))
