-- The motion from one pose to another: every joint turns at once, in as many steps as the greatest turn has.
use Rattle.std.specs.Prelude.{ℕ, zero, suc, ◌+◌, ◌%◌, max, List, [], ◌∷◌, map, ℤ, pos, ◌+ℤ◌, ◌*ℤ◌, slice_index}
use Rattle.std.specs.List.{range_with_len}
use Rattle.arm.specs.declared.Arm.{Arm}
use Rattle.arm.specs.Turns.{turn_of}
use Rattle.arm.specs.Poses.{joint_swing}
use Rattle.turning.specs.Circle.{floor, wrap}

-- how much of a turn is done at step t of n; nothing where there is no step
unfoldable pub turned : ℤ → ℕ → ℕ → ℤ
turned turn zero t = pos 0
turned turn (suc n) t = floor (turn *ℤ pos t) (suc n)

-- where a joint that goes from a to b stands at step t of n
unfoldable pub joint_at : ℕ → ℕ → ℕ → ℕ → ℕ
joint_at a b n t = wrap (pos (a % 4096) +ℤ turned (turn_of a b) n t)

-- where the joint at a place stands at step t of n
abbrev pub stands : Arm → Arm → ℕ → ℕ → ℕ → ℕ
stands e f n t i = joint_at (slice_index e.angles i) (slice_index f.angles i) n t

-- the six joints, by their places
abbrev pub joints : List ℕ
joints = range_with_len 0 6

-- the pose at step t of n
unfoldable pub pose_at : Arm → Arm → ℕ → ℕ → Arm
pose_at e f n t = record { angles = map (stands e f n t) joints }

abbrev pub greatest : List ℕ → ℕ
greatest [] = 0
greatest (x ∷ xs) = max x (greatest xs)

-- how many steps a motion has: the greatest turn of a joint
unfoldable pub steps_of : Arm → Arm → ℕ
steps_of e f = greatest (map (λ i. joint_swing i e f) joints)

-- the poses at the steps from 0 to the last; where no joint turns, the pose itself, its angles read as remainders
unfoldable pub motion : Arm → Arm → List Arm
motion e f = map (pose_at e f (steps_of e f)) (range_with_len 0 (steps_of e f + 1))
