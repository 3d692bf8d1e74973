-- The distance of two poses.
use Rattle.std.specs.Prelude.{ℕ, ◌+◌, ◌*◌, slice_index}
use Rattle.arm.specs.declared.Arm.{Arm}
use Rattle.arm.specs.Turns.{swing_of}

-- the size of the turn of one joint between two poses
abbrev pub joint_swing : ℕ → Arm → Arm → ℕ
joint_swing i e f = swing_of (slice_index e.angles i) (slice_index f.angles i)

abbrev pub pose_distance : Arm → Arm → ℕ
pose_distance e f = 32 * joint_swing 0 e f + 24 * joint_swing 1 e f + 16 * joint_swing 2 e f + 8 * joint_swing 3 e f + 4 * joint_swing 4 e f + 4 * joint_swing 5 e f
