-- The turn of a joint.
use Rattle.std.specs.Prelude.{ℕ, ◌%◌, cond, ℤ, pos, negsuc, ◌+ℤ◌, ◌-ℤ◌, int_lt, unsigned_abs}

-- the shorter way round for a difference of two angles; a half turn stays as it is
unfoldable pub turn_by : ℤ → ℤ
turn_by d = cond (int_lt (pos 2048) d) (d -ℤ pos 4096) (cond (int_lt d (negsuc 2047)) (d +ℤ pos 4096) d)

-- from one angle to another, each read as its remainder by a full turn
unfoldable pub turn_of : ℕ → ℕ → ℤ
turn_of a b = turn_by (pos (b % 4096) -ℤ pos (a % 4096))

-- the size of a turn
unfoldable pub swing_of : ℕ → ℕ → ℕ
swing_of a b = unsigned_abs (turn_of a b)
