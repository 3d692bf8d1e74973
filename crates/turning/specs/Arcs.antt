-- Arcs of the circle, as (start, extent), both read as remainders by a full turn.
use Rattle.std.specs.Prelude.{ℕ, ◌%◌, Bool, cond, ◌||◌, pos, int_le, nat_le}
use Rattle.arm.specs.Turns.{turn_of}
use Rattle.turning.specs.Circle.{ahead}

-- an angle is in an arc if it lies no farther ahead of the start than the extent
unfoldable pub within : ℕ → ℕ → ℕ → Bool
within start extent angle = nat_le (ahead start angle) (extent % 4096)

-- two arcs meet if one of them has the start of the other
unfoldable pub meeting : ℕ → ℕ → ℕ → ℕ → Bool
meeting p u q v = within p u q || within q v p

-- where the arc starts that a joint sweeps on its way from a to b: at a going up, at b going down
unfoldable pub swept_from : ℕ → ℕ → ℕ
swept_from a b = cond (int_le (pos 0) (turn_of a b)) (a % 4096) (b % 4096)
