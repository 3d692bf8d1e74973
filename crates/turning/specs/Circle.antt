-- Angles round the circle, of which 4,096 make a full turn.
use Rattle.std.specs.Prelude.{ℕ, ◌-◌, ◌/◌, ◌%◌, ℤ, pos, negsuc, ◌+ℤ◌, ◌-ℤ◌, ◌*ℤ◌, ◌≤ℤ◌, ◌<ℤ◌}

-- a quotient, rounded down, also below zero
unfoldable pub floor : ℤ → ℕ → ℤ
floor (pos a) n = pos (a / n)
floor (negsuc a) n = negsuc (a / n)

-- that is: the greatest whole number that, taken n times, is not above z
abbrev pub RoundsDown : ℤ → ℕ → ℤ → Type 0
RoundsDown z n q = ((q *ℤ pos n) ≤ℤ z) × (z <ℤ ((q +ℤ pos 1) *ℤ pos n))

-- a whole number read as its remainder by a full turn, from 0 to 4,095
unfoldable pub wrap : ℤ → ℕ
wrap (pos a) = a % 4096
wrap (negsuc a) = 4095 - a % 4096

-- how far one angle lies ahead of another, going up
unfoldable pub ahead : ℕ → ℕ → ℕ
ahead from to = wrap (pos to -ℤ pos from)
