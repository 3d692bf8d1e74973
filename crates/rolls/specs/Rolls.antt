-- A linear congruential row of numbers.
use Rattle.std.specs.Prelude.{ℕ, ◌+◌, ◌*◌, ◌^◌, ◌/◌, ◌%◌, if◌then◌else◌, ◌==◌}

-- each state from the one before
abbrev pub state_after : ℕ → ℕ
state_after s = (s * 1664525 % 2 ^ 32 + 1013904223) % 2 ^ 32

-- a roll is the upper half of the new state
abbrev pub rolled : ℕ → ℕ
rolled s = state_after s / 2 ^ 16

abbrev pub rolled_below : ℕ → ℕ → ℕ
rolled_below limit s = if limit == 0 then 0 else rolled s % limit
