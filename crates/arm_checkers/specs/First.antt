-- The first step at which something is true.
use Rattle.std.specs.Prelude.{ℕ, suc, ◌-◌, Bool, Option}
use Rattle.std.specs.List.{find, range_with_len}

-- the first of the steps from one to the last at which it is true; none if it is true at none of them
unfoldable pub first_from : (ℕ → Bool) → ℕ → ℕ → Option ℕ
first_from p from last = find p (range_with_len from (suc last - from))
