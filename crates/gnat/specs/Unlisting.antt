-- The order of the rows without one that stood.
use Rattle.std.specs.Prelude.{ℕ, ◌+◌, ◌-◌, Bool, true, false, List}
use Rattle.hits.specs.Lists.{closed}
use Rattle.gnat_order.specs.Order.{swapped}

-- a row that stays in use is the first of the marked ones; one that is freed is the first of the free ones
abbrev pub unlisted : ℕ → ℕ → ℕ → Bool → List ℕ → List ℕ
unlisted at standing marked true ps = swapped (standing - 1) ((standing - 1) + marked) (closed at standing ps)
unlisted at standing marked false ps = closed at standing ps

abbrev pub marked_then : ℕ → Bool → ℕ
marked_then marked true = marked
marked_then marked false = marked + 1
