-- The four laws of a distance, and the bound that keeps sums of distances small.
use Rattle.std.specs.Prelude.{◌≡◌, ℕ, ◌+◌, ◌≤◌}

pub record MetricLaws {E : Type 0} (top : ℕ) (dist : E → E → ℕ) : Type 0 where
  -- an element is at no distance from itself
  pub zero : (e : E) → dist e e ≡ 0
  -- the way back is as long
  pub symmetric : (e f : E) → dist e f ≡ dist f e
  -- a detour is never shorter
  pub triangle : (e f g : E) → dist e g ≤ dist e f + dist f g
  -- no distance exceeds the greatest
  pub bounded : (e f : E) → dist e f ≤ top
  pub small : top ≤ 1048576
