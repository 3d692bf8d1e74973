-- The law of a checker.
use Rattle.std.specs.Prelude.{◌≡◌, Bool}

-- it passes (e, f) exactly if it passes (f, e)
abbrev pub Symmetric : {C E : Type 0} → (C → E → E → Bool) → Type 0
Symmetric {C} {E} passes = (c : C) (e f : E) → passes c e f ≡ passes c f e
