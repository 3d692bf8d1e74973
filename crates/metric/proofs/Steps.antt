-- The length of a path, step by step, and its bound. Assumes nothing.
use Rattle.std.proofs.Common.{◌≡◌, ℕ, ◌+◌, ◌*◌, ◌^◌, ◌<◌, ◌≤◌, List, [], ◌∷◌, length, get_or, take, drop, Some, refl, ap, ◌∙◌, arith, le-leb}
use Rattle.metric.specs.Laws.{MetricLaws}
use Rattle.metric.specs.Paths.{path_length, measured}

module _ {E : Type 0} (dist : E → E → ℕ) where
  -- the first step of a path, and the rest
  pub first_step : (es two : List E) (x y : E) → 2 ≤ length es → two ≡ take 2 es → x ≡ get_or two 0 x → y ≡ get_or two 1 y → path_length dist es ≡ dist x y + path_length dist (drop 1 es)
  first_step [] two x y l e ex ey = absurd (omega arith)
  first_step (a ∷ []) two x y l e ex ey = absurd (omega arith)
  first_step (a ∷ (b ∷ rest)) two x y l e ex ey =
      let left : x ≡ a = ex ∙ ap (λ z. get_or z 0 x) e in
      let right : y ≡ b = ey ∙ ap (λ z. get_or z 1 y) e in
      rw (left, right) refl

  -- a path that has no step
  pub no_step : (es : List E) → length es < 2 → path_length dist es ≡ 0
  no_step [] l = refl
  no_step (a ∷ []) l = refl
  no_step (a ∷ (b ∷ rest)) l = absurd (omega arith)

  module _ {top : ℕ} (laws : MetricLaws top dist) where
    path_bound : (es : List E) → path_length dist es ≤ length es * 1048576
    path_bound [] = omega arith
    path_bound (e ∷ []) = omega arith
    path_bound (e ∷ (f ∷ rest)) = omega (arith, path_bound (f ∷ rest), laws.bounded e f, laws.small)

    -- no path of at most 1,024 elements is too long for 32 bits
    pub path_fits : (es : List E) → length es ≤ 1024 → path_length dist es < 2 ^ 32
    path_fits es h = omega (arith, path_bound es)

  -- the answer for a path that is not too long
  pub measured_short : (es : List E) (n : ℕ) → length es ≤ 1024 → n ≡ path_length dist es → Some n ≡ measured dist es
  measured_short es n h e = let t = le-leb (length es) 1024 h in rw t (ap Some e)
