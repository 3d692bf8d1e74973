use Rattle.std.proofs.Common.{◌≡◌, ℕ, ◌*◌, ◌/◌, ◌<◌, true, false, sym, ◌∙◌}
use Rattle.std.specs.Int.{div_ceil}
use Rattle.arm_checkers.specs.declared.joint.Joint.{Joint}
use Rattle.arm_checkers.specs.Joints.{part_done}
use Rattle.arm_checkers.proofs.Parts.{part_up, part_down, part_none, some_steps}
use Rattle.arm_checkers.proofs.OfJoints.{part_is}
use Rattle.arm_checkers.proofs.joint.Joint.done.Goals as goal

module _ (j : Joint) (t size step : ℕ) (s : size ≡ j.size) (u : step ≡ t) where
  product : size * step ≡ j.size * t
  product = cc

  nothing : size * step ≡ 0 → 0 ≡ part_done j t
  nothing e = sym (part_is j t ∙ part_none j.upward j.size j.steps t (sym product ∙ e))

  module _ (steps : ℕ) (n : steps ≡ j.steps) (some : size * step ≡ 0 → ⊥) where
    many : 0 < j.steps
    many = some_steps j.size j.steps t j.slow (λ e. some (product ∙ e))

    up : j.upward ≡ true → (size * step) / steps ≡ part_done j t
    up way = cc (product, n, part_is j t, part_up j.size j.steps t many)

    down : j.upward ≡ false → div_ceil (size * step) steps ≡ part_done j t
    down way = cc (product, n, part_is j t, part_down j.size j.steps t many)

pub returns-then-product-eq0-clause-value : goal.returns-then-product-eq0-clause-value
returns-then-product-eq0-clause-value c = nothing c.args.self.now c.args.step _ _ c.from.ensures c.from-2.ensures c.if-product-eq0.true

pub returns-then-self-clause-value : goal.returns-then-self-clause-value
returns-then-self-clause-value c = up c.args.self.now c.args.step _ _ c.from.ensures c.from-2.ensures _ c.from-steps.ensures c.if-product-eq0.false c.if-self.true

pub returns-else-self-clause-value : goal.returns-else-self-clause-value
returns-else-self-clause-value c = c.div_ceil.ensures ∙ down c.args.self.now c.args.step _ _ c.from.ensures c.from-2.ensures _ c.from-steps.ensures c.if-product-eq0.false c.if-self.false
