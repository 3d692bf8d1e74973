use Rattle.std.proofs.Common.{◌≡◌, ◌+◌, ◌-◌, ◌*◌, ◌≤◌, ◌⊎◌, length, get_or, drop, Some, sym, ap, ◌∙◌, inl, inr, arith}
use Rattle.std.specs.Str.Parse.{digits_value, digits_value_after}
use Rattle.words.proofs.Numbers.{this_digit, next_digits, next_value, last_value, grows, zero_leads, too_large, writes}
use Rattle.words.proofs.digits.value_of.Goals as goal
use Rattle.words.proofs.digits.value_of.Goals.{else-digits-gt1-via-then-digits-gt1+else-digits-eq48, else-digits-gt1-via-else-digits-gt1}

pub returns-then-digits-eq48 : goal.returns-then-digits-eq48
returns-then-digits-eq48 c = zero_leads c.args.limit c.args.digits.now c.if-digits-gt1.true c.if-digits-eq48.true

pub overflow_sub-b : goal.overflow_sub-b
overflow_sub-b c = (this_digit c.args.digits.now c.loop-b.b-index c.loop-b-test.true c.loop-b.invariant.2).0

pub overflow_mul-value : goal.overflow_mul-value
overflow_mul-value c = omega arith

pub overflow_add-value : goal.overflow_add-value
overflow_add-value c = let d = this_digit c.args.digits.now c.loop-b.b-index c.loop-b-test.true c.loop-b.invariant.2 in omega arith

pub returns-then-value-from : goal.returns-then-value-from
returns-then-value-from c =
    let e = next_value c.args.digits.now c.loop-b.b-index c.loop-b-test.true c.loop-b.value c.loop-b.invariant.2 in
    let g = grows (c.loop-b.value * 10 + (get_or c.args.digits.now c.loop-b.b-index 0 - 48)) (drop (c.loop-b.b-index + 1) c.args.digits.now) in
    too_large c.args.limit c.args.digits.now (omega arith)

pub loop-b-preserved : goal.loop-b-preserved
loop-b-preserved c =
    let e = next_value c.args.digits.now c.loop-b.b-index c.loop-b-test.true c.loop-b.value c.loop-b.invariant.2 in (
      omega arith,
      ap (λ x. digits_value_after 10 (c.loop-b.value * 10 + x) (drop (c.loop-b.b-index + 1) c.args.digits.now)) c.from.ensures ∙ sym e ∙ c.loop-b.invariant.1,
      next_digits c.args.digits.now c.loop-b.b-index c.loop-b-test.true c.loop-b.invariant.2,
    )

pub returns : goal.returns
returns c =
    let e = last_value c.args.digits.now c.loop-b.b-index c.loop-b.value c.loop-b-test.false in
    let all : c.loop-b.value ≡ digits_value 10 c.args.digits.now = sym e ∙ c.loop-b.invariant.1 in
    let lead : (length c.args.digits.now ≤ 1) ⊎ (get_or c.args.digits.now 0 0 ≡ 48 → ⊥) = elim c.else-digits-gt1.branch [ else-digits-gt1-via-then-digits-gt1+else-digits-eq48 w ↦ inr w.if-digits-eq48.false | else-digits-gt1-via-else-digits-gt1 w ↦ inl w.if-digits-gt1.false ] in
    ap Some all ∙ writes c.args.limit c.args.digits.now c.requires.some c.requires.digits lead (omega arith)
