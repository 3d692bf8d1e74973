use Rattle.std.proofs.Common.{◌≡◌, ℕ, ◌%◌, ℤ, pos, negsuc, ◌+ℤ◌, nat_abs, cond, neg_ℤ, refl, ap, ◌∙◌, arith, w32}
use lib.Signed.{le_z}
use Rattle.std.proofs.lemmas.Bool.{le-leb}
use Rattle.std.proofs.lemmas.Int.{to_z-of_z}
use Rattle.turning.specs.Circle.{wrap}
use Rattle.turning.specs.Motions.{turned, joint_at}
use Rattle.arm.specs.Turns.{swing_of}
use Rattle.arm_checkers.specs.Joints.{directed, joint_angle}
use Rattle.arm_checkers.proofs.joint.Joint.new.Goals as goal

-- a number is its size, upward if it is 0 or more
directed_back : (z : ℤ) → directed (le_z (pos 0) z) (nat_abs z) ≡ z
directed_back (pos a) = ap (λ b. cond b (pos a) (neg_ℤ (pos a))) (le-leb 0 a (omega arith))
directed_back (negsuc a) = refl

-- the turn, and its size, as a machine holds them
held : (z d : ℤ) (size : ℕ) → z ≡ d → size ≡ nat_abs z → directed (le_z (pos 0) z) size ≡ d
held z d size same sized = ap (directed (le_z (pos 0) z)) sized ∙ directed_back z ∙ same

pub invariant_of-result : goal.invariant_of-result
unfolding swing_of
invariant_of-result c =
    let same = to_z-of_z w32 _ (record { sfits = c.turn-turn.type_inv }) ∙ c.turn-turn.ensures.value in
    let sized = c.unsigned_abs.ensures.value ∙ ap nat_abs same in
    record { round = omega arith; slow = omega (arith, sized); few = omega arith }

pub returns-clause-angles : goal.returns-clause-angles
unfolding joint_angle joint_at
returns-clause-angles c =
    let same = to_z-of_z w32 _ (record { sfits = c.turn-turn.type_inv }) ∙ c.turn-turn.ensures.value in
    λ t. ap (λ d. wrap (pos (c.args.from % 4096) +ℤ turned d c.args.steps t)) (held _ _ _ same c.unsigned_abs.ensures.value)
