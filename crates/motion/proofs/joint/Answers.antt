use Rattle.std.proofs.Common.{◌%◌, pos, ◌+ℤ◌, nat_abs, ap, ◌∙◌, arith, w32}
use Rattle.std.specs.Int.{int_rem_euclid}
use Rattle.std.proofs.lemmas.Int.{ints, to_z-of_z}
use Rattle.turning.specs.Circle.{wrap}
use Rattle.turning.specs.Motions.{turned, joint_at}
use Rattle.turning.proofs.Machine.{sum_fits, sum_held, wrap_euclid}
use Rattle.motion.proofs.joint.Goals as goal

pub overflow_add-from : goal.overflow_add-from
overflow_add-from c = sum_fits _ _ c.done.result (c.args.from % 4096) (omega (arith, ints)) (to_z-of_z w32 _ (record { sfits = c.done.type_inv })) (omega arith) c.done.ensures.bound

pub returns : goal.returns
unfolding joint_at
returns c =
    let turning = to_z-of_z w32 _ (record { sfits = c.turn.type_inv }) ∙ c.turn.ensures.value in
    let held = sum_held _ _ c.done.result (c.args.from % 4096) (omega (arith, ints)) (to_z-of_z w32 _ (record { sfits = c.done.type_inv })) (omega arith) c.done.ensures.bound in
    ap nat_abs (to_z-of_z w32 _ (record { sfits = c.rem_euclid.type_inv }) ∙ c.rem_euclid.ensures.value ∙ ap (λ z. int_rem_euclid z (pos 4096)) held ∙ wrap_euclid _)
    ∙ ap (λ z. wrap (pos (c.args.from % 4096) +ℤ z)) (c.done.ensures.value ∙ ap (λ d. turned d c.args.n c.args.t) turning)
