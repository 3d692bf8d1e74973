use Rattle.std.proofs.Common.{◌≡◌, nat_abs, sym, ap, ◌∙◌, arith, w32, to_z, of_z}
use Rattle.std.proofs.lemmas.Int.{ints, to_z-of_z}
use Rattle.turning.specs.Circle.{floor}
use Rattle.turning.specs.Motions.{turned}
use Rattle.turning.proofs.Machine.{product_fits, product_held, turned_none, turned_some, turned_size}
use Rattle.motion.proofs.done.Goals as goal

pub overflow_mul-turn : goal.overflow_mul-turn
overflow_mul-turn c = product_fits _ _ c.args.turn c.args.t (to_z-of_z w32 _ c.ranges.turn) (omega (arith, ints)) c.requires (omega arith)

pub returns-then-n-eq0 : goal.returns-then-n-eq0
returns-then-n-eq0 c = record {
  value = sym (ap (λ n. turned c.args.turn n c.args.t) c.if-n-eq0.true ∙ turned_none c.args.turn c.args.t);
  bound = omega arith;
}

pub returns : goal.returns
returns c =
    let same : to_z w32 (of_z w32 c.floor_div.result) ≡ turned c.args.turn c.args.n c.args.t =
    to_z-of_z w32 _ (record { sfits = c.floor_div.type_inv })
    ∙ c.floor_div.ensures.value
    ∙ ap (λ z. floor z c.args.n) (product_held _ _ c.args.turn c.args.t (to_z-of_z w32 _ c.ranges.turn) (omega (arith, ints)) c.requires (omega arith))
    ∙ sym (turned_some c.args.turn c.args.n c.args.t (omega arith)) in
    record { value = same; bound = omega (arith, ap nat_abs same, turned_size c.args.turn c.args.n c.args.t c.requires (omega arith)) }
