use Rattle.std.proofs.Common.{◌≡◌, ◌%◌, cond, pos, nat_abs, sym, ap, ◌∙◌, w32, to_z, of_z}
use lib.Signed.{le_z}
use Rattle.std.proofs.lemmas.Int.{to_z-of_z}
use Rattle.arm.specs.Turns.{turn_of, swing_of}
use Rattle.turning.specs.Arcs.{swept_from}
use Rattle.arm_checkers.specs.Passes.{swept}
use Rattle.arm_checkers.proofs.sweep.swept_arc.Goals as goal
use Rattle.arm_checkers.proofs.sweep.swept_arc.Goals.{then-turn-ge0, else-turn-ge0}

turning : (c : goal.After-unsigned_abs) → to_z w32 (of_z w32 c.turn-turn.result) ≡ turn_of c.args.from c.args.to
turning c = to_z-of_z w32 _ (record { sfits = c.turn-turn.type_inv }) ∙ c.turn-turn.ensures.value

starts : (c : goal.After-unsigned_abs) → c.if-turn-ge0.start ≡ swept_from c.args.from c.args.to
unfolding swept_from
starts c = elim c.if-turn-ge0.branch [
  | then-turn-ge0 w ↦ w.start-is ∙ ap (λ t. cond t (c.args.from % 4096) (c.args.to % 4096)) (sym w.if-turn-ge0.true ∙ ap (le_z (pos 0)) (turning c))
  | else-turn-ge0 w ↦ w.start-is ∙ ap (λ t. cond t (c.args.from % 4096) (c.args.to % 4096)) (sym w.if-turn-ge0.false ∙ ap (le_z (pos 0)) (turning c))
]

pub returns : goal.returns
unfolding swept swing_of
returns c =
    let start = starts c in
    let extent = c.unsigned_abs.ensures.value ∙ ap nat_abs (turning c) in
    cc
