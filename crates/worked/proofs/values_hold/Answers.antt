use mathlib.Core.Path.{refl}
use Rattle.arm.specs.Turns.{swing_of, turn_of, turn_by}
use Rattle.arm_checkers.specs.Passes.{outside, step_passes, swept, swept_box, box_passes}
use Rattle.card.specs.Cards.{slot_cost}
use Rattle.turning.specs.Circle.{floor, wrap, ahead}
use Rattle.turning.specs.Motions.{turned, joint_at, pose_at, steps_of, motion}
use Rattle.turning.specs.Arcs.{within, meeting, swept_from}
use Rattle.walls.specs.Walls.{in_wall, apart}
use Rattle.worked.proofs.values_hold.Goals as goal

pub returns : goal.returns
unfolding swing_of turn_of turn_by slot_cost floor wrap ahead turned joint_at pose_at steps_of motion within meeting swept_from in_wall apart outside step_passes swept swept_box box_passes
returns c = record {
  all = (refl, (refl, (refl, (refl, (refl, (refl, (refl, ((refl, refl), (refl, (refl, tt))))))))));
  count = refl;
}
