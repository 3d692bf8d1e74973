use Rattle.std.proofs.Common.{◌≡◌, ℕ, true, List, map, ap, refl, ◌∙◌, rules, arith}
use Rattle.std.specs.Prelude.{slice_index}
use Rattle.std.proofs.lemmas.List.{get_or-map, length-map}
use Rattle.std.proofs.lemmas.List.FromFn.{fill_by_all}
use Rattle.std.proofs.iter.Serving.{serving}
use Rattle.turning.specs.Motions.{stands, joints, joint_at, pose_at}
use Rattle.turning.proofs.Made.{each_made}
use Rattle.turning.proofs.Reversal.{swing_within}
use Rattle.arm_checkers.specs.declared.joint.Joint.{Joint}
use Rattle.arm_checkers.specs.Joints.{joint_angle}
use Rattle.arm_checkers.specs.Meetings.{way_pose}
use Rattle.arm_checkers.proofs.way.Way.new.Goals as goal

pub from_fn-requires : goal.from_fn-requires
from_fn-requires c = let within = swing_within c.args.from.now c.args.to.now in let n = c.steps-steps.ensures.value in grind serving

pub returns-clause-poses : goal.returns-clause-poses
unfolding way_pose pose_at
returns-clause-poses c = λ t.
    let each = each_made _ _ (λ i j. joint_angle j t ≡ joint_at (slice_index c.args.from.now.angles i) (slice_index c.args.to.now.angles i) c.steps-steps.result t) (λ i y q k. search rules) c.from_fn.result 6 0 _ refl c.from_fn.ensures.items.each in
    let still : Joint = record { start = 0; upward = true; size = 0; steps = 0; round = omega arith; slow = omega arith; few = omega arith } in
    ap (λ (angles : List ℕ). record { angles = angles })
    (fill_by_all (stands c.args.from.now c.args.to.now c.steps-steps.result t) _ 6 0
    (length-map c.from_fn.result (λ (j : Joint). joint_angle j t) ∙ c.from_fn.ensures.items.long)
    (λ k l. get_or-map (λ j. joint_angle j t) c.from_fn.result k still 0 (omega (arith, c.from_fn.ensures.items.long)) ∙ each k still (omega arith) (omega arith)))
    ∙ ap (λ n. record { angles = (map (stands c.args.from.now c.args.to.now n t) joints) }) c.steps-steps.ensures.value
