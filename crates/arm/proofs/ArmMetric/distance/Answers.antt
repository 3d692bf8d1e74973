use Rattle.std.proofs.Common.{◌+◌, ◌*◌, get_or, sym, ap, ◌∙◌, add-one, arith}
use Rattle.arm.specs.Poses.{joint_swing}
use Rattle.arm.proofs.Weighing.{weights, turn_bound, weighed, weighed_all}
use Rattle.arm.proofs.ArmMetric.distance.Goals as goal

pub overflow_add-sum : goal.overflow_add-sum
overflow_add-sum c = let more = turn_bound c.loop-joint.joint c.swing.result c.swing.ensures.bound in omega (arith, c.loop-joint.invariant.1, c.loop-joint-test.true)

pub loop-joint-preserved : goal.loop-joint-preserved
loop-joint-preserved c =
    let e = c.args.self.now in
    let f = c.args.other.now in
    let i = c.loop-joint.joint in
    let w = get_or weights i 0 in
    let more = turn_bound i c.swing.result c.swing.ensures.bound in (
      ap (λ s. c.loop-joint.sum + w * s) c.swing.ensures.value ∙ (ap (λ z. z + w * joint_swing i e f) c.loop-joint.invariant.0 ∙ sym (ap (λ n. weighed n e f) (add-one i))),
      omega (arith, c.loop-joint.invariant.1),
    )

pub returns : goal.returns
returns c = c.loop-joint.invariant.0 ∙ weighed_all c.loop-joint.joint c.args.self.now c.args.other.now (omega arith)
