use Rattle.std.proofs.Common.{◌≡◌, sym, ap, ◌∙◌, ⊎_elim, arith, rules}
use Rattle.std.proofs.lemmas.Bool.{cases_lt}
use Rattle.walls.specs.Walls.{joint_in}
use Rattle.arm_checkers.specs.Meetings.{way_pose}
use Rattle.arm_checkers.proofs.Firsts.{first_some}
use Rattle.arm_checkers.proofs.Ways.{all_in, never_met, asked, passed_over, comes}
use Rattle.arm_checkers.proofs.way.Way.first_in.Goals as goal

pub returns-in_err-next : goal.returns-in_err-next
returns-in_err-next c =
    let e = sym (c.in_err-next.was) ∙ c.first_in.ensures in
    c.from_residual.ensures ∙ never_met c.args.self.now c.args.wall.now c.loop-joint.joint c.loop-joint.t c.args.last c.index-self-joint.result (search rules) c.loop-joint-test.true c.loop-joint.invariant.before e

pub loop-joint-preserved-then-next-t : goal.loop-joint-preserved-then-next-t
loop-joint-preserved-then-next-t c =
    let e = sym (c.in_ok-next.was) ∙ c.first_in.ensures in
    let here = comes c.args.self.now c.args.wall.now c.loop-joint.joint c.loop-joint.t c.args.last c.index-self-joint.result (search rules) c.loop-joint-test.true c.loop-joint.invariant.before c.in_ok-next.next e in
    record {
      in_time = c.loop-joint.invariant.in_time;
      asked = omega arith;
      before = c.loop-joint.invariant.before;
      here = λ i h. ⊎_elim
          (c.loop-joint.invariant.here i)
          (λ g.
          let same : i ≡ c.loop-joint.joint = omega arith in
          ap (joint_in c.args.wall.now (way_pose c.args.self.now c.loop-joint.t)) same ∙ ap (λ t. joint_in c.args.wall.now (way_pose c.args.self.now t) c.loop-joint.joint) (sym c.if-next-t.true) ∙ here)
          (cases_lt i c.loop-joint.joint);
    }

pub loop-joint-smaller : goal.loop-joint-smaller
loop-joint-smaller c =
    let e = sym (c.in_ok-next.was) ∙ c.first_in.ensures in
    let a = asked c.args.self.now c.args.wall.now c.loop-joint.joint c.loop-joint.t c.args.last c.index-self-joint.result (search rules) c.loop-joint-test.true c.loop-joint.invariant.before c.in_ok-next.next e in
    omega (arith, a.begun, a.ended, c.if-next-t.false)

pub loop-joint-preserved : goal.loop-joint-preserved
loop-joint-preserved c =
    let e = sym (c.in_ok-next.was) ∙ c.first_in.ensures in
    let a = asked c.args.self.now c.args.wall.now c.loop-joint.joint c.loop-joint.t c.args.last c.index-self-joint.result (search rules) c.loop-joint-test.true c.loop-joint.invariant.before c.in_ok-next.next e in
    record {
      in_time = a.ended;
      asked = omega arith;
      before = passed_over c.args.self.now c.args.wall.now c.loop-joint.joint c.loop-joint.t c.args.last c.index-self-joint.result (search rules) c.loop-joint-test.true c.loop-joint.invariant.before c.in_ok-next.next e;
      here = λ i h. absurd (omega arith);
    }

pub returns : goal.returns
returns c = sym (first_some _ 0 c.args.last c.loop-joint.t (omega arith) c.loop-joint.invariant.in_time
    (all_in c.args.wall.now (way_pose c.args.self.now c.loop-joint.t) (λ i h. c.loop-joint.invariant.here i (omega arith)))
    (λ s l h. c.loop-joint.invariant.before s h))
