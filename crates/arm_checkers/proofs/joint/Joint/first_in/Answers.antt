use Rattle.std.proofs.Common.{leb, ap, ◌∙◌, arith}
use Rattle.turning.specs.Circle.{ahead}
use Rattle.arm_checkers.specs.First.{first_from}
use Rattle.arm_checkers.specs.Joints.{part_done, angle_after}
use Rattle.arm_checkers.proofs.OfJoints.{at_once, comes_in}
use Rattle.arm_checkers.proofs.joint.Joint.first_in.Goals as goal

pub returns-then-ahead-extent : goal.returns-then-ahead-extent
returns-then-ahead-extent c =
    let here = c.ahead-ahead.ensures.value ∙ ap (ahead c.args.arc.now.start) (c.angle_after.ensures ∙ ap (angle_after c.args.self.now) c.done-done.ensures.value) in
    at_once c.args.self.now c.args.arc.now.start c.args.arc.now.extent c.args.from c.args.last c.requires.ahead (omega (arith, here))

pub returns : goal.returns
returns c =
    let here = c.ahead-ahead.ensures.value ∙ ap (ahead c.args.arc.now.start) (c.angle_after.ensures ∙ ap (angle_after c.args.self.now) c.done-done.ensures.value) in
    c.first_done.ensures
    ∙ ap (λ k. first_from (λ t. leb k (part_done c.args.self.now t)) 0 c.args.last) (omega (arith, c.from.ensures, c.way_to.ensures.value, c.done-done.ensures.value))
    ∙ comes_in c.args.self.now c.args.arc.now.start c.args.arc.now.extent c.args.from c.args.last c.ahead-ahead.result here c.if-ahead-extent.false (omega (arith, c.way_to.ensures.value, c.way_to.ensures.some))
