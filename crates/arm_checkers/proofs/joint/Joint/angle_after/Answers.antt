use Rattle.std.proofs.Common.{◌+◌, ◌-◌, ◌%◌, sym, ap, ◌∙◌}
use Rattle.arm_checkers.proofs.OfJoints.{after_up, after_down}
use Rattle.arm_checkers.proofs.joint.Joint.angle_after.Goals as goal

pub returns-then-self : goal.returns-then-self
returns-then-self c =
    ap (λ full. (c.args.self.now.start + c.args.done % full) % 4096) c.from.ensures
    ∙ sym (after_up c.args.self.now c.args.done c.if-self.true)

pub returns-else-self : goal.returns-else-self
returns-else-self c =
    ap (λ full. (c.args.self.now.start + (4096 - c.args.done % full)) % 4096) c.from.ensures
    ∙ sym (after_down c.args.self.now c.args.done c.if-self.false)
