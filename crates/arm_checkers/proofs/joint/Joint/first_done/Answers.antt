use Rattle.std.proofs.Common.{◌*◌, ap, arith}
use Rattle.arm_checkers.proofs.OfJoints.{never, late, soon}
use Rattle.arm_checkers.proofs.joint.Joint.first_done.Goals as goal

pub returns-then-part-size : goal.returns-then-part-size
returns-then-part-size c = never c.args.self.now c.args.part c.args.last c.requires.some c.requires.within (omega (arith, c.from-size.ensures))

pub returns-then-size-from : goal.returns-then-size-from
returns-then-size-from c = late c.args.self.now c.args.part c.args.last c.requires.some _ _ c.from-size.ensures c.if-part-size.false c.short_of-short.ensures (omega (arith, ap (λ l. c.from-size.result * l) c.from.ensures))

pub returns : goal.returns
returns c = soon c.args.self.now c.args.part c.args.last c.requires.some _ _ c.from-size.ensures c.if-part-size.false c.short_of-short.ensures (omega (arith, ap (λ l. c.from-size.result * l) c.from.ensures))
