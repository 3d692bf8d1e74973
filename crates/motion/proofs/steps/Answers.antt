use Rattle.std.proofs.Common.{arith}
use Rattle.turning.specs.Motions.{steps_of}
use Rattle.turning.proofs.Machine.{greatest_six}
use Rattle.turning.proofs.Reversal.{motion_back}
use Rattle.motion.proofs.steps.Goals as goal

pub returns : goal.returns
unfolding steps_of
returns c = record { value = cc (greatest_six c.swing.result c.swing-2.result c.swing-3.result c.swing-4.result c.swing-5.result c.swing-6.result); back = motion_back c.args.from.now c.args.to.now; bound = omega arith }
