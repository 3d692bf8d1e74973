use Rattle.std.proofs.Common.{arith}
use Rattle.std.proofs.lemmas.Int.{ints}
use Rattle.arm.specs.Turns.{turn_by, turn_of, swing_of}
use Rattle.arm.proofs.swing.Goals as goal

pub returns-clause-value : goal.returns-clause-value
unfolding swing_of turn_of turn_by
returns-clause-value c = grind (arith, ints, c.min.ensures)
