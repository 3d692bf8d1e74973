use Rattle.std.proofs.Common.{arith}
use Rattle.std.proofs.lemmas.Int.{ints}
use Rattle.arm.specs.Turns.{turn_by, turn_of}
use Rattle.arm.proofs.turn.Goals as goal

pub returns-then-difference-gt-HALF : goal.returns-then-difference-gt-HALF
unfolding turn_of turn_by
returns-then-difference-gt-HALF c = record { value = grind (arith, ints); bound = grind (arith, ints) }

pub returns-then-difference : goal.returns-then-difference
unfolding turn_of turn_by
returns-then-difference c = record { value = grind (arith, ints); bound = grind (arith, ints) }

pub returns-else-difference : goal.returns-else-difference
unfolding turn_of turn_by
returns-else-difference c = record { value = grind (arith, ints); bound = grind (arith, ints) }
