use Rattle.std.proofs.Common.{arith}
use Rattle.printing.proofs.Words.{tail_sum, tail_short, line_len}
use Rattle.printing.proofs.line_len.Goals as goal

pub numbers_len-requires : goal.numbers_len-requires
numbers_len-requires c = omega (arith, tail_sum c.args.numbers.now, tail_short c.args.numbers.now c.type_inv.numbers)

pub overflow_add-result : goal.overflow_add-result
overflow_add-result c = omega (arith, tail_sum c.args.numbers.now, tail_short c.args.numbers.now c.type_inv.numbers)

pub overflow_add-result-2 : goal.overflow_add-result-2
overflow_add-result-2 c = omega (arith, tail_sum c.args.numbers.now, tail_short c.args.numbers.now c.type_inv.numbers)

pub returns : goal.returns
returns c = omega (arith, tail_sum c.args.numbers.now, line_len c.args.word.now c.args.numbers.now)
