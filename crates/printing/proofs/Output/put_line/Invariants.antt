use Rattle.std.proofs.Common.{◌≡◌, ◌+◌, ◌++◌, length, take}
use Rattle.printing.specs.Outputs.{written}
use Rattle.printing.proofs.Words.{tail_of}
use Rattle.printing.proofs.Output.put_line.Given as goal

abbrev pub invariant-loop-n : goal.invariant-loop-n
invariant-loop-n l =
    let text = l.word ++ tail_of (take l.n-index l.numbers) in
    record {
      same_reference : l.self.bytes.ghost_name ≡ l.fn.self.bytes.ghost_name;
      len : l.self.len ≡ l.fn.self.len + length text;
      after : l.self.bytes.now ≡ written l.fn.self.bytes.now l.fn.self.len text;
      places : length l.self.bytes.now ≡ length l.fn.self.bytes.now;
    }
