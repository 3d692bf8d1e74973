use Rattle.std.proofs.Common.{◌≡◌, ◌+◌, ◌≤◌, [], ◌∷◌, ◌++◌, length, get_or, take, decimal, Some, refl, ap, ◌∙◌, arith, le-leb, length-append}
use Rattle.printing.specs.Outputs.{written, word_line}
use Rattle.printing.proofs.Bytes.{more_written}
use Rattle.printing.proofs.Words.{tail_of, line_len, text_more, text_len, text_whole}
use Rattle.printing.proofs.Output.put_line.Goals as goal

pub put-requires : goal.put-requires
put-requires c = omega (arith, line_len c.args.word.now c.args.numbers.now)

pub put_number-requires : goal.put_number-requires
put_number-requires c = omega (arith, text_len c.args.word.now c.args.numbers.now c.loop-n.n-index c.loop-n-test.true)

pub loop-n-preserved : goal.loop-n-preserved
loop-n-preserved c =
    let more = text_more c.args.word.now c.args.numbers.now c.loop-n.n-index c.loop-n-test.true in
    let room = text_len c.args.word.now c.args.numbers.now c.loop-n.n-index c.loop-n-test.true in
    let fits : c.args.self.now.len + length (word_line c.args.word.now c.args.numbers.now) ≤ length c.args.self.now.bytes.now = omega arith in
    record {
      same_reference = c.put_number.ensures.same_reference ∙ c.loop-n.invariant.same_reference;
      len = omega (arith, ap length more, length-append (c.args.word.now ++ tail_of (take c.loop-n.n-index c.args.numbers.now)) (32 ∷ decimal (get_or c.args.numbers.now c.loop-n.n-index 0)));
      after = c.put_number.ensures.after ∙ (more_written c.args.self.now.bytes.now c.loop-n.self.bytes.now _ _ c.args.self.now.len c.loop-n.self.len (omega arith) c.loop-n.invariant.len c.loop-n.invariant.after ∙ ap (written c.args.self.now.bytes.now c.args.self.now.len) more);
      places = c.put_number.ensures.places ∙ c.loop-n.invariant.places;
    }

pub put-requires-2 : goal.put-requires-2
put-requires-2 c =
    let text = c.args.word.now ++ tail_of (take c.loop-n.n-index c.args.numbers.now) in
    let whole = text_whole c.args.word.now c.args.numbers.now c.loop-n.n-index c.loop-n-test.false in
    omega (arith, ap length whole, length-append text (10 ∷ []))

pub returns : goal.returns
returns c =
    let text = c.args.word.now ++ tail_of (take c.loop-n.n-index c.args.numbers.now) in
    let whole = text_whole c.args.word.now c.args.numbers.now c.loop-n.n-index c.loop-n-test.false in
    let long : length text + 1 ≡ length (word_line c.args.word.now c.args.numbers.now) = omega (arith, ap length whole, length-append text (10 ∷ [])) in
    let fits : c.args.self.now.len + length (word_line c.args.word.now c.args.numbers.now) ≤ length c.args.self.now.bytes.now = omega arith in
    let end : c.put-2.new.self.len ≡ c.args.self.now.len + length (word_line c.args.word.now c.args.numbers.now) = omega arith in
    record {
      same_reference = c.put-2.ensures.same_reference ∙ c.loop-n.invariant.same_reference;
      answer = rw (le-leb _ _ fits) (ap Some end);
      len = refl;
      leaves = rw (le-leb _ _ fits) (c.put-2.ensures.after ∙ (more_written c.args.self.now.bytes.now c.loop-n.self.bytes.now text (10 ∷ []) c.args.self.now.len c.loop-n.self.len (omega arith) c.loop-n.invariant.len c.loop-n.invariant.after ∙ ap (written c.args.self.now.bytes.now c.args.self.now.len) whole));
    }
