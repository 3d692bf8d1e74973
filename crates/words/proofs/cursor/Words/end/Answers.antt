use Rattle.std.proofs.Common.{ap, sym, ◌∙◌}
use Rattle.words.specs.Cursors.{end_of}
use Rattle.words.specs.Rests.{words_in}
use Rattle.words.proofs.Splits.{split_end}
use Rattle.words.proofs.cursor.Words.end.Goals as goal

pub returns-in-Some : goal.returns-in-Some
returns-in-Some c = split_end 32 c.in-Some.field-0.now c.args.self.now.place ∙ ap (λ r. end_of (words_in r) c.args.self.now.place) (sym c.in-Some.is)
