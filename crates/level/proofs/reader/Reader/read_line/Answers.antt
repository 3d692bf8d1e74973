use Rattle.std.proofs.Common.{sym, ap, ◌∙◌}
use Rattle.level_theory.specs.Reading.{read_line}
use Rattle.level_theory.specs.Words.{words_of}
use Rattle.level.specs.Readers.{level_read, line_read}
use Rattle.level.specs.Stages.{stage_shown}
use Rattle.level.proofs.Files.{line_at}
use Rattle.level.proofs.reader.Reader.read_line.Goals as goal

pub returns-in-End-clause-told : goal.returns-in-End-clause-told
returns-in-End-clause-told g c = ap (λ s. read_line (stage_shown s) c.args.number (level_read c.args.self.now) (words_of c.args.line.now)) (sym c.in-End.is)

pub returns-clause-told : goal.returns-clause-told
returns-clause-told g c =
    ap (λ r. line_read r c.take_line-taken.new.self) c.at_line.ensures
    ∙ line_at c.args.number c.take_line-taken.result c.take_line-taken.new.self
    ∙ c.take_line-taken.ensures.told c.args.number
    ∙ ap (read_line (stage_shown c.args.self.now.stage) c.args.number (level_read c.args.self.now)) c.new-words.ensures.left
