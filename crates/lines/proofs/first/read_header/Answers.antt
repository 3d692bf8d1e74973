use Rattle.std.proofs.Common.{sym, ap, ◌∙◌}
use Rattle.std.proofs.lemmas.Result.{err_from_is_err_and}
use Rattle.index.specs.Outcomes.{number_of, figures_of}
use Rattle.level_theory.specs.Words.{words_of}
use Rattle.level_theory.specs.Levels.{header_outcome}
use Rattle.lines.specs.Faults.{at_line_of}
use Rattle.lines.specs.Settings.{header_numbers}
use Rattle.lines.specs.Headers.{kind_shown, asked_numbers, header_read}
use Rattle.lines.proofs.Ends.{header_carried, header_is, checked_gives, checked_refuses}
use Rattle.lines.proofs.first.read_header.Goals as goal

pub returns-in_err-header : goal.returns-in_err-header
returns-in_err-header c =
    let p = err_from_is_err_and c.from_residual-in_err-header.result c.from_residual-in_err-header.ensures.1 in
    rw (p.1, p.2)
    (checked_refuses (kind_shown c.in_ok-kind.kind) (header_outcome c.in_ok-kind.asked.degree c.in_ok-kind.asked.bucket c.in_ok-kind.asked.k) (number_of c.in_err-header.field-0.0) (figures_of c.in_err-header.field-0.0) (asked_numbers c.in_ok-kind.asked) c.in_err-header.ensures
    ∙ ap header_carried (c.in_ok-kind.ensures ∙ ap (at_line_of 1) (c.header_words.ensures ∙ ap (λ ws. header_read ws c.new-words.result.place) c.new-words.ensures.left ∙ ap (header_read (words_of c.args.line.now)) c.new-words.ensures.place))
    ∙ sym (header_is (words_of c.args.line.now)))

pub returns : goal.returns
returns c =
    checked_gives (kind_shown c.in_ok-kind.kind) (header_outcome c.in_ok-kind.asked.degree c.in_ok-kind.asked.bucket c.in_ok-kind.asked.k) (header_numbers c.in_ok-header.header) (asked_numbers c.in_ok-kind.asked) c.in_ok-header.ensures
    ∙ ap header_carried (c.in_ok-kind.ensures ∙ ap (at_line_of 1) (c.header_words.ensures ∙ ap (λ ws. header_read ws c.new-words.result.place) c.new-words.ensures.left ∙ ap (header_read (words_of c.args.line.now)) c.new-words.ensures.place))
    ∙ sym (header_is (words_of c.args.line.now))
