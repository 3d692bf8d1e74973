use Rattle.std.proofs.Common.{sym, ap, ◌∙◌}
use Rattle.std.proofs.lemmas.Result.{err_from_is_err_and}
use Rattle.level_theory.specs.Words.{take_words}
use Rattle.level_theory.specs.Reading.{setting_wants}
use Rattle.words.specs.Cursors.{words_left, words_after, place_after}
use Rattle.lines.specs.Headers.{kind_named, settings_read, with_kind}
use Rattle.lines.proofs.Firsts.{header_by_word}
use Rattle.lines.proofs.first.header_words.Goals as goal

pub returns-in_err-kind : goal.returns-in_err-kind
returns-in_err-kind c =
    let p = err_from_is_err_and c.from_residual.result c.from_residual.ensures.1 in
    rw (p.1, p.2) (ap (λ k. with_kind k (settings_read (take_words setting_wants (words_after (words_left c.args.words.now)) (place_after (words_left c.args.words.now) c.args.words.now.place)))) (c.in_err-kind.ensures ∙ ap kind_named c.next.ensures.token) ∙ sym (header_by_word (words_left c.args.words.now) c.args.words.now.place))
