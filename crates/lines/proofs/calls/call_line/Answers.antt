use Rattle.std.proofs.Common.{◌∙◌}
use Rattle.std.proofs.lemmas.Result.{err_from_is_err_and}
use Rattle.level_theory.specs.Levels.{form_of}
use Rattle.words.specs.Cursors.{words_left}
use Rattle.lines.specs.Calls.{named, call_numbers}
use Rattle.lines.proofs.Ends.{call_read, call_gives, call_surplus}
use Rattle.lines.proofs.calls.call_line.Goals as goal

pub returns-in_err-call-clause-told : goal.returns-in_err-call-clause-told
returns-in_err-call-clause-told g c line =
    let p = err_from_is_err_and c.from_residual.result c.from_residual.ensures.1 in
    rw (p.1, p.2) (call_read (form_of g.K.Written.kind) (words_left c.args.words.now) c.args.words.now.place _ c.sole_letter-letter.result (words_left c.next.new.self) c.next.new.self.place _ c.requires c.sole_letter-letter.ensures c.next.ensures.token c.next.ensures.left c.next.ensures.place c.in_err-call.ensures.taken line)

pub returns-in_err-end-clause-told : goal.returns-in_err-end-clause-told
returns-in_err-end-clause-told g c line =
    let p = err_from_is_err_and c.from_residual-in_err-end.result c.from_residual-in_err-end.ensures.1 in
    rw (p.1, p.2)
    (call_surplus (call_numbers g.K.Written.listed c.in_ok-call.call) line (named c.sole_letter-letter.result) _ _ c.in_err-end.field-0.0 c.in_err-end.ensures
    ∙ call_read (form_of g.K.Written.kind) (words_left c.args.words.now) c.args.words.now.place _ c.sole_letter-letter.result (words_left c.next.new.self) c.next.new.self.place _ c.requires c.sole_letter-letter.ensures c.next.ensures.token c.next.ensures.left c.next.ensures.place c.in_ok-call.ensures.taken line)

pub returns-clause-told : goal.returns-clause-told
returns-clause-told g c line =
    call_gives g.K.Written.listed c.in_ok-call.call line (named c.sole_letter-letter.result) _ _ c.in_ok-call.ensures.called c.in_ok-end.ensures
    ∙ call_read (form_of g.K.Written.kind) (words_left c.args.words.now) c.args.words.now.place _ c.sole_letter-letter.result (words_left c.next.new.self) c.next.new.self.place _ c.requires c.sole_letter-letter.ensures c.next.ensures.token c.next.ensures.left c.next.ensures.place c.in_ok-call.ensures.taken line
