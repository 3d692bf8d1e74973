use Rattle.std.proofs.Common.{sym, ◌∙◌}
use Rattle.std.proofs.lemmas.Result.{err_from_is_err_and}
use Rattle.words.specs.Tokens.{shown}
use Rattle.words.specs.Cursors.{words_left}
use Rattle.words.proofs.Numbers.{number_fits}
use Rattle.words.proofs.Parts.{token_lacks, number_from}
use Rattle.words.proofs.cursor.Words.number.Goals as goal

pub returns-in_err-digits-clause-taken : goal.returns-in_err-digits-clause-taken
returns-in_err-digits-clause-taken c =
    let p = err_from_is_err_and c.from_residual.result c.from_residual.ensures.1 in
    rw (p.1, p.2)
    (token_lacks c.args.limit (shown c.next-word.result) _ _ c.digits.result (record { 0 = c.place.result }) _ c.digits.ensures c.place.ensures (sym c.ok_or.ensures.value ∙ c.in_err-digits.was)
    ∙ number_from c.args.limit (words_left c.args.self.now) c.args.self.now.place (shown c.next-word.result) _ _ c.next-word.ensures.token c.next-word.ensures.left c.next-word.ensures.place)

pub returns-clause-most : goal.returns-clause-most
returns-clause-most c = rw c.ok_or-2.ensures.value (number_fits c.args.limit c.in_ok-digits.digits.now c.value_of.result _ c.value_of.ensures)
