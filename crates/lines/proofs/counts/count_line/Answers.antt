use Rattle.std.proofs.Common.{[], ◌∷◌, sym, ap, ◌∙◌}
use Rattle.std.proofs.lemmas.Result.{err_from_is_err_and}
use Rattle.level_theory.specs.Words.{a_number}
use Rattle.words.specs.Tokens.{shown, shown_bytes}
use Rattle.words.specs.Cursors.{words_left}
use Rattle.lines.proofs.Firsts.{lacks_name, other_name, differ}
use Rattle.lines.proofs.counts.count_line.Goals as goal

pub returns-in_err-letters-clause-taken : goal.returns-in_err-letters-clause-taken
returns-in_err-letters-clause-taken c =
    let p = err_from_is_err_and c.from_residual.result c.from_residual.ensures.1 in
    rw (p.1, p.2) (lacks_name c.args.name.now (a_number c.args.most ∷ []) (words_left c.args.words.now) c.args.words.now.place (shown c.next-word.result) c.letters.result (record { 0 = c.place.result }) _ c.requires.some c.requires.letters c.next-word.ensures.token c.letters.ensures c.place.ensures (sym c.ok_or.ensures.value ∙ c.in_err-letters.was))

pub returns-then-ne-clause-taken : goal.returns-then-ne-clause-taken
returns-then-ne-clause-taken c = other_name c.args.name.now (a_number c.args.most ∷ []) (words_left c.args.words.now) c.args.words.now.place (shown c.next-word.result) c.in_ok-letters.letters.now c.place.result c.next-word.ensures.token (ap shown_bytes (sym c.in_ok-letters.ensures.ok_part) ∙ c.letters.ensures) c.place.ensures (differ c.in_ok-letters.letters.now c.args.name.now c.ne.result c.ne.ensures c.if-ne.true)
