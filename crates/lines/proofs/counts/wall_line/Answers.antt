use Rattle.std.proofs.Common.{sym, ap, ◌∙◌}
use Rattle.std.proofs.lemmas.Result.{err_from_is_err_and}
use Rattle.level_theory.specs.Levels.{form_of}
use Rattle.words.specs.Cursors.{words_left}
use Rattle.written.specs.Wants.{wall_wants}
use Rattle.words.proofs.Parts.{whole, take_part}
use Rattle.lines.proofs.counts.wall_line.Goals as goal

pub returns-in_err-wall-clause-taken : goal.returns-in_err-wall-clause-taken
returns-in_err-wall-clause-taken g c =
    let p = err_from_is_err_and c.from_residual.result c.from_residual.ensures.1 in
    rw (p.1, p.2) (ap whole c.in_err-wall.ensures ∙ sym (take_part (wall_wants (form_of g.K.Written.kind)) (words_left c.args.words.now) c.args.words.now.place))
