use Rattle.std.proofs.Common.{sym, ap, ◌∙◌}
use Rattle.std.proofs.lemmas.Result.{err_from_is_err_and}
use Rattle.level_theory.specs.Reading.{header_level}
use Rattle.lines.specs.Settings.{header_numbers}
use Rattle.lines.specs.Headers.{kind_shown}
use Rattle.level.specs.Readers.{level_read}
use Rattle.level.specs.Stages.{stage_shown}
use Rattle.level.proofs.Files.{reading_long, no_line, header_stops, header_goes}
use Rattle.level.proofs.reading.read.Goals as goal

pub returns-then-bytes-gt65536 : goal.returns-then-bytes-gt65536
returns-then-bytes-gt65536 c = reading_long c.args.bytes.now c.if-bytes-gt65536.true

pub returns-in_default : goal.returns-in_default
returns-in_default c = no_line c.args.bytes.now c.if-bytes-gt65536.false c.in_default.ensures

pub returns-in_err-kind : goal.returns-in_err-kind
returns-in_err-kind c =
    let p = err_from_is_err_and c.from_residual.result c.from_residual.ensures.1 in
    rw (p.1, p.2) (header_stops c.args.bytes.now c.if-bytes-gt65536.false c.in-Some.line.now c.in-Some.rest.now c.in-Some.ensures.0 _ _ c.in_err-kind.ensures)

pub returns-in_err-read_rest-in-Arms : goal.returns-in_err-read_rest-in-Arms
returns-in_err-read_rest-in-Arms c =
    let p = err_from_is_err_and c.from_residual-in_err-read_rest-in-Arms.result c.from_residual-in_err-read_rest-in-Arms.ensures.1 in
    rw (p.1, p.2) (c.in_err-read_rest-in-Arms.ensures.told ∙ header_goes c.args.bytes.now c.if-bytes-gt65536.false c.in-Some.line.now c.in-Some.rest.now c.in-Some.ensures.0 (header_level (kind_shown c.in_ok-kind.kind) (header_numbers c.in_ok-kind.header)) (stage_shown c.start-reader.result.stage) (level_read c.start-reader.result) c.in_ok-kind.ensures (ap stage_shown c.start-reader.ensures.stage) (c.start-reader.ensures.level ∙ ap (λ k. header_level (kind_shown k) (header_numbers c.in_ok-kind.header)) (sym c.in-Arms.is)))

pub returns-in_ok-read_rest-in-Arms : goal.returns-in_ok-read_rest-in-Arms
returns-in_ok-read_rest-in-Arms c = c.in_ok-read_rest-in-Arms.ensures.told ∙ header_goes c.args.bytes.now c.if-bytes-gt65536.false c.in-Some.line.now c.in-Some.rest.now c.in-Some.ensures.0 (header_level (kind_shown c.in_ok-kind.kind) (header_numbers c.in_ok-kind.header)) (stage_shown c.start-reader.result.stage) (level_read c.start-reader.result) c.in_ok-kind.ensures (ap stage_shown c.start-reader.ensures.stage) (c.start-reader.ensures.level ∙ ap (λ k. header_level (kind_shown k) (header_numbers c.in_ok-kind.header)) (sym c.in-Arms.is))

pub returns-in_err-read_rest-in-Cards : goal.returns-in_err-read_rest-in-Cards
returns-in_err-read_rest-in-Cards c =
    let p = err_from_is_err_and c.from_residual-in_err-read_rest-in-Cards.result c.from_residual-in_err-read_rest-in-Cards.ensures.1 in
    rw (p.1, p.2) (c.in_err-read_rest-in-Cards.ensures.told ∙ header_goes c.args.bytes.now c.if-bytes-gt65536.false c.in-Some.line.now c.in-Some.rest.now c.in-Some.ensures.0 (header_level (kind_shown c.in_ok-kind.kind) (header_numbers c.in_ok-kind.header)) (stage_shown c.start-reader-in-Cards.result.stage) (level_read c.start-reader-in-Cards.result) c.in_ok-kind.ensures (ap stage_shown c.start-reader-in-Cards.ensures.stage) (c.start-reader-in-Cards.ensures.level ∙ ap (λ k. header_level (kind_shown k) (header_numbers c.in_ok-kind.header)) (sym c.in-Cards.is)))

pub returns-in_ok-read_rest-in-Cards : goal.returns-in_ok-read_rest-in-Cards
returns-in_ok-read_rest-in-Cards c = c.in_ok-read_rest-in-Cards.ensures.told ∙ header_goes c.args.bytes.now c.if-bytes-gt65536.false c.in-Some.line.now c.in-Some.rest.now c.in-Some.ensures.0 (header_level (kind_shown c.in_ok-kind.kind) (header_numbers c.in_ok-kind.header)) (stage_shown c.start-reader-in-Cards.result.stage) (level_read c.start-reader-in-Cards.result) c.in_ok-kind.ensures (ap stage_shown c.start-reader-in-Cards.ensures.stage) (c.start-reader-in-Cards.ensures.level ∙ ap (λ k. header_level (kind_shown k) (header_numbers c.in_ok-kind.header)) (sym c.in-Cards.is))
