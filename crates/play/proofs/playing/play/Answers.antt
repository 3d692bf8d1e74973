use Rattle.std.proofs.Common.{sym, ap, ◌∙◌}
use Rattle.std.proofs.lemmas.Result.{err_from_is_err_and}
use Rattle.index.specs.Outcomes.{gives}
use Rattle.level.specs.Levels.{any_shown, level_shown}
use Rattle.level_theory.specs.Levels.{arms, cards}
use Rattle.written.specs.Arms.{arm_numbers, wall_numbers}
use Rattle.written.specs.Cards as cards_written
use Rattle.play.proofs.Told.{told_faulty, told_played, told_whole, reading_fits, playing_fits}
use Rattle.play.proofs.playing.play.Goals as goal

pub returns-in_err-level : goal.returns-in_err-level
returns-in_err-level c =
    let p = err_from_is_err_and c.from_residual.result c.from_residual.ensures.1 in
    let t = told_faulty c.args.bytes.now c.args.out.now _ _ c.in_err-level.ensures in
    rw (p.1, p.2) record { answered = t.0; accepted = t.1.0; refused = t.1.1; alike = t.1.2; room = reading_fits c.args.bytes.now c.in_err-level.field-0.0 c.in_err-level.ensures }

pub returns-in_err-play_arms-in-Arms : goal.returns-in_err-play_arms-in-Arms
returns-in_err-play_arms-in-Arms c =
    let p = err_from_is_err_and c.from_residual-in_err-play_arms-in-Arms.result c.from_residual-in_err-play_arms-in-Arms.ensures.1 in
    let t = told_played c.args.bytes.now c.args.out.now (level_shown arms arm_numbers wall_numbers c.in-Arms.level) _ _ _ (ap (λ l. gives (any_shown l)) (sym c.in-Arms.is) ∙ c.in_ok-level.ensures) c.in_err-play_arms-in-Arms.ensures.answered in
    rw (p.1, p.2) record { answered = t.0; accepted = t.1.0; refused = t.1.1; alike = t.1.2; room = playing_fits arms arm_numbers wall_numbers c.in-Arms.level c.args.out.now c.in_err-play_arms-in-Arms.field-0.0 _ _ c.in_err-play_arms-in-Arms.ensures.few c.in_err-play_arms-in-Arms.ensures.answered }

pub returns-in_ok-play_arms-in-Arms : goal.returns-in_ok-play_arms-in-Arms
returns-in_ok-play_arms-in-Arms c =
    let t = told_whole c.args.bytes.now c.args.out.now (level_shown arms arm_numbers wall_numbers c.in-Arms.level) _ _ (ap (λ l. gives (any_shown l)) (sym c.in-Arms.is) ∙ c.in_ok-level.ensures) c.in_ok-play_arms-in-Arms.ensures.answered in
    record { answered = t.0; accepted = t.1.0; refused = t.1.1; alike = t.1.2; room = tt }

pub returns-in_err-play_cards-in-Cards : goal.returns-in_err-play_cards-in-Cards
returns-in_err-play_cards-in-Cards c =
    let p = err_from_is_err_and c.from_residual-in_err-play_cards-in-Cards.result c.from_residual-in_err-play_cards-in-Cards.ensures.1 in
    let t = told_played c.args.bytes.now c.args.out.now (level_shown cards cards_written.card_numbers cards_written.wall_numbers c.in-Cards.level) _ _ _ (ap (λ l. gives (any_shown l)) (sym c.in-Cards.is) ∙ c.in_ok-level.ensures) c.in_err-play_cards-in-Cards.ensures.answered in
    rw (p.1, p.2) record { answered = t.0; accepted = t.1.0; refused = t.1.1; alike = t.1.2; room = playing_fits cards cards_written.card_numbers cards_written.wall_numbers c.in-Cards.level c.args.out.now c.in_err-play_cards-in-Cards.field-0.0 _ _ c.in_err-play_cards-in-Cards.ensures.few c.in_err-play_cards-in-Cards.ensures.answered }

pub returns-in_ok-play_cards-in-Cards : goal.returns-in_ok-play_cards-in-Cards
returns-in_ok-play_cards-in-Cards c =
    let t = told_whole c.args.bytes.now c.args.out.now (level_shown cards cards_written.card_numbers cards_written.wall_numbers c.in-Cards.level) _ _ (ap (λ l. gives (any_shown l)) (sym c.in-Cards.is) ∙ c.in_ok-level.ensures) c.in_ok-play_cards-in-Cards.ensures.answered in
    record { answered = t.0; accepted = t.1.0; refused = t.1.1; alike = t.1.2; room = tt }
