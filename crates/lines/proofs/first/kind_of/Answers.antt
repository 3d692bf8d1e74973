use Rattle.std.proofs.Common.{nat_eq, sym, ap, ◌∙◌}
use Rattle.std.specs.Cmp.Lexicographic.{pointwise}
use Rattle.words.specs.Tokens.{shown, shown_bytes}
use Rattle.lines.proofs.Firsts.{kind_tested}
use Rattle.lines.proofs.first.kind_of.Goals as goal

pub returns-else-eq-2 : goal.returns-else-eq-2
returns-else-eq-2 c =
    kind_tested (shown c.args.word) c.in_ok-letters.letters.now c.place.result _ _
    (ap shown_bytes (sym c.in_ok-letters.ensures.ok_part) ∙ c.letters.ensures)
    c.place.ensures
    (sym c.if-eq.false ∙ c.eq.ensures ∙ ap (pointwise nat_eq c.in_ok-letters.letters.now) c.as_slice.ensures)
    (sym c.if-eq-2.false ∙ c.eq-else-eq.ensures ∙ ap (pointwise nat_eq c.in_ok-letters.letters.now) c.as_slice-else-eq.ensures)
