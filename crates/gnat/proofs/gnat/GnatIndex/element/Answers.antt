use Rattle.std.proofs.Common.{◌≡◌, get_or, Some, sym, ap, ◌∙◌, arith}
use Rattle.std.specs.List.{slice_get}
use Rattle.std.proofs.lemmas.Result.{err_from_is_err_and}
use Rattle.index.proofs.Outcomes.{call_absent, call_standing}
use Rattle.gnat_rows.proofs.Changes.{same_row}
use Rattle.gnat_order.specs.Order.{places}
use Rattle.gnat_order.proofs.Places.{place_of}
use Rattle.gnat.specs.States.{meaning_of}
use Rattle.gnat.proofs.Calls.{found_element}
use Rattle.gnat.proofs.Taking.{row_within}
use Rattle.gnat.specs.Gnats.{state_of}
use Rattle.gnat.proofs.Laid.{laid_out}
use Rattle.gnat.proofs.gnat.GnatIndex.element.Goals as goal

pub element_in-requires : goal.element_in-requires
element_in-requires g c =
    let s = state_of c.args.self.now in
    let rows = s.rows in
    let at = c.in_ok-at.at in
    let here = c.in_ok-at.ensures.ok in
    let same : c.row_at.result ≡ get_or (places rows) at 0 = c.row_at.ensures.2 ∙ sym (place_of rows at c.row_at.ensures.0 c.row_at.ensures.1) in
    omega (arith, same, row_within g.E.Metric.dist s (laid_out g.E.Metric.dist s c.args.self.now.sound) at here.0)

pub returns : goal.returns
returns g c =
    let s = state_of c.args.self.now in
    let rows = s.rows in
    let at = c.in_ok-at.at in
    let here = c.in_ok-at.ensures.ok in
    let same : c.row_at.result ≡ get_or (places rows) at 0 = c.row_at.ensures.2 ∙ sym (place_of rows at c.row_at.ensures.0 c.row_at.ensures.1) in
    let r = here.1 in
    let one : r.0 ≡ c.element_in.ensures.0 = same_row rows (get_or (places rows) at 0) r.0 c.element_in.ensures.0 r.1 (ap (slice_get rows) (sym same) ∙ c.element_in.ensures.1) in
    let stands = found_element g.E.Metric.dist s (laid_out g.E.Metric.dist s c.args.self.now.sound) c.args.number at here.0 r.0 r.1 r.2 in
    call_standing (meaning_of s) c.args.number (λ x. x) c.element_in.result (stands ∙ ap Some (ap (λ z. z.element) one ∙ sym c.element_in.ensures.2))

pub returns-in_err-at : goal.returns-in_err-at
returns-in_err-at g c =
    let p = err_from_is_err_and c.from_residual.result c.from_residual.ensures.1 in
    let said = c.in_err-at.ensures.err in
    rw (p.1, p.2, said.0) (call_absent (meaning_of (state_of c.args.self.now)) c.args.number (λ x. x) said.1)
