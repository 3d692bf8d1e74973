use Rattle.std.proofs.Common.{◌≡◌, ◌<◌, length, sym, ◌∙◌, subst}
use Rattle.gnat_rows.specs.Rows.{HasRow}
use Rattle.gnat_order.proofs.Places.{place_of}
use Rattle.gnat_order.proofs.number_at.Goals as goal

pub number_in-requires : goal.number_in-requires
number_in-requires g c =
    let rows = c.args.rows.now in
    let p = c.place_in-row.ensures in
    let same = place_of rows c.args.at p.0 p.1 ∙ sym p.2 in
    subst (λ k. k < length rows) same c.requires.1

pub returns : goal.returns
returns g c =
    let rows = c.args.rows.now in
    let p = c.place_in-row.ensures in
    let same = place_of rows c.args.at p.0 p.1 ∙ sym p.2 in
    subst (λ k. HasRow rows k (λ row. c.number_in.result ≡ row.number)) (sym same) c.number_in.ensures
