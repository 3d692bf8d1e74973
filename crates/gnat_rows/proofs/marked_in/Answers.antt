use Rattle.std.proofs.Common.{get_or, refl}
use Rattle.std.proofs.lemmas.Option.{slice_get-get_or}
use Rattle.gnat_rows.proofs.marked_in.Goals as goal

pub returns : goal.returns
returns g c =
    let rows = c.args.rows.now in
    let at = c.args.at in
    let d = c.index-rows-at.result in
    (get_or rows at d, slice_get-get_or rows at d c.requires, refl)
