use Rattle.std.proofs.Common.{false, set, ap, ◌∙◌}
use Rattle.gnat_rows.specs.declared.Row.{Row}
use Rattle.gnat_rows.proofs.Changes.{changed_is_set}
use Rattle.gnat_rows.proofs.put_sample.Goals as goal

pub returns : goal.returns
returns g c =
    let rows = c.args.rows.now in
    let at = c.args.at in
    let put : Row _ → Row _ = λ r. record { element = c.args.element; number = c.args.number; marked = false; place = r.place; node = r.node } in
    ap (λ r. set rows at (put r)) c.index-rows-at.is ∙ changed_is_set rows at c.index-rows-at.result put c.requires
