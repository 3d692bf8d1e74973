use Rattle.gnat_rows.proofs.Changes.{changed_is_set}
use Rattle.gnat_rows.proofs.put_marked.Goals as goal

pub returns : goal.returns
returns g c = changed_is_set c.args.rows.now c.args.at c.index-rows-at.result (λ r. record { element = r.element; number = r.number; marked = c.args.marked; place = r.place; node = r.node }) c.requires
