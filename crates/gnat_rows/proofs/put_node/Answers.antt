use Rattle.gnat_rows.proofs.Changes.{changed_is_set}
use Rattle.gnat_rows.proofs.put_node.Goals as goal

pub returns : goal.returns
returns g c = changed_is_set c.args.rows.now c.args.at c.index-rows-at.result (λ r. record { element = r.element; number = r.number; marked = r.marked; place = r.place; node = c.args.node }) c.requires
