use Rattle.std.proofs.Common.{refl}
use Rattle.gnat.proofs.Laid.{sound_of}
use Rattle.gnat.proofs.States.{new_means, new_sound}
use Rattle.gnat.proofs.gnat.Gnat.new.Goals as goal

pub invariant_of-result : goal.invariant_of-result
invariant_of-result g c =
    let dist = g.E.Metric.dist in
    record { sound = sound_of dist _ (new_sound dist c.args.rows.now c.list_rows.new.rows c.min-capacity.result c.min-capacity.ensures c.list_rows.ensures _ refl refl refl refl refl) }

pub returns : goal.returns
returns g c =
    let rows = c.args.rows.now in
    let dist = g.E.Metric.dist in
    record {
      fresh = new_means dist rows c.list_rows.new.rows c.min-capacity.result c.min-capacity.ensures c.list_rows.ensures;
      tree = refl;
      settings = refl;
    }
