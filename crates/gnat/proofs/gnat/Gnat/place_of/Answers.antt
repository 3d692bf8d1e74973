use Rattle.gnat.specs.Gnats.{state_of}
use Rattle.gnat.specs.Lawful.{in_rows, listed_within}
use Rattle.gnat.proofs.Calls.{standing_rise}
use Rattle.gnat.proofs.Laid.{laid_out}
use Rattle.gnat.proofs.gnat.Gnat.place_of.Goals as goal

pub find-requires : goal.find-requires
find-requires g c =
    let s = state_of c.args.self.now in
    let o = c.args.self.now.sound in
    record { fits = in_rows s o.few o.within; within = listed_within s o.few o.within; rise = standing_rise g.E.Metric.dist s (laid_out g.E.Metric.dist s o) }
