use Rattle.std.proofs.Common.{sym}
use Rattle.gnat.specs.Gnats.{state_of}
use Rattle.gnat.specs.Lawful.{standing_count}
use Rattle.gnat.proofs.gnat.GnatIndex.tally.Goals as goal

pub returns : goal.returns
returns g c =
    let s = state_of c.args.self.now in
    let o = c.args.self.now.sound in
    λ i. (c.capacity.ensures i, sym (standing_count s o.few o.within) i, s.last)
