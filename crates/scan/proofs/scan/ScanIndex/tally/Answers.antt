use Rattle.std.proofs.Common.{sym}
use Rattle.scan.proofs.States.{standing_count}
use Rattle.scan.proofs.scan.ScanIndex.tally.Goals as goal

pub returns : goal.returns
returns g c =
    let s = c.args.self.now in
    λ i. (c.capacity.ensures i, sym (standing_count s) i, s.last)
