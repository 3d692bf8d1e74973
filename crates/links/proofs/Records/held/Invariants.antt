use Rattle.std.proofs.Common.{◌≡◌, take}
use Rattle.links.specs.Records.{held}
use Rattle.links.proofs.Records.held.Given as goal

abbrev pub invariant-loop-record : goal.invariant-loop-record
invariant-loop-record l = l.all ≡ held (take l.record-index l.self.all.now)
