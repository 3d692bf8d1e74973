use Rattle.std.proofs.Common.{◌≡◌, drop}
use Rattle.links.specs.Records.{Resolved}
use Rattle.links.proofs.Records.resolve.Given as goal

abbrev pub invariant-loop-at : goal.invariant-loop-at
invariant-loop-at l = Resolved l.self.all.now l.at l.edges l.made × (drop l.made l.edges ≡ drop l.made l.fn.edges)
