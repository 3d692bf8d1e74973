use Rattle.std.proofs.Common.{[], get_or}
use Rattle.links.proofs.Resolving.{SoFar}
use Rattle.links.proofs.Records.resolve_one.Given as goal

abbrev pub invariant-loop-elder : goal.invariant-loop-elder
invariant-loop-elder l =
    SoFar l.self.all.now (get_or l.self.all.now l.at (record { number = 0; count = 0; elders = [] })) l.initial.edges l.made l.edges l.all l.elder-index
