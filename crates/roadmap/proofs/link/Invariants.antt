use Rattle.roadmap.proofs.Linking.{SoFar}
use Rattle.roadmap.proofs.link.Given as goal

abbrev pub invariant-loop-hit : goal.invariant-loop-hit
invariant-loop-hit g l = SoFar (g.C.Checker.passes l.checker) l.e (g.I.Index.meaning l.index) l.number l.hits l.hit-index l.own l.count
