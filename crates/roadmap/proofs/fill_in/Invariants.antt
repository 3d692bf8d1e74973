use Rattle.std.proofs.Common.{◌+◌}
use Rattle.roadmap.proofs.Filling.{Filling}
use Rattle.roadmap.proofs.fill_in.Given as goal

abbrev pub invariant-loop-before : goal.invariant-loop-before
invariant-loop-before g l = Filling (g.I.Index.meaning l.index) (l.before + 1) l.used l.links
