use Rattle.std.proofs.Common.{◌≡◌, length, take}
use Rattle.roadmap.specs.Roadmaps.{road_of}
use Rattle.history.specs.Turns.{Ran, lent}
use Rattle.history.proofs.run.Given as goal

abbrev pub invariant-loop-i : goal.invariant-loop-i
invariant-loop-i g l = (length l.calls ≡ length l.answers) × Ran g.I.Element.Metric.dist g.C.Checker.passes (road_of g.I.Index.meaning l.initial.road) (take l.i l.calls) (lent l.initial.list l.initial.numbers) (take l.i l.answers) (lent l.list l.numbers) (road_of g.I.Index.meaning l.road)
