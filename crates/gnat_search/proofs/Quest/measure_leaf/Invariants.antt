use Rattle.std.proofs.Common.{List, length, take}
use Rattle.hits.specs.Samples.{Sample}
use Rattle.gnat_theory.specs.Searching.{measure_all}
use Rattle.gnat_rows.specs.Shows.{HoldsSamples, held}
use Rattle.gnat_search.specs.Wants.{want, Counted, Steps}
use Rattle.gnat_search.proofs.Quest.measure_leaf.Given as goal

-- so many samples were measured
abbrev pub invariant-loop-i : goal.invariant-loop-i
invariant-loop-i g l =
    Counted l.initial.so_far l.so_far l.i
    × ((xs : List (Sample g.row.E.Denot)) → HoldsSamples l.self.rows.now (held l.leaf) xs → Steps (measure_all g.E.Metric.dist l.self.q.now (want l.self.aim (length l.initial.list)) (take l.i xs)) l.initial.list l.list l.initial.so_far l.so_far)
