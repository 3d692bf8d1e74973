use Rattle.std.proofs.Common.{refl, arith}
use Rattle.gnat_search.proofs.Visiting.{none_pending, root_visited, next_within, next_shown, next_pause, next_less, search_ends}
use Rattle.gnat_search.proofs.search.Goals as goal

pub loop-at-init : goal.loop-at-init
loop-at-init g c =
    root_visited c.args.rows.now g.E.Metric.dist c.args.q.now c.args.aim c.args.root.now c.args.list.now _ (refl, (refl, refl)) c.requires c.new-pending.result.items c.visit-so_far.new.pending.items c.visit-so_far.new.list c.visit-so_far.result c.new-pending.ensures c.visit-so_far.ensures.counts c.visit-so_far.ensures.keeps

pub offset_bounds-rows-at : goal.offset_bounds-rows-at
offset_bounds-rows-at g c = omega (arith, next_within c.args.rows.now g.E.Metric.dist c.args.q.now c.args.aim c.args.root.now c.args.list.now c.loop-at.list c.loop-at.so_far c.loop-at.pending.items c.pop.new.self.items c.in-Some.at c.in-Some.ensures.items c.loop-at.invariant)

pub bounds-rows-at : goal.bounds-rows-at
bounds-rows-at g c = next_within c.args.rows.now g.E.Metric.dist c.args.q.now c.args.aim c.args.root.now c.args.list.now c.loop-at.list c.loop-at.so_far c.loop-at.pending.items c.pop.new.self.items c.in-Some.at c.in-Some.ensures.items c.loop-at.invariant

pub visit-so_far-requires-in-Some-clause-shown : goal.visit-so_far-requires-in-Some-clause-shown
visit-so_far-requires-in-Some-clause-shown g c = next_shown c.args.rows.now g.E.Metric.dist c.args.q.now c.args.aim c.args.root.now c.args.list.now c.loop-at.list c.loop-at.so_far c.loop-at.pending.items c.pop.new.self.items c.in-Some.at c.in-Some.ensures.items c.loop-at.invariant c.index-rows-at.result

pub loop-at-smaller : goal.loop-at-smaller
loop-at-smaller g c =
    next_less c.args.rows.now g.E.Metric.dist c.args.q.now c.args.aim c.args.root.now c.args.list.now c.loop-at.list c.loop-at.so_far c.loop-at.pending.items c.pop.new.self.items c.in-Some.at c.in-Some.ensures.items c.loop-at.invariant c.index-rows-at.result c.visit-so_far-in-Some.new.pending.items c.visit-so_far-in-Some.new.list c.visit-so_far-in-Some.result
    c.visit-so_far-in-Some.ensures.counts c.visit-so_far-in-Some.ensures.keeps

pub loop-at-preserved : goal.loop-at-preserved
loop-at-preserved g c =
    next_pause c.args.rows.now g.E.Metric.dist c.args.q.now c.args.aim c.args.root.now c.args.list.now c.loop-at.list c.loop-at.so_far c.loop-at.pending.items c.pop.new.self.items c.in-Some.at c.in-Some.ensures.items c.loop-at.invariant c.index-rows-at.result c.visit-so_far-in-Some.new.pending.items c.visit-so_far-in-Some.new.list c.visit-so_far-in-Some.result
    c.visit-so_far-in-Some.ensures.counts c.visit-so_far-in-Some.ensures.keeps

pub returns : goal.returns
returns g c =
    search_ends c.args.rows.now g.E.Metric.dist c.args.q.now c.args.aim c.args.root.now c.args.list.now c.loop-at.list c.loop-at.so_far c.loop-at.pending.items (none_pending c.loop-at.pending.items c.pop.result c.pop.ensures.variant.1 c.in_default.not-Some) c.loop-at.invariant
