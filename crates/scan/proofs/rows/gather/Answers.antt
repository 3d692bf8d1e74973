use Rattle.std.proofs.Common.{◌+◌, arith}
use Rattle.scan.proofs.Gathering.{none_gathered, near_gathered, far_gathered, gathered_as, all_counted, all_written}
use Rattle.scan.proofs.rows.gather.Goals as goal
use Rattle.scan.proofs.rows.gather.Goals.{then-distance-radius, else-distance-radius}

pub overflow_add-found : goal.overflow_add-found
overflow_add-found g c = omega (arith, c.loop-row.invariant.few)

pub loop-row-init : goal.loop-row-init
loop-row-init g c = none_gathered g.E.Metric.dist c.args.q.now c.args.radius c.args.rows.now c.args.list.now

pub loop-row-preserved : goal.loop-row-preserved
loop-row-preserved g c =
    let dist = g.E.Metric.dist in
    let q = c.args.q.now in
    let r = c.args.radius in
    let rows = c.args.rows.now in
    let old = c.args.list.now in
    let i = c.loop-row.row-index in
    let found = c.loop-row.found in
    let held = c.loop-row.held in
    let list = c.loop-row.list in
    elim c.if-distance-radius.branch [
      | then-distance-radius w ↦ gathered_as dist q r rows (i + 1) _ _ _ _ _ _ old w.found-is w.held-is w.list-is
          (near_gathered dist q r rows i found held list old c.row-item.result c.loop-row-test.true c.row-item.is c.loop-row.invariant
          c.distance-distance.result w.place-held.result w.place-held.new.list c.distance-distance.ensures w.if-distance-radius.true w.place-held.ensures.kept w.place-held.ensures.after)
      | else-distance-radius w ↦ gathered_as dist q r rows (i + 1) _ _ _ _ _ _ old w.found-is w.held-is w.list-is
          (far_gathered dist q r rows i found held list old c.row-item.result c.loop-row-test.true c.row-item.is c.loop-row.invariant
          c.distance-distance.result c.distance-distance.ensures w.if-distance-radius.false)
    ]

pub returns : goal.returns
returns g c = record {
  count = all_counted g.E.Metric.dist c.args.q.now c.args.radius c.args.rows.now c.loop-row.row-index c.loop-row.found c.loop-row.held c.loop-row.list c.args.list.now c.loop-row-test.false c.loop-row.invariant;
  writes = all_written g.E.Metric.dist c.args.q.now c.args.radius c.args.rows.now c.loop-row.row-index c.loop-row.found c.loop-row.held c.loop-row.list c.args.list.now c.loop-row-test.false c.loop-row.invariant;
}
