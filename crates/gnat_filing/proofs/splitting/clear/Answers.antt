use Rattle.std.proofs.Common.{[], arith}
use Rattle.gnat_rows.proofs.Only.{only_none}
use Rattle.gnat_filing.proofs.Clearing.{clears_more}
use Rattle.gnat_filing.proofs.splitting.clear.Goals as goal

pub loop-pivot-init : goal.loop-pivot-init
loop-pivot-init g c = record { cleared = λ k l. absurd (omega arith); only = only_none c.args.rows.now [] }

pub loop-pivot-preserved : goal.loop-pivot-preserved
loop-pivot-preserved g c =
    let j = c.loop-pivot.pivot-index in
    clears_more c.args.rows.now c.loop-pivot.rows c.put_node.new.rows c.put_marked.new.rows c.args.pivots.now j c.loop-pivot-test.true (omega (arith, c.requires j c.loop-pivot-test.true, c.loop-pivot.auto.rows)) c.put_node.ensures c.put_marked.ensures c.loop-pivot.invariant
