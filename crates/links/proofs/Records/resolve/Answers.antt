use Rattle.std.proofs.Common.{[], refl, ◌∙◌, arith}
use Rattle.links.proofs.Resolving.{none_resolved, one_resolved, all_resolved, drop_less}
use Rattle.links.proofs.Records.resolve.Goals as goal

pub loop-at-init : goal.loop-at-init
loop-at-init c = (none_resolved c.args.self.now.all.now c.args.edges.now, refl)

pub loop-at-preserved : goal.loop-at-preserved
loop-at-preserved c =
    let o = c.resolve_one-made.ensures in (
      one_resolved c.args.self.now.all.now c.loop-at.at c.loop-at.edges c.resolve_one-made.new.edges c.loop-at.made c.resolve_one-made.result (record { number = 0; count = 0; elders = [] }) c.loop-at-test.true c.loop-at.invariant.0 o.made,
      o.rest ∙ drop_less c.loop-at.made c.resolve_one-made.result c.loop-at.edges c.args.edges.now o.low c.loop-at.invariant.1,
    )

pub resolve_one-made-requires : goal.resolve_one-made-requires
resolve_one-made-requires c =
    let k = c.loop-at.auto.edges in
    record { inside = (c.loop-at-test.true, c.loop-at.invariant.0.fits); room = omega (arith, c.requires) }

pub returns-clause-resolved : goal.returns-clause-resolved
returns-clause-resolved c = all_resolved c.args.self.now.all.now c.loop-at.at c.loop-at.edges c.loop-at.made c.loop-at-test.false c.loop-at.auto.at-end c.loop-at.invariant.0
