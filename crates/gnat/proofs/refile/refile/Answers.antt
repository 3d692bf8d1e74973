use Rattle.std.proofs.Common.{◌≡◌, suc, ◌+◌, take, subst, arith, rules}
use Rattle.gnat_order.specs.Order.{places}
use Rattle.gnat.specs.Refiling.{Refiled}
use Rattle.gnat.proofs.Rebuilding.{refiled_none, next_place, may_file, has_filed}
use Rattle.gnat.proofs.refile.refile.Goals as goal

-- src/refile.rt:23:5
pub loop-i-init : goal.loop-i-init
loop-i-init g c = refiled_none g.E.Metric.dist c.args.settings.degree c.args.settings.bucket c.args.rows.now (take c.args.standing (places c.args.rows.now))

-- src/refile.rt:25:9
pub file-root-requires : goal.file-root-requires
file-root-requires g c =
    let at = next_place g.E.Metric.dist c.args.settings.degree c.args.settings.bucket c.args.rows.now c.args.standing c.args.settings.two c.args.settings.room c.requires.fits c.requires.within c.requires.apart c.loop-i.i (omega (arith, c.loop-i-test.true)) c.loop-i.rows c.loop-i.root c.loop-i.invariant c.place_in-at.result c.place_in-at.ensures.0 c.place_in-at.ensures.1 c.place_in-at.ensures.2 in
    (_, _, may_file g.E.Metric.dist c.args.settings.degree c.args.settings.bucket c.args.rows.now c.args.standing c.args.settings.two c.args.settings.room c.requires.fits c.requires.within c.requires.apart c.loop-i.i (omega (arith, c.loop-i-test.true)) c.loop-i.rows c.loop-i.root c.loop-i.invariant c.place_in-at.result at)

-- src/refile.rt:23:5
pub loop-i-preserved : goal.loop-i-preserved
loop-i-preserved g c =
    let at = next_place g.E.Metric.dist c.args.settings.degree c.args.settings.bucket c.args.rows.now c.args.standing c.args.settings.two c.args.settings.room c.requires.fits c.requires.within c.requires.apart c.loop-i.i (omega (arith, c.loop-i-test.true)) c.loop-i.rows c.loop-i.root c.loop-i.invariant c.place_in-at.result c.place_in-at.ensures.0 c.place_in-at.ensures.1 c.place_in-at.ensures.2 in
    let one : suc c.loop-i.i ≡ c.loop-i.i + 1 = omega arith in
    subst (λ k. Refiled g.E.Metric.dist c.args.settings.degree c.args.settings.bucket c.args.rows.now (take c.args.standing (places c.args.rows.now)) k c.file-root.new.rows c.file-root.result) one
    (has_filed g.E.Metric.dist c.args.settings.degree c.args.settings.bucket c.args.rows.now c.args.standing c.args.settings.two c.args.settings.room c.requires.fits c.requires.within c.requires.apart c.loop-i.i (omega (arith, c.loop-i-test.true)) c.loop-i.rows c.loop-i.root c.loop-i.invariant c.place_in-at.result at c.file-root.new.rows c.file-root.result c.file-root.ensures (search (rules, c.file-root.auto)))
