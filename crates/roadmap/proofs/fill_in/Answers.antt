use Rattle.std.proofs.Common.{◌+◌, arith}
use Rattle.roadmap.proofs.Linking.{element_none, element_some}
use Rattle.roadmap.proofs.Filling.{fill_starts, fill_ends, fill_not, fill_more, fill_room, filling_as}
use Rattle.roadmap.proofs.fill_in.Goals as goal
use Rattle.roadmap.proofs.fill_in.Goals.{in-Ok, in_default}

pub loop-before-init : goal.loop-before-init
loop-before-init g c = fill_starts (g.I.Index.meaning c.args.index.now) (g.I.Index.lawful c.args.index.now) c.args.links.now

pub bounds-links-used : goal.bounds-links-used
bounds-links-used g c =
    let m = g.I.Index.meaning c.args.index.now in
    let k = c.loop-before.auto.links in
    fill_room m (g.I.Index.lawful c.args.index.now) (c.loop-before.before + 1) c.loop-before.used c.loop-before.links c.loop-before.invariant _ (element_some m (c.loop-before.before + 1) _ c.in-Ok.ensures) (omega (arith, c.requires.1))

pub loop-before-preserved : goal.loop-before-preserved
loop-before-preserved g c =
    let m = g.I.Index.meaning c.args.index.now in
    let law = g.I.Index.lawful c.args.index.now in
    let n = c.loop-before.before + 1 in
    let used = c.loop-before.used in
    let links = c.loop-before.links in
    let k = c.loop-before.auto.links in
    elim c.match-element.branch [
      | in-Ok w ↦ filling_as m (n + 1) _ _ _ _ w.used-is w.links-is (fill_more m law n used links c.loop-before.invariant _ (element_some m n _ w.in-Ok.ensures) (omega (arith, c.requires.1)) w.unlinked.result w.unlinked.ensures)
      | in_default w ↦ filling_as m (n + 1) _ _ _ _ w.used-is w.links-is (fill_not m law n used links c.loop-before.invariant (element_none m n _ _ w.in_default.ensures))
    ]

pub returns : goal.returns
returns g c = fill_ends (g.I.Index.meaning c.args.index.now) (g.I.Index.lawful c.args.index.now) (c.loop-before.before + 1) c.loop-before.used c.loop-before.links (omega (arith, c.loop-before-test.false, c.requires.0)) c.loop-before.invariant
