use Rattle.std.proofs.Common.{ap, subst, sym, ◌∙◌, arith}
use Rattle.std.proofs.lemmas.Option.{slice_get_within}
use Rattle.gnat_rows.proofs.Changes.{same_row}
use Rattle.gnat_filing.specs.Dropping.{Droppable}
use Rattle.gnat_filing.specs.Seeking.{Holds}
use Rattle.gnat_filing.proofs.Seeking.{dropped_there}
use Rattle.gnat_filing.proofs.dropping.take_out.Goals as goal

pub holder-pivot-requires : goal.holder-pivot-requires
holder-pivot-requires g c =
    let p = c.requires in
    let u = c.in-Some.ensures p.0 p.1 p.2 p.3 p.4 in
    (p.0, u.tree, u.lies, p.3, u.ready)

pub node_in-held-requires : goal.node_in-held-requires
node_in-held-requires g c = let h = c.holder-pivot.ensures.holds in slice_get_within c.args.rows.now c.holder-pivot.result h.0 h.1

pub drop_held-dropped-requires-clause-some : goal.drop_held-dropped-requires-clause-some
drop_held-dropped-requires-clause-some g c =
    let rows = c.args.rows.now in
    let p = c.requires in
    let u = c.in-Some.ensures p.0 p.1 p.2 p.3 p.4 in
    let v = c.holder-pivot.ensures.seeks p.0 u.tree u.lies p.3 u.ready in
    let read = c.node_in-held.ensures in
    let same = ap (λ z. z.node) (same_row rows c.holder-pivot.result v.ready.row read.0 v.ready.there read.1) ∙ sym read.2 in
    (p.0, v.tree, v.lies, p.3, subst (λ z. Droppable g.E.Metric.dist p.0 rows z c.args.at v.tree v.lies p.3) same v.ready.ready)

pub drop_held-dropped-requires-clause-held : goal.drop_held-dropped-requires-clause-held
drop_held-dropped-requires-clause-held g c =
    let rows = c.args.rows.now in
    let h = c.holder-pivot.ensures.holds in
    let read = c.node_in-held.ensures in
    let same = ap (λ z. z.node) (same_row rows c.holder-pivot.result h.0 read.0 h.1 read.1) ∙ sym read.2 in
    subst (Holds c.args.at) same h.2

pub put_node-requires : goal.put_node-requires
put_node-requires g c = let h = c.holder-pivot.ensures.holds in omega (arith, c.drop_held-dropped.auto.rows, slice_get_within c.args.rows.now c.holder-pivot.result h.0 h.1)

pub returns-in-Some : goal.returns-in-Some
returns-in-Some g c degree t fs own d =
    let rows = c.args.rows.now in
    let at = c.args.at in
    let dist = g.E.Metric.dist in
    let u = c.in-Some.ensures degree t fs own d in
    let v = c.holder-pivot.ensures.seeks degree u.tree u.lies own u.ready in
    let read = c.node_in-held.ensures in
    let same = ap (λ z. z.node) (same_row rows c.holder-pivot.result v.ready.row read.0 v.ready.there read.1) ∙ sym read.2 in
    let made = c.drop_held-dropped.ensures degree v.tree v.lies own (subst (λ z. Droppable dist degree rows z at v.tree v.lies own) same v.ready.ready) in
    dropped_there dist degree rows c.drop_held-dropped.new.rows c.put_node.new.rows c.args.node c.drop_held-dropped.result.node c.in-Some.root c.holder-pivot.result at t fs own c.drop_held-dropped.result.freed u v made c.put_node.ensures
