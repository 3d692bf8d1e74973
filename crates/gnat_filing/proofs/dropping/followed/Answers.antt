use Rattle.std.proofs.Common.{[], ap, ◌∙◌, arith}
use Rattle.std.proofs.lemmas.List.{length-take}
use Rattle.std.proofs.lemmas.Option.{slice_get_within}
use Rattle.gnat_rows.proofs.Changes.{same_row}
use Rattle.gnat_filing.proofs.Level.{pivoted}
use Rattle.gnat_filing.proofs.Shrinking.{is_drop_branch, drop_child, drop_near}
use Rattle.gnat_filing.proofs.Seeking.{lies_under}
use Rattle.gnat_filing.proofs.dropping.followed.Goals as goal

pub is_pivot-requires : goal.is_pivot-requires
is_pivot-requires g c =
    let p = c.requires in
    let rows = c.args.rows.now in
    let b = c.in-Branch.b in
    let i = is_drop_branch g.E.Metric.dist p.0 rows c.args.node.now c.args.at p.1 p.2 p.3 p.4 b c.in-Branch.is in
    i.ready.most

pub element_in-element-requires : goal.element_in-element-requires
element_in-element-requires g c = let p = c.requires in slice_get_within c.args.rows.now c.args.at p.3 p.4.there

pub measured-ds-requires : goal.measured-ds-requires
measured-ds-requires g c =
    let p = c.requires in
    let rows = c.args.rows.now in
    let b = c.in-Branch.b in
    let i = is_drop_branch g.E.Metric.dist p.0 rows c.args.node.now c.args.at p.1 p.2 p.3 p.4 b c.in-Branch.is in
    pivoted rows b [] i.parts p.2 i.ready

pub slice_bounds-ds-end : goal.slice_bounds-ds-end
slice_bounds-ds-end g c =
    let p = c.requires in
    let rows = c.args.rows.now in
    let b = c.in-Branch.b in
    let i = is_drop_branch g.E.Metric.dist p.0 rows c.args.node.now c.args.at p.1 p.2 p.3 p.4 b c.in-Branch.is in
    omega (arith, i.ready.most, c.measured-ds.ensures.eight, length-take b.count c.measured-ds.result)

pub slice_bounds-closest-end : goal.slice_bounds-closest-end
slice_bounds-closest-end g c =
    let p = c.requires in
    let rows = c.args.rows.now in
    let b = c.in-Branch.b in
    let i = is_drop_branch g.E.Metric.dist p.0 rows c.args.node.now c.args.at p.1 p.2 p.3 p.4 b c.in-Branch.is in
    omega (arith, i.ready.most, c.measured-ds.ensures.eight, length-take b.count c.measured-ds.result)

pub closest-j-requires : goal.closest-j-requires
closest-j-requires g c =
    let p = c.requires in
    let rows = c.args.rows.now in
    let b = c.in-Branch.b in
    let i = is_drop_branch g.E.Metric.dist p.0 rows c.args.node.now c.args.at p.1 p.2 p.3 p.4 b c.in-Branch.is in
    omega (arith, i.ready.some, i.ready.most, c.measured-ds.ensures.eight, length-take b.count c.measured-ds.result)

pub bounds-b-j : goal.bounds-b-j
bounds-b-j g c =
    let p = c.requires in
    let rows = c.args.rows.now in
    let b = c.in-Branch.b in
    let i = is_drop_branch g.E.Metric.dist p.0 rows c.args.node.now c.args.at p.1 p.2 p.3 p.4 b c.in-Branch.is in
    omega (arith, i.ready.most, c.closest-j.ensures.below, length-take b.count c.measured-ds.result)

pub returns-else-is_pivot : goal.returns-else-is_pivot
returns-else-is_pivot g c degree t fs own d =
    let dist = g.E.Metric.dist in
    let rows = c.args.rows.now in
    let node = c.args.node.now in
    let at = c.args.at in
    let b = c.in-Branch.b in
    let j = c.closest-j.result in
    let i = is_drop_branch dist degree rows node at t fs own d b c.in-Branch.is in
    let read = c.element_in-element.ensures in
    let element = read.2 ∙ ap (λ z. z.element) (same_row rows at read.0 own read.1 d.there) in
    let near = drop_near dist degree rows node at t fs own d b i c.element_in-element.result c.measured-ds.result j c.measured-ds.ensures element c.closest-j.ensures.near in
    let kid = drop_child dist degree rows node at t fs own d b i j c.if-is_pivot.ensures near in
    lies_under dist degree rows node at t fs own d b c.in-Branch.is i j kid.0 kid.1
