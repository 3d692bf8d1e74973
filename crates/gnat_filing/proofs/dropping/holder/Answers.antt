use Rattle.std.proofs.Common.{get_or, subst, arith}
use Rattle.std.proofs.lemmas.Option.{slice_get_within, slice_get-get_or}
use Rattle.gnat_rows.proofs.Changes.{same_row}
use Rattle.gnat_filing.specs.Dropping.{Droppable}
use Rattle.gnat_filing.proofs.Descending.{levels_are}
use Rattle.gnat_filing.proofs.Seeking.{seeks_itself, seeks_on, itself_no_higher, next_no_higher}
use Rattle.gnat_filing.proofs.dropping.holder.Goals as goal

pub loop-next-init : goal.loop-next-init
loop-next-init g c = (seeks_itself g.E.Metric.dist c.args.rows.now c.args.root c.args.at, itself_no_higher c.args.rows.now c.args.root)

pub offset_bounds-rows-pivot : goal.offset_bounds-rows-pivot
offset_bounds-rows-pivot g c =
    let p = c.requires in
    let u = c.loop-next.invariant.0 p.0 p.1 p.2 p.3 p.4 in
    omega (arith, slice_get_within c.args.rows.now c.loop-next.pivot u.ready.row u.ready.there)

pub bounds-rows-pivot : goal.bounds-rows-pivot
bounds-rows-pivot g c =
    let p = c.requires in
    let u = c.loop-next.invariant.0 p.0 p.1 p.2 p.3 p.4 in
    slice_get_within c.args.rows.now c.loop-next.pivot u.ready.row u.ready.there

pub followed-requires : goal.followed-requires
followed-requires g c =
    let rows = c.args.rows.now in
    let pivot = c.loop-next.pivot in
    let p = c.requires in
    let u = c.loop-next.invariant.0 p.0 p.1 p.2 p.3 p.4 in
    let d = c.index-rows-pivot.result in
    let here = slice_get-get_or rows pivot d (slice_get_within rows pivot u.ready.row u.ready.there) in
    let same = same_row rows pivot u.ready.row (get_or rows pivot d) u.ready.there here in
    (p.0, u.tree, u.lies, p.3, subst (λ z. Droppable g.E.Metric.dist p.0 rows z.node c.args.at u.tree u.lies p.3) same u.ready.ready)

pub loop-next-smaller : goal.loop-next-smaller
loop-next-smaller g c =
    let rows = c.args.rows.now in
    let pivot = c.loop-next.pivot in
    let p = c.requires in
    let u = c.loop-next.invariant.0 p.0 p.1 p.2 p.3 p.4 in
    let d = c.index-rows-pivot.result in
    let here = slice_get-get_or rows pivot d (slice_get_within rows pivot u.ready.row u.ready.there) in
    let same = same_row rows pivot u.ready.row (get_or rows pivot d) u.ready.there here in
    let v = c.in-Some.ensures p.0 u.tree u.lies p.3 (subst (λ z. Droppable g.E.Metric.dist p.0 rows z.node c.args.at u.tree u.lies p.3) same u.ready.ready) in
    let before = levels_are rows p.0 u.ready.ready.some pivot u.ready.row u.tree u.lies u.ready.there u.ready.ready.shows u.ready.ready.apart u.ready.ready.branching in
    let after = levels_are rows p.0 v.ready.ready.some c.in-Some.next v.ready.row v.tree v.lies v.ready.there v.ready.ready.shows v.ready.ready.apart v.ready.ready.branching in
    omega (arith, v.lower, before, after)

pub loop-next-preserved : goal.loop-next-preserved
loop-next-preserved g c =
    let rows = c.args.rows.now in
    let pivot = c.loop-next.pivot in
    let p = c.requires in
    let u = c.loop-next.invariant.0 p.0 p.1 p.2 p.3 p.4 in
    let d = c.index-rows-pivot.result in
    let here = slice_get-get_or rows pivot d (slice_get_within rows pivot u.ready.row u.ready.there) in
    let same = same_row rows pivot u.ready.row (get_or rows pivot d) u.ready.there here in
    let v = c.in-Some.ensures p.0 u.tree u.lies p.3 (subst (λ z. Droppable g.E.Metric.dist p.0 rows z.node c.args.at u.tree u.lies p.3) same u.ready.ready) in (
      seeks_on g.E.Metric.dist rows c.args.root c.args.at pivot (get_or rows pivot d) c.in-Some.next here c.loop-next.invariant.0 c.in-Some.ensures,
      next_no_higher rows c.args.root pivot c.in-Some.next c.loop-next.invariant.1 u.tree v.tree u.lies v.lies (u.ready.row, u.ready.there, u.ready.ready.shows) (v.ready.row, v.ready.there, v.ready.ready.shows) (omega (arith, v.lower)),
    )

pub returns-clause-holds : goal.returns-clause-holds
returns-clause-holds g c =
    let rows = c.args.rows.now in
    let pivot = c.loop-next.pivot in
    let p = c.requires in
    let u = c.loop-next.invariant.0 p.0 p.1 p.2 p.3 p.4 in
    let d = c.index-rows-pivot.result in
    let here = slice_get-get_or rows pivot d (slice_get_within rows pivot u.ready.row u.ready.there) in
    (get_or rows pivot d, here, c.in_default.ensures)
