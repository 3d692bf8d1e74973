use Rattle.std.proofs.Common.{[], ◌∷◌, ap, ◌∙◌, subst, arith}
use Rattle.std.proofs.lemmas.Option.{slice_get_within}
use Rattle.gnat_rows.proofs.Changes.{same_row}
use Rattle.gnat_filing.specs.Widening.{Approaches}
use Rattle.gnat_filing.proofs.Level.{is_branch, pivoted}
use Rattle.gnat_filing.proofs.Descending.{one_lower}
use Rattle.gnat_filing.proofs.filing.widen_below.Goals as goal

pub approach-j-requires : goal.approach-j-requires
approach-j-requires g c =
    let rows = c.args.rows.now in
    let p = c.requires.ready in
    let r = p.3.2 in
    let held = c.requires.branch in
    let same = ap (λ z. z.node) (same_row rows c.args.pivot r.row held.0 r.there held.1) ∙ held.2 in
    let i = is_branch p.0 p.1 rows r.row.node c.args.at p.3.0 p.3.1 c.args.b p.2 same r.ready in
    pivoted rows c.args.b (c.args.at ∷ []) i.parts p.3.1 i.ready

pub put_node-requires : goal.put_node-requires
put_node-requires g c = slice_get_within c.args.rows.now c.args.pivot c.requires.branch.0 c.requires.branch.1

pub bounds-b-j : goal.bounds-b-j
bounds-b-j g c =
    let rows = c.args.rows.now in
    let p = c.requires.ready in
    let r = p.3.2 in
    let held = c.requires.branch in
    let same = ap (λ z. z.node) (same_row rows c.args.pivot r.row held.0 r.there held.1) ∙ held.2 in
    let i = is_branch p.0 p.1 rows r.row.node c.args.at p.3.0 p.3.1 c.args.b p.2 same r.ready in
    omega (arith, i.ready.most, c.approach-j.ensures.below)

pub returns : goal.returns
returns g c degree bucket one t fs row r there =
    let rows = c.args.rows.now in
    let at = c.args.at in
    let b = c.args.b in
    let j = c.approach-j.result in
    let held = c.requires.branch in
    let same = ap (λ z. z.node) (same_row rows c.args.pivot r.row held.0 r.there held.1) ∙ held.2 in
    let i = is_branch degree bucket rows r.row.node at t fs b one same r.ready in
    let own = c.element_in-element.ensures in
    let element = own.2 ∙ ap (λ z. z.element) (same_row rows at own.0 row own.1 there) in
    let near = subst (λ z. Approaches g.E.Metric.dist rows z b c.approach-j.new.b j) element c.approach-j.ensures in
    one_lower g.E.Metric.dist degree bucket rows c.put_node.new.rows c.args.pivot at t fs row r there b c.approach-j.new.b i j near c.put_node.ensures
