use Rattle.std.proofs.Common.{[], ◌∷◌, ap, ◌∙◌, subst, arith}
use Rattle.gnat_theory.specs.Splitting.{kept_or_split}
use Rattle.gnat_rows.specs.Shows.{sample_in}
use Rattle.gnat_rows.proofs.Changes.{nth_there, same_row}
use Rattle.gnat_filing.specs.Widening.{Approaches}
use Rattle.gnat_filing.proofs.Leaving.{is_leaf, leaf_filed}
use Rattle.gnat_filing.proofs.Level.{is_branch, pivoted, nth_child, filed_below}
use Rattle.gnat_filing.proofs.Descending.{under_child}
use Rattle.gnat_filing.proofs.filing.file.Goals as goal

pub file_in_leaf-requires : goal.file_in_leaf-requires
file_in_leaf-requires g c =
    let rows = c.args.rows.now in
    let r = c.requires in
    let own = nth_there rows c.args.at r.2.within in
    (_, (is_leaf c.args.settings.degree c.args.settings.bucket rows c.args.node c.args.at r.0 r.1 own.0 c.in-Leaf.l c.in-Leaf.is own.1 r.2).ready)

pub approach-j-requires : goal.approach-j-requires
approach-j-requires g c =
    let rows = c.args.rows.now in
    let r = c.requires in
    let i = is_branch c.args.settings.degree c.args.settings.bucket rows c.args.node c.args.at r.0 r.1 c.in-Branch.b (omega arith) c.in-Branch.is r.2 in
    pivoted rows c.in-Branch.b (c.args.at ∷ []) i.parts r.1 i.ready

pub bounds-b-j : goal.bounds-b-j
bounds-b-j g c =
    let rows = c.args.rows.now in
    let r = c.requires in
    let i = is_branch c.args.settings.degree c.args.settings.bucket rows c.args.node c.args.at r.0 r.1 c.in-Branch.b (omega arith) c.in-Branch.is r.2 in
    omega (arith, i.ready.most, c.approach-j.ensures.below)

pub file_under-requires : goal.file_under-requires
file_under-requires g c =
    let degree = c.args.settings.degree in
    let bucket = c.args.settings.bucket in
    let rows = c.args.rows.now in
    let b = c.in-Branch.b in
    let at = c.args.at in
    let j = c.approach-j.result in
    let r = c.requires in
    let i = is_branch degree bucket rows c.args.node at r.0 r.1 b (omega arith) c.in-Branch.is r.2 in
    let kid = nth_child rows b (at ∷ []) i.parts r.1 i.ready j c.approach-j.ensures.below in
    (kid.tree, kid.below, under_child degree bucket rows c.args.node at r.0 r.1 b i j kid)

pub returns-in-Leaf : goal.returns-in-Leaf
returns-in-Leaf g c t fs row r there =
    leaf_filed c.args.settings.degree c.args.settings.bucket c.args.rows.now c.args.node c.args.at t fs row c.in-Leaf.l c.in-Leaf.is there r g.E.Metric.dist c.file_in_leaf.new.rows c.file_in_leaf.result c.file_in_leaf.ensures

pub returns-in-Branch : goal.returns-in-Branch
returns-in-Branch g c t fs row r there =
    let dist = g.E.Metric.dist in
    let degree = c.args.settings.degree in
    let bucket = c.args.settings.bucket in
    let rows = c.args.rows.now in
    let b = c.in-Branch.b in
    let at = c.args.at in
    let j = c.approach-j.result in
    let i = is_branch degree bucket rows c.args.node at t fs b (omega arith) c.in-Branch.is r in
    let kid = nth_child rows b (at ∷ []) i.parts fs i.ready j c.approach-j.ensures.below in
    let own = c.element_in-element.ensures in
    let element = own.2 ∙ ap (λ z. z.element) (same_row rows at own.0 row own.1 there) in
    let near = subst (λ z. Approaches dist rows z b c.approach-j.new.b j) element c.approach-j.ensures in
    filed_below degree bucket rows c.args.node at t fs b i dist (kept_or_split dist degree bucket) c.file_under.new.rows c.approach-j.new.b j (sample_in row) kid near
    (c.file_under.ensures kid.tree kid.below row (under_child degree bucket rows c.args.node at t fs b i j kid) there)
