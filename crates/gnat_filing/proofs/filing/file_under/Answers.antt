use Rattle.std.proofs.Common.{ℕ, ◌∷◌, sym, ap, ◌∙◌, arith}
use Rattle.std.proofs.lemmas.Option.{slice_get_within}
use Rattle.gnat_theory.specs.Splitting.{grown}
use Rattle.gnat_theory.specs.Shuffles.{Shuffle}
use Rattle.gnat_rows.specs.Shows.{sample_in}
use Rattle.gnat_rows.proofs.Changes.{nth_there, same_row}
use Rattle.gnat_filing.proofs.Leaving.{is_leaf, leaf_filed}
use Rattle.gnat_filing.proofs.Under.{still_absent, put_after}
use Rattle.gnat_filing.proofs.Descending.{reaches_itself, reaches_on, reaches_end, levels_are}
use Rattle.gnat_filing.proofs.filing.file_under.Goals as goal

pub loop-l-init : goal.loop-l-init
loop-l-init g c = reaches_itself g.E.Metric.dist c.args.settings.degree c.args.settings.bucket c.args.rows.now c.args.root c.args.at

pub node_in-requires : goal.node_in-requires
node_in-requires g c =
    let p = c.requires in
    let own = nth_there c.args.rows.now c.args.at p.2.ready.within in
    let u = c.loop-l.invariant p.0 p.1 own.0 p.2 own.1 in
    slice_get_within c.loop-l.rows c.loop-l.pivot u.ready.row u.ready.there

pub file_in_leaf-grown-requires : goal.file_in_leaf-grown-requires
file_in_leaf-grown-requires g c =
    let p = c.requires in
    let own = nth_there c.args.rows.now c.args.at p.2.ready.within in
    let u = c.loop-l.invariant p.0 p.1 own.0 p.2 own.1 in
    let read = c.node_in.ensures in
    let same = ap (λ z. z.node) (same_row c.loop-l.rows c.loop-l.pivot u.ready.row read.0 u.ready.there read.1) ∙ (sym read.2 ∙ c.in-Leaf.is) in
    (_, (is_leaf c.args.settings.degree c.args.settings.bucket c.loop-l.rows u.ready.row.node c.args.at u.tree u.lies own.0 c.in-Leaf.l same u.there u.ready.ready).ready)

pub put_node-requires : goal.put_node-requires
put_node-requires g c =
    let p = c.requires in
    let own = nth_there c.args.rows.now c.args.at p.2.ready.within in
    let u = c.loop-l.invariant p.0 p.1 own.0 p.2 own.1 in
    let first = slice_get_within c.args.rows.now c.args.root p.2.row p.2.there in
    let last = slice_get_within c.loop-l.rows c.loop-l.pivot u.ready.row u.ready.there in
    omega (arith, c.loop-l.auto.rows, c.file_in_leaf-grown.auto.rows, first, last)

pub returns-in-Leaf : goal.returns-in-Leaf
returns-in-Leaf g c =
    let dist = g.E.Metric.dist in
    let degree = c.args.settings.degree in
    let bucket = c.args.settings.bucket in
    let rows = c.loop-l.rows in
    let at = c.args.at in
    let pivot = c.loop-l.pivot in
    let read = c.node_in.ensures in
    let grown_node = c.file_in_leaf-grown.result in
    reaches_end dist degree bucket c.args.rows.now c.args.root at rows pivot c.loop-l.invariant c.put_node.new.rows
    (λ t fs row r there.
    let same = ap (λ z. z.node) (same_row rows pivot r.row read.0 r.there read.1) ∙ (sym read.2 ∙ c.in-Leaf.is) in
    let filed = leaf_filed degree bucket rows r.row.node at t fs row c.in-Leaf.l same there r.ready dist c.file_in_leaf-grown.new.rows grown_node c.file_in_leaf-grown.ensures in
    put_after pivot grown_node (λ lies. Shuffle ℕ lies (at ∷ fs)) rows c.file_in_leaf-grown.new.rows c.put_node.new.rows (grown dist degree bucket (sample_in row) t) (at ∷ fs) r.row r.there r.apart (λ lies s. still_absent pivot (at ∷ fs) lies r.apart s) filed c.put_node.ensures)

pub widen_below-pivot-requires-clause-branch : goal.widen_below-pivot-requires-clause-branch
widen_below-pivot-requires-clause-branch g c = let read = c.node_in.ensures in (read.0, read.1, sym read.2 ∙ c.in-Branch.is)

pub widen_below-pivot-requires-clause-ready : goal.widen_below-pivot-requires-clause-ready
widen_below-pivot-requires-clause-ready g c =
    let p = c.requires in
    let own = nth_there c.args.rows.now c.args.at p.2.ready.within in
    let u = c.loop-l.invariant p.0 p.1 own.0 p.2 own.1 in
    (c.args.settings.degree, c.args.settings.bucket, omega arith, (u.tree, u.lies, u.ready))

pub loop-l-smaller : goal.loop-l-smaller
loop-l-smaller g c =
    let degree = c.args.settings.degree in
    let bucket = c.args.settings.bucket in
    let at = c.args.at in
    let p = c.requires in
    let own = nth_there c.args.rows.now at p.2.ready.within in
    let u = c.loop-l.invariant p.0 p.1 own.0 p.2 own.1 in
    let v = c.widen_below-pivot.ensures degree bucket (omega arith) u.tree u.lies own.0 u.ready u.there in
    let before = levels_are c.loop-l.rows degree (omega arith) c.loop-l.pivot u.ready.row u.tree u.lies u.ready.there u.ready.ready.shows u.ready.ready.apart.1 u.ready.ready.branching in
    let after = levels_are c.widen_below-pivot.new.rows degree (omega arith) c.widen_below-pivot.result v.ready.row v.tree v.lies v.ready.there v.ready.ready.shows v.ready.ready.apart.1 v.ready.ready.branching in
    omega (arith, v.lower, before, after)

pub loop-l-preserved : goal.loop-l-preserved
loop-l-preserved g c =
    let degree = c.args.settings.degree in
    let bucket = c.args.settings.bucket in
    reaches_on g.E.Metric.dist degree bucket c.args.rows.now c.args.root c.args.at c.loop-l.rows c.loop-l.pivot c.loop-l.invariant c.widen_below-pivot.new.rows c.widen_below-pivot.result
    (c.widen_below-pivot.ensures degree bucket (omega arith))
