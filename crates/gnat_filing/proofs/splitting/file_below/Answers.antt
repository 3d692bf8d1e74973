use Rattle.std.proofs.Common.{ℕ, ◌<◌, [], ◌∷◌, length, get_or, sym, refl, ap, ◌∙◌, subst, arith, rules}
use Rattle.std.specs.List.{slice_get}
use Rattle.gnat_theory.specs.Tree.Tree.{leaf}
use Rattle.gnat_theory.specs.Filing.{filed}
use Rattle.gnat_theory.specs.Shuffles.{Shuffle}
use Rattle.gnat_rows.specs.Rows.{with_node}
use Rattle.gnat_rows.specs.Shows.{sample_in}
use Rattle.gnat_rows.specs.declared.Node.TheVariants as node
use Rattle.gnat_rows.proofs.Changes.{nth_there, same_row}
use Rattle.gnat_filing.specs.Filed.{Ready}
use Rattle.gnat_filing.specs.Widening.{Approaches}
use Rattle.gnat_filing.proofs.Leaving.{is_leaf}
use Rattle.gnat_filing.proofs.Filling.{leaf_takes}
use Rattle.gnat_filing.proofs.Level.{is_branch, pivoted, nth_child, pivot_apart, child_lower, child_ready, filed_below}
use Rattle.gnat_filing.proofs.Under.{still_absent, put_after}
use Rattle.gnat_filing.proofs.splitting.file_below.Goals as goal

pub approach-j-requires : goal.approach-j-requires
approach-j-requires g c =
    let rows = c.args.rows.now in
    let b = c.args.b.now in
    let r = c.requires in
    let i = is_branch r.0 31 rows (node.Branch b) c.args.at r.1 r.2 b r.3 refl r.4 in
    pivoted rows b (c.args.at ∷ []) i.parts r.2 i.ready

pub offset_bounds-b-j : goal.offset_bounds-b-j
offset_bounds-b-j g c =
    let rows = c.args.rows.now in
    let b = c.args.b.now in
    let r = c.requires in
    let i = is_branch r.0 31 rows (node.Branch b) c.args.at r.1 r.2 b r.3 refl r.4 in
    let below : c.approach-j.result < 8 = omega (arith, i.ready.most, c.approach-j.ensures.below) in
    search rules

pub bounds-b-j : goal.bounds-b-j
bounds-b-j g c =
    let rows = c.args.rows.now in
    let b = c.args.b.now in
    let r = c.requires in
    let i = is_branch r.0 31 rows (node.Branch b) c.args.at r.1 r.2 b r.3 refl r.4 in
    omega (arith, i.ready.most, c.approach-j.ensures.below)

pub node_in-child-requires : goal.node_in-child-requires
node_in-child-requires g c =
    let rows = c.args.rows.now in
    let b = c.args.b.now in
    let j = c.approach-j.result in
    let r = c.requires in
    let i = is_branch r.0 31 rows (node.Branch b) c.args.at r.1 r.2 b r.3 refl r.4 in
    subst (λ z. get_or z j 0 < length rows) (sym c.approach-j.ensures.widens.pivots) ((pivoted rows b (c.args.at ∷ []) i.parts r.2 i.ready).within j c.approach-j.ensures.below)

pub lengthened-requires : goal.lengthened-requires
lengthened-requires g c l e =
    let rows = c.args.rows.now in
    let b = c.args.b.now in
    let at = c.args.at in
    let j = c.approach-j.result in
    let r = c.requires in
    let i = is_branch r.0 31 rows (node.Branch b) at r.1 r.2 b r.3 refl r.4 in
    let kid = nth_child rows b (at ∷ []) i.parts r.2 i.ready j c.approach-j.ensures.below in
    let read = c.node_in-child.ensures in
    let same = same_row rows (get_or b.pivots j 0) kid.row read.0 kid.there (ap (λ z. slice_get rows (get_or z j 0)) (sym c.approach-j.ensures.widens.pivots) ∙ read.1) in
    let own = nth_there rows at r.4.within in
    let is = is_leaf r.0 31 rows kid.row.node at kid.tree kid.below own.0 l (ap (λ z. z.node) same ∙ (sym read.2 ∙ e)) own.1 (child_ready r.0 31 rows (node.Branch b) at r.1 r.2 b i j kid) in
    omega (arith, is.ready.count)

pub put_node-requires : goal.put_node-requires
put_node-requires g c =
    let rows = c.args.rows.now in
    let b = c.args.b.now in
    let j = c.approach-j.result in
    let r = c.requires in
    let i = is_branch r.0 31 rows (node.Branch b) c.args.at r.1 r.2 b r.3 refl r.4 in
    subst (λ z. get_or z j 0 < length rows) (sym c.approach-j.ensures.widens.pivots) ((pivoted rows b (c.args.at ∷ []) i.parts r.2 i.ready).within j c.approach-j.ensures.below)

pub returns : goal.returns
returns g c degree t fs row some r flat there =
    let rows = c.args.rows.now in
    let b = c.args.b.now in
    let at = c.args.at in
    let j = c.approach-j.result in
    let dist = g.E.Metric.dist in
    let i = is_branch degree 31 rows (node.Branch b) at t fs b some refl r in
    let kid = nth_child rows b (at ∷ []) i.parts fs i.ready j c.approach-j.ensures.below in
    let own = c.element_in-element.ensures in
    let read = c.node_in-child.ensures in
    let still = c.approach-j.ensures.widens.pivots in
    let same = same_row rows (get_or b.pivots j 0) kid.row read.0 kid.there (ap (λ z. slice_get rows (get_or z j 0)) (sym still) ∙ read.1) in
    let ready = subst (λ z. Ready degree 31 rows z at kid.tree kid.below) (ap (λ z. z.node) same ∙ sym read.2) (child_ready degree 31 rows (node.Branch b) at t fs b i j kid) in
    let element = own.2 ∙ ap (λ z. z.element) (same_row rows at own.0 row own.1 there) in
    let near = subst (λ z. Approaches dist rows z b c.approach-j.new.b j) element c.approach-j.ensures in
    let kept = leaf_takes dist degree rows c.node_in-child.result c.lengthened.result at kid.tree kid.below row there ready (omega (arith, flat, child_lower i.parts t kid.tree j i.tree kid.is_child)) c.lengthened.ensures.leaf in
    let put = c.put_node.ensures ∙ ap (λ z. with_node (get_or z j 0) c.lengthened.result rows) still in
    filed_below degree 31 rows (node.Branch b) at t fs b i dist leaf c.put_node.new.rows c.approach-j.new.b j (sample_in row) kid near
    (put_after (get_or b.pivots j 0) c.lengthened.result (λ lies. Shuffle ℕ lies (at ∷ kid.below)) rows rows c.put_node.new.rows (filed dist leaf (sample_in row) kid.tree) (at ∷ kid.below) kid.row kid.there (pivot_apart rows b (at ∷ []) i.parts fs i.ready j kid)
    (λ lies s. still_absent (get_or b.pivots j 0) (at ∷ kid.below) lies (pivot_apart rows b (at ∷ []) i.parts fs i.ready j kid) s) kept put)
