use Rattle.std.proofs.Common.{◌≡◌, ◌<◌, ◌∷◌, ◌++◌, length, get_or, take, sym, ap, ◌∙◌, subst, arith}
use Rattle.std.proofs.lemmas.List.{get_or-map, length-map}
use Rattle.std.specs.List.{slice_get}
use Rattle.gnat_theory.specs.Tree.Tree.{leaf}
use Rattle.gnat_theory.specs.Filing.{filed, filed_all}
use Rattle.gnat_rows.specs.Shows.{sample_in}
use Rattle.gnat_rows.specs.declared.Node.TheVariants as node
use Rattle.gnat_filing.specs.Choosing.{blank, rows_of}
use Rattle.gnat_filing.specs.Filed.{Ready, LeavesTree}
use Rattle.gnat_filing.proofs.Filling.{fill_none, fill_ready, fill_flat, fill_more}
use Rattle.gnat_filing.proofs.splitting.fill.Goals as goal

pub loop-c-init : goal.loop-c-init
loop-c-init g c degree t fs xs f = fill_none g.E.Metric.dist degree c.args.rows.now c.args.b.now (rows_of c.args.cs.now) t fs xs f

pub file_below-requires : goal.file_below-requires
file_below-requires g c =
    let cs = c.args.cs.now in
    let i = c.loop-c.c-index in
    let is = rows_of cs in
    let lt : i < length is = omega (arith, c.loop-c-test.true, length-map cs (λ z. z.row)) in
    let at : get_or is i 0 ≡ (get_or cs i blank).row = get_or-map (λ z. z.row) cs i blank 0 c.loop-c-test.true in
    let p = c.requires in
    let dist = g.E.Metric.dist in
    let made = c.loop-c.invariant p.0 p.1 p.2 p.3 p.4 in (
      p.0,
      filed_all dist leaf (take i p.3) p.1,
      made.lies,
      p.4.some,
      subst (λ z. Ready p.0 31 c.loop-c.rows (node.Branch c.loop-c.b) z (filed_all dist leaf (take i p.3) p.1) made.lies) at
          (fill_ready dist p.0 c.args.rows.now c.loop-c.rows c.args.b.now c.loop-c.b is p.1 p.2 p.3 p.4 i lt made),
      fill_flat dist p.0 c.args.rows.now c.loop-c.rows c.args.b.now c.loop-c.b is p.1 p.2 p.3 p.4 i lt made,
    )

pub loop-c-preserved : goal.loop-c-preserved
loop-c-preserved g c degree t fs xs f =
    let cs = c.args.cs.now in
    let i = c.loop-c.c-index in
    let is = rows_of cs in
    let lt : i < length is = omega (arith, c.loop-c-test.true, length-map cs (λ z. z.row)) in
    let at : get_or is i 0 ≡ (get_or cs i blank).row = get_or-map (λ z. z.row) cs i blank 0 c.loop-c-test.true in
    let dist = g.E.Metric.dist in
    let made = c.loop-c.invariant degree t fs xs f in
    let before = filed_all dist leaf (take i xs) t in
    let ready = fill_ready dist degree c.args.rows.now c.loop-c.rows c.args.b.now c.loop-c.b is t fs xs f i lt made in
    fill_more dist degree c.args.rows.now c.loop-c.rows c.args.b.now c.loop-c.b is t fs xs f i lt made c.file_below.new.rows c.file_below.new.b
    (λ row there.
    subst (λ z. LeavesTree c.loop-c.rows c.file_below.new.rows (node.Branch c.file_below.new.b) (filed dist leaf (sample_in row) before) (z ∷ made.lies)) (sym at)
    (c.file_below.ensures degree before made.lies row f.some
    (subst (λ z. Ready degree 31 c.loop-c.rows (node.Branch c.loop-c.b) z before made.lies) at ready)
    (fill_flat dist degree c.args.rows.now c.loop-c.rows c.args.b.now c.loop-c.b is t fs xs f i lt made)
    (ap (slice_get c.loop-c.rows) (sym at) ∙ there)))

pub returns : goal.returns
returns g c =
    let e : c.loop-c.c-index ≡ length c.args.cs.now = omega (arith, c.loop-c-test.false, c.loop-c.auto.c-index-end) in
    λ degree t fs xs f. subst (λ z. LeavesTree c.args.rows.now c.loop-c.rows (node.Branch c.loop-c.b) (filed_all g.E.Metric.dist leaf (take z xs) t) (take z (rows_of c.args.cs.now) ++ fs)) e (c.loop-c.invariant degree t fs xs f)
