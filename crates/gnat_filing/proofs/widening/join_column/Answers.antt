use Rattle.std.proofs.Common.{◌≡◌, ◌<◌, ◌≢◌, length, get_or, set, sym, ap, ◌∙◌, subst, arith, length-set, get_or-set_other, get_or-set_same, below_more}
use Rattle.gnat_rows.specs.Shows.{down}
use Rattle.gnat_rows.proofs.Columns.{length_down, down_at, down_replaced, down_kept}
use Rattle.gnat_filing.proofs.widening.join_column.Goals as goal

pub loop-i-preserved : goal.loop-i-preserved
loop-i-preserved g c =
    let t = c.loop-i.table in
    let i = c.loop-i.i in
    let j = c.args.j in
    let v = c.join-joined.result in
    let row = c.put_in_row.new.row in
    let ds = c.args.ds.now in
    let was = down c.args.table.now j in
    let col = down t j in
    let inv = c.loop-i.invariant in
    let put = c.put_in_row.ensures in
    let there : i < length col = omega (arith, length_down t j, inv.0, c.requires.fits.1, c.loop-i-test.true) in
    let now : down (set t i row) j ≡ set col i v = down_replaced t i j row ∙ ap (set col i) put.here in
    let here = c.join-joined.ensures in (
      length-set t i row ∙ inv.0,
      below_more _ _
          (λ k h. let ne : k ≢ i = omega arith in
          subst (goal.F-post g c.args.join (get_or was k 0) (get_or ds k 0)) (sym (ap (λ z. get_or z k 0) now ∙ get_or-set_other col i k v 0 ne)) (inv.1 k h))
          (subst (goal.F-post g c.args.join (get_or was i 0) (get_or ds i 0)) (sym (ap (λ z. get_or z i 0) now ∙ get_or-set_same col i v 0 there)) (subst (λ x. goal.F-post g c.args.join x (get_or ds i 0) v) (sym (down_at t i j) ∙ inv.2 i (omega arith)) here)),
      (λ k h. let ne : k ≢ i = omega arith in ap (λ z. get_or z k 0) now ∙ (get_or-set_other col i k v 0 ne ∙ inv.2 k (omega arith))),
      (λ m n. down_kept t i m row (put.others m n) ∙ inv.3 m n),
    )
