use Rattle.std.proofs.Common.{◌≡◌, ℕ, ◌<◌, ◌≢◌, List, length, get_or, take, sym, ap, ◌∙◌, subst, arith, below_more, rules}
use Rattle.std.proofs.lemmas.Grind.{same_number_lists}
use Rattle.std.specs.List.{slice_get}
use Rattle.std.proofs.lemmas.List.{get_or-take, length-take, length-take-le}
use Rattle.gnat_rows.specs.Rows.{HasRow}
use Rattle.gnat_rows.specs.Shows.{ranges, down}
use Rattle.gnat_rows.proofs.Columns.{length_down}
use Rattle.gnat_filing.proofs.splitting.bare.Goals as goal

pub measured-ds-requires : goal.measured-ds-requires
measured-ds-requires g c =
    let inv = c.loop-j.invariant in
    record { some = omega (arith, inv.0, c.requires.0); most = omega (arith, inv.0, c.requires.1.0); within = λ k l. subst (λ z. get_or z k 0 < length c.args.rows.now) (sym inv.1) (c.requires.1.1 k (omega (arith, inv.0))) }

pub loop-j-preserved : goal.loop-j-preserved
loop-j-preserved g c =
    let inv = c.loop-j.invariant in
    let b = c.loop-j.b in
    let n = b.count in
    let ls = b.low in
    let hs = b.high in
    let ls' = c.join_column.new.table in
    let hs' = c.join_column-in-loop-j.new.table in
    let L = c.join_column.ensures in
    let H = c.join_column-in-loop-j.ensures in
    let j = c.loop-j.j in
    let ds = c.measured-ds.result in
    let rows = c.args.rows.now in
    let is = c.args.pivots in
    let below : j < c.args.degree = omega (arith, c.loop-j-test.true, length-take c.args.degree is) in
    let own = c.element_in-element.ensures in
    let m = c.measured-ds.ensures in
    let lows : down ls' j ≡ ds = same_number_lists (down ls' j) ds (length_down ls' j ∙ L.eight ∙ sym m.eight) (λ k u. search (rules, L.each k (omega (arith, length_down ls' j, L.eight, m.eight)))) in
    let highs : down hs' j ≡ ds = same_number_lists (down hs' j) ds (length_down hs' j ∙ H.eight ∙ sym m.eight) (λ k u. search (rules, H.each k (omega (arith, length_down hs' j, H.eight, m.eight)))) in (
      inv.0,
      inv.1,
      below_more _ _
          (λ k h. let ne : k ≢ j = omega arith in let w = inv.2 k h in
          (w.0, w.1, (w.2.0, w.2.1, w.2.2, (ap (λ (xs : List ℕ). ranges n xs (down hs' k)) (L.others k ne) ∙ ap (λ (xs : List ℕ). ranges n (down ls k) xs) (H.others k ne)) ∙ w.2.3))) (
            own.0,
            ap (slice_get rows) (sym (get_or-take c.args.degree is j 0 below)) ∙ own.1,
            (
              ds,
              (λ k h. let v = m.each k h in subst (λ z. HasRow rows (get_or z k 0) (λ q. get_or ds k 0 ≡ g.E.Metric.dist q.element own.0.element)) inv.1 (v.0, v.1, v.2 ∙ ap (g.E.Metric.dist v.0.element) own.2)),
              m.eight,
              ap (λ (xs : List ℕ). ranges n xs (down hs' j)) lows ∙ ap (λ (xs : List ℕ). ranges n ds xs) highs,
            ),
          ),
    )

pub returns : goal.returns
returns g c =
    let inv = c.loop-j.invariant in
    let long : length c.args.pivots ≡ 8 = search rules in
    let whole : length (take c.args.degree c.args.pivots) ≡ c.args.degree = length-take-le c.args.degree c.args.pivots (omega (arith, c.requires.1.0)) in
    record { count = inv.0; pivots = inv.1; points = λ k l. inv.2 k (omega (arith, whole, c.loop-j-test.false)) }
