use Rattle.std.proofs.Common.{◌<◌, ◌≢◌, length, get_or, sym, ◌∙◌, subst, arith, get_or-set_other, get_or-set_same, below_more}
use Rattle.gnat_filing.specs.Choosing.{blank, Renewed}
use Rattle.gnat_filing.proofs.choosing.renew.Goals as goal

pub loop-c-preserved : goal.loop-c-preserved
loop-c-preserved g c =
    let cs = c.loop-c.cs in
    let i = c.loop-c.c-index in
    let v = c.renewed.result in
    let R = Renewed g.E.Metric.dist c.args.rows.now c.args.pivot.now in
    let lt : i < length cs = omega (arith, c.loop-c.auto.cs, c.loop-c-test.true) in
    let old = c.args.cs.now in (
      below_more _ _
          (λ k h. let ne : k ≢ i = omega arith in subst (R (get_or old k blank)) (sym (get_or-set_other cs i k v blank ne)) (c.loop-c.invariant.0 k h))
          (subst (R (get_or old i blank)) (sym (get_or-set_same cs i v blank lt)) (subst (λ z. R z v) (c.loop-c.invariant.1 i (omega arith)) c.renewed.ensures)),
      (λ k h. let ne : k ≢ i = omega arith in get_or-set_other cs i k v blank ne ∙ c.loop-c.invariant.1 k (omega arith)),
    )
