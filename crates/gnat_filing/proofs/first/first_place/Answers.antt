use Rattle.std.proofs.Common.{◌≡◌, ◌+◌, true, false, get_or, sym, ap, ◌∙◌, arith}
use Rattle.std.proofs.lemmas.List.{get_or_default}
use Rattle.gnat_filing.proofs.Loops.{some_of, so_far, first_then, first_else, first_end}
use Rattle.gnat_filing.proofs.first.first_place.Goals as goal
use Rattle.gnat_filing.proofs.first.first_place.Goals.{then-before, else-before}

pub loop-i-preserved : goal.loop-i-preserved
loop-i-preserved g c =
    let xs = c.args.xs.now in
    let i = c.loop-i.i in
    let j = c.loop-i.first in
    let inv = c.loop-i.invariant in
    let lt = c.loop-i-test.true in
    elim c.if-before.branch [
      | then-before w ↦ (
        omega (arith, w.first-is, lt),
        λ test d says.
            let x = c.index-xs-i.is ∙ get_or_default xs i c.index-xs-i.result d lt in
            let y = c.index-xs-first.is ∙ get_or_default xs j c.index-xs-first.result d inv.0 in
            let told : test (get_or xs i d) (get_or xs j d) ≡ true = sym (λ k. test (x k) (y k)) ∙ (sym (says _ _ _ c.before-in-loop-i.ensures) ∙ w.if-before.true) in
            inv.1 test d says ∙ first_then test xs d j i lt told ∙ ap (λ z. so_far test xs d z (i + 1)) (sym w.first-is),
      )
      | else-before w ↦ (
        omega (arith, w.first-is, inv.0),
        λ test d says.
            let x = c.index-xs-i.is ∙ get_or_default xs i c.index-xs-i.result d lt in
            let y = c.index-xs-first.is ∙ get_or_default xs j c.index-xs-first.result d inv.0 in
            let told : test (get_or xs i d) (get_or xs j d) ≡ false = sym (λ k. test (x k) (y k)) ∙ (sym (says _ _ _ c.before-in-loop-i.ensures) ∙ w.if-before.false) in
            inv.1 test d says ∙ first_else test xs d j i lt told ∙ ap (λ z. so_far test xs d z (i + 1)) (sym w.first-is),
      )
    ]

pub returns-clause-first : goal.returns-clause-first
returns-clause-first g c test says =
    let xs = c.args.xs.now in
    let d = some_of xs c.requires.some in
    c.loop-i.invariant.1 test d says ∙ first_end test xs d c.loop-i.first c.loop-i.i c.loop-i-test.false
