use Rattle.std.proofs.Common.{◌≡◌, ℕ, ◌+◌, drop, sym, ap, ◌∙◌, subst, arith}
use Rattle.std.proofs.lemmas.List.{drop_all}
use Rattle.printing.specs.Outputs.{lines_length}
use Rattle.play.proofs.Counting.{step_newline, step_other, lines_none}
use Rattle.play.proofs.report.lines_len.Goals as goal
use Rattle.play.proofs.report.lines_len.Goals.{then-byte-eq10, else-byte-eq10}

pub loop-i-preserved : goal.loop-i-preserved
loop-i-preserved c =
    let P : ℕ → Type 0 = λ left. lines_length c.args.lines c.args.out.now ≡ (c.loop-i.i + 1) + lines_length left (drop (c.loop-i.i + 1) c.args.out.now) in
    elim c.if-byte-eq10.branch [
      | then-byte-eq10 w ↦ subst P (sym w.left-is) (step_newline (lines_length c.args.lines c.args.out.now) c.loop-i.left c.loop-i.i c.args.out.now c.loop-i-test.true c.if-left-eq0.false w.if-byte-eq10.true c.loop-i.invariant)
      | else-byte-eq10 w ↦ subst P (sym w.left-is) (step_other (lines_length c.args.lines c.args.out.now) c.loop-i.left c.loop-i.i c.args.out.now c.loop-i-test.true c.if-left-eq0.false w.if-byte-eq10.false c.loop-i.invariant)
    ]

pub returns : goal.returns
returns c =
    let none = ap (lines_length c.loop-i.left) (drop_all c.loop-i.i c.args.out.now c.loop-i-test.false) ∙ lines_none c.loop-i.left in
    omega (arith, c.loop-i.invariant)
