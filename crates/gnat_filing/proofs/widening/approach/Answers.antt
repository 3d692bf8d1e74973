use Rattle.std.proofs.Common.{ap, ◌∙◌, arith}
use Rattle.std.proofs.lemmas.List.{length-take, take-take}
use Rattle.gnat_theory.specs.Filing.{widened}
use Rattle.gnat_rows.specs.Shows.{column}
use Rattle.gnat_filing.proofs.widening.approach.Goals as goal

pub returns : goal.returns
returns g c =
    let b = c.args.b.now in
    let ds = c.measured-all.result in
    let w = c.widen_column.ensures in
    record {
      distances = ds;
      measured = c.measured-all.ensures;
      below = omega (arith, c.closest-j.ensures.below, length-take b.count ds);
      near = c.closest-j.ensures.near;
      widens = record { count = w.count; pivots = w.pivots; wide = w.wide ∙ ap (λ z. widened (column b c.closest-j.result) z) (take-take b.count b.count ds (omega arith)); others = w.others };
    }
