use Rattle.std.proofs.Common.{min, refl, ap, ◌∙◌}
use Rattle.gnat_filing.proofs.choosing.renewed.Goals as goal

pub returns : goal.returns
returns g c =
    let read = c.element_in-element.ensures in
    record { row = refl; number = refl; gap = (read.0, read.1, c.min.ensures ∙ ap (min c.args.c.gap) (c.distance.ensures ∙ ap (g.E.Metric.dist c.args.pivot.now) read.2)) }
