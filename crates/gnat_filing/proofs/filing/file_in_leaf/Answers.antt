use Rattle.gnat_filing.proofs.Leaving.{leaf_kept, leaf_split, wider}
use Rattle.gnat_filing.proofs.filing.file_in_leaf.Goals as goal

pub returns-then-l-settings : goal.returns-then-l-settings
returns-then-l-settings g c xs r = leaf_kept c.args.settings.bucket c.args.rows.now c.args.l c.args.at xs r g.E.Metric.dist c.args.settings.degree c.pushed.result c.args.settings.most c.if-l-settings.true c.pushed.ensures

pub returns-else-l-settings : goal.returns-else-l-settings
returns-else-l-settings g c xs r =
    let bucket = c.args.settings.bucket in
    let rows = c.args.rows.now in
    leaf_split bucket rows c.args.l c.args.at xs r g.E.Metric.dist c.args.settings.degree c.split.new.rows c.split.result c.args.settings.most c.if-l-settings.false
    (c.split.ensures xs (wider bucket rows c.args.l c.args.at xs r 32 c.args.settings.most))
