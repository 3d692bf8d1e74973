use Rattle.std.proofs.Common.{refl, ◌∙◌, length-set, rules}
use Rattle.std.proofs.lemmas.List.{take_more_set}
use Rattle.gnat_filing.proofs.splitting.pushed.Goals as goal

pub returns : goal.returns
returns c =
    let rows = c.args.l.rows in
    let count = c.args.l.count in
    record { rows = take_more_set rows count c.args.at (search rules); count = refl; thirty_two = length-set rows count c.args.at ∙ search rules }
