use Rattle.std.proofs.Common.{subst}
use Rattle.std.proofs.lemmas.Option.{slice_get_within}
use Rattle.gnat_rows.proofs.Showing.{shows_leaf}
use Rattle.gnat_filing.specs.Seeking.{Holds}
use Rattle.gnat_filing.proofs.Shrinking.{leaf_dropped, is_drop_branch, pivot_marked}
use Rattle.gnat_filing.proofs.dropping.drop_held.Goals as goal

pub shortened-requires : goal.shortened-requires
shortened-requires g c = let p = c.requires.some in (shows_leaf c.args.rows.now c.args.node c.in-Leaf.l p.1 p.2 c.in-Leaf.is p.4.shows).3

pub put_marked-requires : goal.put_marked-requires
put_marked-requires g c = let p = c.requires.some in slice_get_within c.args.rows.now c.args.at p.3 p.4.there

pub returns-in-Leaf : goal.returns-in-Leaf
returns-in-Leaf g c degree t fs own d = leaf_dropped c.args.rows.now c.args.at own d.there c.args.node c.in-Leaf.l c.shortened.result t fs c.in-Leaf.is d.shows d.lies d.apart d.numbers c.shortened.ensures

pub returns-in-Branch : goal.returns-in-Branch
returns-in-Branch g c degree t fs own d =
    let dist = g.E.Metric.dist in
    let rows = c.args.rows.now in
    let b = c.in-Branch.b in
    let i = is_drop_branch dist degree rows c.args.node c.args.at t fs own d b c.in-Branch.is in
    let k = subst (Holds c.args.at) c.in-Branch.is c.requires.held in
    pivot_marked dist degree rows c.args.node c.args.at t fs own d b i c.put_marked.new.rows k.0 k.1 k.2 c.put_marked.ensures
