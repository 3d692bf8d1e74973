use Rattle.std.proofs.Common.{◌%◌, leb, ap}
use Rattle.turning.specs.Arcs.{within}
use Rattle.walls.proofs.arc.Arc.contains.Goals as goal

pub returns : goal.returns
unfolding within
returns c = ap (λ g. leb g (c.args.self.now.extent % 4096)) c.ahead.ensures.value
