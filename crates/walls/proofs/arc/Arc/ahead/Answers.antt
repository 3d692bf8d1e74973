use Rattle.std.proofs.Common.{sym}
use Rattle.turning.proofs.Circles.{ahead_is}
use Rattle.walls.proofs.arc.Arc.ahead.Goals as goal

pub returns-clause-value : goal.returns-clause-value
returns-clause-value c = sym (ahead_is c.args.self.now.start c.args.angle)
