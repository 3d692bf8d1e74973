use Rattle.std.proofs.Common.{min, ap, ◌∙◌}
use Rattle.index.specs.Meaning.{fresh}
use Rattle.player.proofs.indexes.play_with.Goals as goal

pub play_on-requires-clause-fresh : goal.play_on-requires-clause-fresh
play_on-requires-clause-fresh g c = c.new.ensures.fresh ∙ ap (λ n. fresh (min n 1024)) c.requires.1

pub play_on-requires-in-None-clause-fresh : goal.play_on-requires-in-None-clause-fresh
play_on-requires-in-None-clause-fresh g c = c.new-in-None.ensures ∙ ap (λ n. fresh (min n 1024)) c.requires.0
