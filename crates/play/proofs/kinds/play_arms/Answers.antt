use Rattle.play.proofs.Asked.{arms_answered}
use Rattle.play.proofs.kinds.play_arms.Goals as goal

pub returns-clause-answered : goal.returns-clause-answered
returns-clause-answered c = rw (← c.as_slice-walls.ensures.value) (arms_answered _ _ _ _ _ _ _ c.play_level.ensures.answered)
