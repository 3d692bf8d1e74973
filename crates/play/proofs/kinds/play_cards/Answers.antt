use Rattle.play.proofs.Asked.{cards_answered}
use Rattle.play.proofs.kinds.play_cards.Goals as goal

pub returns-clause-answered : goal.returns-clause-answered
returns-clause-answered c = rw (← c.as_slice-walls.ensures.value) (cards_answered _ _ _ _ _ _ _ c.play_level.ensures.answered)
