use Rattle.play.proofs.kinds.play_level.Goals as goal

pub returns-clause-answered : goal.returns-clause-answered
returns-clause-answered g c = rw (← c.as_slice-lines.ensures.value) c.play_with.ensures
