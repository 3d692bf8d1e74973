use Rattle.std.proofs.Common.{None, ◌∙◌, arith}
use Rattle.std.proofs.lemmas.List.{get_or-set_other}
use Rattle.routing.specs.Knockouts.{entry}
use Rattle.routing.proofs.Winning.{replay_step}
use Rattle.routing.proofs.knockout.replay.Goals as goal

pub loop-at-preserved : goal.loop-at-preserved
loop-at-preserved c =
    let m = c.loop-at.matches in
    let at = c.loop-at.at in
    let k = c.loop-at.auto.matches in
    let inv = c.loop-at.invariant in
    let x = entry m c.winner.result in (
      replay_step m at x (omega (arith, c.requires.even)) c.loop-at-test.true (omega (arith, inv.1)) inv.0 c.winner.ensures.winner,
      omega (arith, inv.1),
      λ i h. get_or-set_other m at i x None (λ z. omega (arith, inv.1)) ∙ inv.2 i h,
    )
