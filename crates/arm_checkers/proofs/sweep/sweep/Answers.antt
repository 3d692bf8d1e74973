use Rattle.std.proofs.Common.{List, ap, rules}
use Rattle.std.specs.Prelude.{slice_index}
use Rattle.walls.specs.declared.arc.Arc.{Arc}
use Rattle.turning.proofs.Made.{made_all}
use Rattle.arm_checkers.specs.Passes.{swept, swept_box}
use Rattle.arm_checkers.proofs.sweep.sweep.Goals as goal

pub returns : goal.returns
unfolding swept_box
returns c = ap (λ (z : List Arc). record { arcs = z }) (made_all _ _ (λ i. swept (slice_index c.args.a.now.angles i) (slice_index c.args.b.now.angles i)) (λ i y q k. search rules) c.from_fn.result 6 (record { start = 0; extent = 0 }) c.from_fn.ensures.items.long c.from_fn.ensures.items.each)
