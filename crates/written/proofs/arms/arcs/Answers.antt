use Rattle.std.proofs.Common.{refl, arith, rules}
use Rattle.turning.proofs.Made.{from_calls}
use Rattle.written.proofs.Runs.{arc_at, arcs_all}
use Rattle.written.proofs.arms.arcs.Goals as goal

pub returns : goal.returns
returns c = arcs_all c.from_fn.result c.args.numbers 6 c.from_fn.ensures.items.long (omega arith) (λ i e h. from_calls _ _ (arc_at c.args.numbers) (λ i y q k. search rules) c.from_fn.result 6 0 _ refl c.from_fn.ensures.items.each i e (omega arith) (omega arith))
