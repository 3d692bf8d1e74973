use Rattle.std.proofs.Common.{ap, rules}
use Rattle.turning.specs.Motions.{stands, pose_at}
use Rattle.turning.proofs.Made.{made_all}
use Rattle.motion.proofs.pose.Goals as goal

pub returns : goal.returns
unfolding pose_at
returns c = ap (λ a. record { angles = a }) (made_all _ _ (stands c.args.from.now c.args.to.now c.args.n c.args.t) (λ i y q k. search rules) c.from_fn.result 6 0 c.from_fn.ensures.items.long c.from_fn.ensures.items.each)
