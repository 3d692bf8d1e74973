use Rattle.std.proofs.Common.{arith}
use Rattle.std.proofs.lemmas.List.Sums.{sum_by-take-le}
use Rattle.links.proofs.Resolving.{held_more, held_few}
use Rattle.links.proofs.Records.held.Goals as goal

pub overflow_add-all : goal.overflow_add-all
overflow_add-all c =
    let links = c.args.self.now.all.now in
    let good = c.args.self.now.good in
    omega (arith, c.loop-record.invariant, held_more links c.loop-record.record-index c.loop-record-test.true, held_few links good.sound, good.few)

pub returns-clause-few : goal.returns-clause-few
returns-clause-few c =
    let links = c.args.self.now.all.now in
    omega (arith, c.loop-record.invariant, sum_by-take-le (λ r. r.count) links c.loop-record.record-index, held_few links c.args.self.now.good.sound)
