use Rattle.std.proofs.Common.{arith}
use Rattle.roadmap.proofs.States.{records_length, island_told}
use Rattle.roadmap.proofs.Roadmap.island.Goals as goal

pub island-requires : goal.island-requires
island-requires g c = omega (arith, c.in_ok-at.ensures.0, records_length c.args.self.now c.records.result.all.now c.records.ensures)

pub returns : goal.returns
returns g c =
    let p = c.in_ok-at.ensures in
    island_told c.args.self.now c.records.result.all.now c.records.ensures c.args.number c.in_ok-at.at c.island.result p.1 p.2 c.island.ensures
