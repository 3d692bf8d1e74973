use Rattle.roadmap.proofs.States.{place_told}
use Rattle.roadmap.proofs.Roadmap.place_of.Goals as goal

pub returns : goal.returns
returns g c = place_told c.args.self.now c.records.result.all.now c.records.ensures c.args.number c.find.result c.ok_or.result c.find.ensures c.ok_or.ensures.value
