use Rattle.roadmap.proofs.States.{good_records, records_are}
use Rattle.roadmap.proofs.Roadmap.records.Goals as goal

pub new-requires : goal.new-requires
new-requires g c = good_records c.args.self.now

pub returns : goal.returns
returns g c = records_are c.args.self.now c.new.result.all.now c.new.ensures
