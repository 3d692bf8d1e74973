use Rattle.scan.proofs.States.{place_told}
use Rattle.scan.proofs.scan.Scan.place_of.Goals as goal

pub returns : goal.returns
returns g c = place_told c.args.self.now c.args.number c.find.result c.ok_or.result c.find.ensures c.ok_or.ensures.value
