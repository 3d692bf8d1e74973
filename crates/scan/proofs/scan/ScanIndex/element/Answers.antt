use Rattle.index.proofs.Outcomes.{call_standing}
use Rattle.scan.specs.Scans.{scan_meaning}
use Rattle.scan.proofs.States.{found_element}
use Rattle.scan.proofs.scan.ScanIndex.element.Goals as goal

pub returns : goal.returns
returns g c =
    let s = c.args.self.now in
    call_standing (scan_meaning s) c.args.number (λ x. x) _ (found_element s c.args.number c.in_ok-at.at c.in_ok-at.ensures _)
