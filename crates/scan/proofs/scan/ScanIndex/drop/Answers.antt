use Rattle.std.proofs.Common.{◌∙◌}
use Rattle.index.proofs.Outcomes.{call_standing, drop_done}
use Rattle.scan.specs.Scans.{scan_meaning}
use Rattle.scan.proofs.States.{stands, drop_means, drop_used, drop_rising}
use Rattle.scan.proofs.scan.ScanIndex.drop.Goals as goal

pub invariant_of-self : goal.invariant_of-self
invariant_of-self g c =
    let s = c.args.self.now in
    let n = c.args.number in
    let at = c.in_ok-at.at in
    let here = c.in_ok-at.ensures in
    record {
      used_bound = drop_used s n at here c.close_up.new.list c.close_up.ensures;
      last_bound = s.last_bound;
      rising = drop_rising s n at here c.close_up.new.list c.close_up.ensures;
    }

pub returns : goal.returns
returns g c =
    let s = c.args.self.now in
    let n = c.args.number in
    let at = c.in_ok-at.at in
    let here = c.in_ok-at.ensures in
    let e = stands s n at here in
    record {
      answer = call_standing (scan_meaning s) n (λ _. tt) e.0 e.1;
      leaves = drop_means s n at here c.close_up.new.list c.close_up.ensures ∙ drop_done (scan_meaning s) n e.0 e.1;
    }
