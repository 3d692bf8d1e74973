use Rattle.std.proofs.Common.{◌≡◌, refl, arith}
use Rattle.index.proofs.Outcomes.{room_left, numbers_left}
use Rattle.scan.specs.Scans.{scan_meaning}
use Rattle.scan.proofs.States.{add_used, add_rising}
use Rattle.scan.proofs.scan.ScanIndex.add.Goals as goal

pub invariant_of-self : goal.invariant_of-self
invariant_of-self g c =
    let s = c.args.self.now in
    let left = room_left c.capacity.result s.used s.last c.in_ok-room.ensures in
    let more = numbers_left c.capacity.result s.used s.last c.in_ok-room.ensures in
    let room : s.used ≡ (scan_meaning s).capacity → ⊥ = λ i. left (omega (arith, i, c.capacity.ensures)) in
    record {
      used_bound = add_used s c.args.e room _ refl;
      last_bound = omega (arith, s.last_bound, more);
      rising = add_rising s c.args.e room _ refl;
    }
