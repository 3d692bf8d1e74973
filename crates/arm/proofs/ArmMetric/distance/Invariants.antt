use Rattle.std.proofs.Common.{◌≡◌, ◌*◌, ◌≤◌}
use Rattle.arm.proofs.Weighing.{weighed}
use Rattle.arm.proofs.ArmMetric.distance.Given as goal

-- the turns of the first joints were summed
abbrev pub invariant-loop-joint : goal.invariant-loop-joint
invariant-loop-joint l = (l.sum ≡ weighed l.joint l.self l.other) × (l.sum ≤ 65536 * l.joint)
