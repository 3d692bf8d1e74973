-- The distance of two spots and which pairs suit, with their laws. Assumes nothing.
use Rattle.std.specs.Prelude.{◌≡◌, ℕ, ◌+◌, ◌-◌, ◌%◌, min, Bool, not, ◌==◌}
use Rattle.std.proofs.Common.{ap, add_comm, arith}
use Rattle.metric.specs.Laws.{MetricLaws}
use Rattle.roadmap_tests.specs.declared.kind.Spot.{Spot}

abbrev pub spot_distance : Spot → Spot → ℕ
spot_distance e f = min ((e.place - f.place) + (f.place - e.place)) 40

pub spot_lawful : MetricLaws 40 spot_distance
spot_lawful = record {
  zero = λ e. omega arith;
  symmetric = λ e f. omega arith;
  triangle = λ e f g. omega arith;
  bounded = λ e f. omega arith;
  small = omega arith;
}

abbrev pub suits : ℕ → Spot → Spot → Bool
suits salt e f = not ((e.mark + f.mark + salt) % 4 == 0)

pub suits_both_ways : (salt : ℕ) (e f : Spot) → suits salt e f ≡ suits salt f e
suits_both_ways salt e f = ap (λ n. not ((n + salt) % 4 == 0)) (add_comm e.mark f.mark)
