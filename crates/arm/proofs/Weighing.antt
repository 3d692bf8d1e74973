-- The distance of two poses, summed joint by joint. Assumes nothing.
use Rattle.std.proofs.Common.{◌≡◌, ℕ, zero, suc, ◌+◌, ◌*◌, ◌≤◌, List, [], ◌∷◌, get_or, ap, ◌∙◌, arith}
use Rattle.std.proofs.Math.Nat.{mul-le-mul_left}
use Rattle.arm.specs.declared.Arm.{Arm}
use Rattle.arm.specs.Poses.{joint_swing, pose_distance}

abbrev pub weights : List ℕ
weights = 32 ∷ 24 ∷ 16 ∷ 8 ∷ 4 ∷ 4 ∷ []

weight_bound : (n : ℕ) → get_or weights n 0 ≤ 32
weight_bound zero = omega arith
weight_bound (suc zero) = omega arith
weight_bound (suc (suc zero)) = omega arith
weight_bound (suc (suc (suc zero))) = omega arith
weight_bound (suc (suc (suc (suc zero)))) = omega arith
weight_bound (suc (suc (suc (suc (suc zero))))) = omega arith
weight_bound (suc (suc (suc (suc (suc (suc n)))))) = omega arith

-- the turns of the first n joints, weighed and summed
abbrev pub weighed : ℕ → Arm → Arm → ℕ
weighed zero e f = 0
weighed (suc n) e f = weighed n e f + get_or weights n 0 * joint_swing n e f

pub weighed_all : (n : ℕ) (e f : Arm) → n ≡ 6 → weighed n e f ≡ pose_distance e f
weighed_all n e f six = ap (λ m. weighed m e f) six ∙ omega arith

-- no joint counts for more than half a turn of the first
pub turn_bound : (n s : ℕ) → s ≤ 2048 → get_or weights n 0 * s ≤ 65536
turn_bound n s l = omega (arith, mul-le-mul_left s (weight_bound n))
