use Rattle.std.proofs.Common.{◌≡◌, ℕ, ◌<◌, take, slice_index}
use Rattle.std.specs.List.{AllByRecursion}
use Rattle.routing.specs.Forests.{IsForest, Grown, Together}
use Rattle.routing.proofs.islands.island_of.Given as goal

abbrev pub invariant-loop-place : goal.invariant-loop-place
invariant-loop-place l = (p : ℕ) → p < l.place → slice_index l.parents p ≡ p

abbrev pub invariant-loop-edge : goal.invariant-loop-edge
invariant-loop-edge l = IsForest l.parents × Grown l.edges l.parents × AllByRecursion (λ e. Together l.parents e.elder e.younger) (take l.edge-index l.edges)
