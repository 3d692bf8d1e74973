use Rattle.std.proofs.Common.{◌≡◌, ℕ, ◌<◌, ◌≤◌, get_or}
use Rattle.links.specs.Records.{number_at}
use Rattle.links.proofs.rename.Given as goal

abbrev pub invariant-loop-place : goal.invariant-loop-place
invariant-loop-place l = ((k : ℕ) → k < l.place-index → get_or l.list k 0 ≡ number_at l.links (get_or l.initial.list k 0)) × ((k : ℕ) → l.place-index ≤ k → get_or l.list k 0 ≡ get_or l.initial.list k 0)
