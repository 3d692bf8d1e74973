use Rattle.std.proofs.Common.{◌≡◌, true, take}
use Rattle.std.specs.List.{list_all}
use Rattle.card_checker.specs.Passes.{clear}
use Rattle.card_checker.proofs.MixCheckerCheckerCard.check.Given as goal

-- the pair is clear of each wall seen so far
abbrev pub invariant-loop-wall : goal.invariant-loop-wall
invariant-loop-wall l = list_all (λ w. clear w l.a l.b) (take l.wall-index l.self.walls.now) ≡ true
