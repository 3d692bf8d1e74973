-- What a stage means.
use Rattle.std.specs.Prelude.{ℕ, zero, suc}
use Rattle.level_theory.specs.Reading.{at_wall_count, at_walls, at_call_count, at_calls, at_end}
use Rattle.level_theory.specs.Reading.{Stage as Place}
use Rattle.level.specs.declared.stage.Stage.{Stage}
use Rattle.level.specs.declared.stage.Stage.TheVariants.{WallCount, Walls, CallCount, Calls, End}

abbrev pub stage_shown : Stage → Place
stage_shown WallCount = at_wall_count
stage_shown (Walls n) = at_walls n
stage_shown CallCount = at_call_count
stage_shown (Calls n) = at_calls n
stage_shown End = at_end

-- the stage at which so many lines of a section are left
abbrev pub walls_next : ℕ → Stage
walls_next zero = CallCount
walls_next (suc n) = Walls (suc n)

abbrev pub calls_next : ℕ → Stage
calls_next zero = End
calls_next (suc n) = Calls (suc n)

-- how many walls and calls may still come
abbrev pub walls_yet : Stage → ℕ
walls_yet WallCount = 64
walls_yet (Walls n) = n
walls_yet CallCount = 0
walls_yet (Calls n) = 0
walls_yet End = 0

abbrev pub calls_yet : Stage → ℕ
calls_yet WallCount = 512
calls_yet (Walls n) = 512
calls_yet CallCount = 512
calls_yet (Calls n) = n
calls_yet End = 0
