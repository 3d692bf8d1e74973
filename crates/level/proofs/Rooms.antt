-- The lists of a level have room for what may still come. Assumes nothing.
use Rattle.std.proofs.Common.{◌≡◌, ◌≢◌, ℕ, zero, suc, ◌+◌, ◌-◌, ◌<◌, ◌≤◌, List, [], ◌∷◌, ◌++◌, length, sym, refl, ap, subst, arith, rules}
use Rattle.std.proofs.lemmas.List.{length_push, map_push}
use Rattle.metric.specs.declared.Metric.{Ghosts as Measured}
use Rattle.level_theory.specs.Levels.{Kind}
use Rattle.level_theory.specs.Reading.{walls_left, calls_left, level_with}
use Rattle.arrayvec.specs.ArrayVec.{ArrayVec}
use Rattle.written.specs.declared.written.Written.{Ghosts}
use Rattle.lines.specs.declared.calls.CallLine.{CallLine}
use Rattle.lines.specs.Calls.{call_shown}
use Rattle.level.specs.declared.level.Level.{Level}
use Rattle.level.specs.declared.reader.Reader.{Reader}
use Rattle.level.specs.declared.stage.Stage.{Stage}
use Rattle.level.specs.declared.stage.Stage.TheVariants.{WallCount, Walls, CallCount, Calls}
use Rattle.level.specs.Levels.{with_wall, with_call, level_shown}
use Rattle.level.specs.Stages.{stage_shown, walls_next, calls_next, walls_yet, calls_yet}

pub walls_shown : (n : ℕ) → stage_shown (walls_next n) ≡ walls_left n
walls_shown zero = refl
walls_shown (suc n) = refl

pub calls_shown : (n : ℕ) → stage_shown (calls_next n) ≡ calls_left n
calls_shown zero = refl
calls_shown (suc n) = refl

walls_yet_next : (n : ℕ) → walls_yet (walls_next n) ≡ n
walls_yet_next zero = refl
walls_yet_next (suc n) = refl

calls_yet_walls : (n : ℕ) → calls_yet (walls_next n) ≡ 512
calls_yet_walls zero = refl
calls_yet_walls (suc n) = refl

calls_yet_next : (n : ℕ) → calls_yet (calls_next n) ≡ n
calls_yet_next zero = refl
calls_yet_next (suc n) = refl

walls_yet_calls : (n : ℕ) → walls_yet (calls_next n) ≡ 0
walls_yet_calls zero = refl
walls_yet_calls (suc n) = refl

-- a section that is being read has lines left
abbrev pub SomeLeft : Stage → Type 0
SomeLeft st = (st ≢ Walls 0) × (st ≢ Calls 0)

no_walls : (n : ℕ) → Walls (suc n) ≢ Walls 0
no_walls n e = omega (arith, ap walls_yet e)

no_calls : (n : ℕ) → Calls (suc n) ≢ Calls 0
no_calls n e = omega (arith, ap calls_yet e)

walls_some : (n : ℕ) → SomeLeft (walls_next n)
walls_some zero = search rules
walls_some (suc n) = (no_walls n, search rules)

calls_some : (n : ℕ) → SomeLeft (calls_next n)
calls_some zero = search rules
calls_some (suc n) = (search rules, no_calls n)

pub more_walls : (n : ℕ) → SomeLeft (Walls n) → 1 ≤ n
more_walls zero some = absurd (some.0 refl)
more_walls (suc n) some = omega arith

pub more_calls : (n : ℕ) → SomeLeft (Calls n) → 1 ≤ n
more_calls zero some = absurd (some.1 refl)
more_calls (suc n) some = omega arith

-- what a reader's type keeps of its walls, calls and stage
abbrev pub Room : {A B : Type 0} → List A → List B → Stage → Type 0
Room walls calls st = record { walls_fit : length walls + walls_yet st ≤ 64; calls_fit : length calls + calls_yet st ≤ 512; some_left : SomeLeft st }

module _ {E W : Type 0} {k : Ghosts E W} {m : Measured E} (r : Reader E W k m) where
  pub room_wall_count : (n : ℕ) (st : Stage) → r.stage ≡ WallCount → n ≤ 64 → st ≡ walls_next n → Room r.level.walls.items r.level.calls.items st
  room_wall_count n st e h f = record {
    walls_fit = omega (arith, r.walls_fit, ap walls_yet e, ap walls_yet f, walls_yet_next n);
    calls_fit = omega (arith, r.calls_fit, ap calls_yet e, ap calls_yet f, calls_yet_walls n);
    some_left = subst SomeLeft (sym f) (walls_some n);
  }

  pub room_call_count : (n : ℕ) (st : Stage) → r.stage ≡ CallCount → n ≤ 512 → st ≡ calls_next n → Room r.level.walls.items r.level.calls.items st
  room_call_count n st e h f = record {
    walls_fit = omega (arith, r.walls_fit, ap walls_yet e, ap walls_yet f, walls_yet_calls n);
    calls_fit = omega (arith, r.calls_fit, ap calls_yet e, ap calls_yet f, calls_yet_next n);
    some_left = subst SomeLeft (sym f) (calls_some n);
  }

  pub left_wall : (n : ℕ) → r.stage ≡ Walls n → (1 ≤ n) × (length r.level.walls.items < 64)
  left_wall n e = let s = more_walls n (subst SomeLeft e r.some_left) in (s, omega (arith, r.walls_fit, ap walls_yet e))

  pub left_call : (n : ℕ) → r.stage ≡ Calls n → (1 ≤ n) × (length r.level.calls.items < 512)
  left_call n e = let s = more_calls n (subst SomeLeft e r.some_left) in (s, omega (arith, r.calls_fit, ap calls_yet e))

  pub room_wall : (n : ℕ) (wall : W) (walls : List W) (st : Stage) → r.stage ≡ Walls n → walls ≡ r.level.walls.items ++ (wall ∷ []) → st ≡ walls_next (n - 1) → Room walls r.level.calls.items st
  room_wall n wall walls st e f h = let s = left_wall n e in record {
    walls_fit = omega (arith, s.0, r.walls_fit, ap walls_yet e, ap walls_yet h, walls_yet_next (n - 1), ap length f, length_push r.level.walls.items wall);
    calls_fit = omega (arith, r.calls_fit, ap calls_yet e, ap calls_yet h, calls_yet_walls (n - 1));
    some_left = subst SomeLeft (sym h) (walls_some (n - 1));
  }

  pub room_call : (n : ℕ) (call : CallLine E) (calls : List (CallLine E)) (st : Stage) → r.stage ≡ Calls n → calls ≡ r.level.calls.items ++ (call ∷ []) → st ≡ calls_next (n - 1) → Room r.level.walls.items calls st
  room_call n call calls st e f h = let s = left_call n e in record {
    walls_fit = omega (arith, r.walls_fit, ap walls_yet e, ap walls_yet h, walls_yet_calls (n - 1));
    calls_fit = omega (arith, s.0, r.calls_fit, ap calls_yet e, ap calls_yet h, calls_yet_next (n - 1), ap length f, length_push r.level.calls.items call);
    some_left = subst SomeLeft (sym h) (calls_some (n - 1));
  }

-- one wall or call more, put behind the others
module _ {E W : Type 0} (l : Level E W) where
  abbrev pub walls_put : ArrayVec W → Level E W
  walls_put v = record { header = l.header; walls = v; calls = l.calls }

  abbrev pub calls_put : ArrayVec (CallLine E) → Level E W
  calls_put v = record { header = l.header; walls = l.walls; calls = v }

  pub wall_put : (wall : W) (v : ArrayVec W) → v.items ≡ l.walls.items ++ (wall ∷ []) → walls_put v ≡ with_wall l wall
  wall_put wall v e = ap (λ xs. walls_put (record { items = xs })) e

  pub call_put : (call : CallLine E) (v : ArrayVec (CallLine E)) → v.items ≡ l.calls.items ++ (call ∷ []) → calls_put v ≡ with_call l call
  call_put call v e = ap (λ xs. calls_put (record { items = xs })) e

-- one wall or call more, by its numbers
module _ {E W : Type 0} (kind : Kind) (listed : E → List ℕ) (bounds : W → List ℕ) (l : Level E W) where
  pub shown_wall : (wall : W) → level_shown kind listed bounds (with_wall l wall) ≡ level_with (level_shown kind listed bounds l) ((level_shown kind listed bounds l).walls ++ (bounds wall ∷ [])) (level_shown kind listed bounds l).calls
  shown_wall wall =
      ap (λ ws. level_with (level_shown kind listed bounds l) ws (level_shown kind listed bounds l).calls) (map_push bounds l.walls.items wall)

  pub shown_call : (call : CallLine E) → level_shown kind listed bounds (with_call l call) ≡ level_with (level_shown kind listed bounds l) (level_shown kind listed bounds l).walls ((level_shown kind listed bounds l).calls ++ (call_shown listed call ∷ []))
  shown_call call =
      ap (level_with (level_shown kind listed bounds l) (level_shown kind listed bounds l).walls) (map_push (call_shown listed) l.calls.items call)
