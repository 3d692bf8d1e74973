-- The calls of a level.
use Rattle.std.specs.Prelude.{◌≡◌, ℕ, Bool, List, [], ◌∷◌, length, replicate, Ok, Err, Option, Result}
use Rattle.index.specs.Outcomes.{Outcome, gives, refuses}
use Rattle.roadmap.specs.Roads.{Road}
use Rattle.history.specs.declared.Call.{Call}
use Rattle.history.specs.declared.Call.TheVariants as call
use Rattle.history.specs.Turns.{Said, Lent, lent, reply, Does}
use Rattle.printing.specs.Outputs.{put_outcome, put_leaves, lines_length}
use Rattle.answers.specs.AnswerLines.{answer_line}
use Rattle.lines.specs.declared.calls.CallLine.{CallLine}
use Rattle.lines.specs.declared.calls.CallLine.TheVariants as line
use Rattle.player.specs.declared.calls.OutputFull.{OutputFull}

-- the places of the list of hits, and of the list for a route
abbrev pub hit_places : ℕ
hit_places = 16

abbrev pub route_places : ℕ
route_places = 64

-- the call of a line
abbrev pub line_call : {E C : Type 0} → CallLine E → C → Call E C
line_call (line.Add e) c = call.Add e c
line_call (line.Drop n) c = call.Drop n
line_call (line.Near k e) c = call.Near e k hit_places
line_call (line.Within r e) c = call.Within e r hit_places
line_call (line.Island n) c = call.Island n
line_call (line.Route a b) c = call.Route a b route_places

-- the lists before the first call
abbrev pub blank_lists : Lent
blank_lists = lent (replicate hit_places (record { number = 0; distance = 0 })) (replicate route_places 0)

-- how many bytes are written, or refusal 11 with how many whole lines
abbrev pub told_calls : Result ℕ OutputFull → Outcome ℕ
told_calls (Ok n) = gives n
told_calls (Err full) = refuses 11 (full.0 ∷ [])

-- where the lines end: at as many bytes, or behind so many lines
abbrev pub calls_end : Result ℕ OutputFull → List ℕ → ℕ
calls_end (Ok n) out = n
calls_end (Err full) out = lines_length full.0 out

-- one call was made, and its line put
pub record AnswersOne {E C : Type 0} (dist : E → E → ℕ) (passes : C → E → E → Bool) (road : Road E) (c : Call E C) (l : Lent) (out : List ℕ) (at : ℕ) (r : Option ℕ) (m : Lent) (out' : List ℕ) (after : Road E) : Type 0 where
  pub answer : Said E
  pub does : Does dist passes road c l answer m after
  pub puts : r ≡ put_outcome (length out) at (answer_line c (reply answer) m)
  pub leaves : out' ≡ put_leaves out at (answer_line c (reply answer) m)
