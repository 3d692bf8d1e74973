-- What playing a level file answers.
use Rattle.std.specs.Prelude.{◌≡◌, ℕ, List, map}
use Rattle.index.specs.Outcomes.{Outcome, gives, refuses}
use Rattle.arm.specs.Poses.{pose_distance}
use Rattle.card.specs.Cards.{card_distance}
use Rattle.arm_checkers.specs.Passes.{step_passes}
use Rattle.card_checker.specs.Passes.{mix_passes}
use Rattle.history_theory.specs.History.{start}
use Rattle.history.specs.declared.Call.{Call}
use Rattle.history.specs.declared.Call.TheVariants as call
use Rattle.level_theory.specs.Levels.{Kind, arms, cards, LineCall, call_add, call_drop, call_near, call_within, call_island, call_route, Level}
use Rattle.level_theory.specs.Reading.{reading}
use Rattle.written.specs.Arms.{arm_of, wall_of}
use Rattle.written.specs.Cards as cards_written
use Rattle.play_theory.specs.Answering.{Pairs, Answered}
use Rattle.player.specs.Calls.{hit_places, route_places, blank_lists}

-- a call of a level on a roadmap, its element made from its numbers
abbrev pub level_call : {E : Type 0} → (List ℕ → E) → Pairs E → LineCall → Call E (Pairs E)
level_call made passes (call_add e) = call.Add (made e) passes
level_call made passes (call_drop n) = call.Drop n
level_call made passes (call_near k e) = call.Near (made e) k hit_places
level_call made passes (call_within r e) = call.Within (made e) r hit_places
level_call made passes (call_island n) = call.Island n
level_call made passes (call_route a b) = call.Route a b route_places

-- the calls of a level of arms are checked by Step over its walls, those of a level of cards by Mix
abbrev pub KindAnswered : Kind → ℕ → List (List ℕ) → List LineCall → List ℕ → Outcome ℕ → ℕ → List ℕ → Type 0
KindAnswered arms k walls calls out o end after = Answered pose_distance (start k 64) (map (level_call arm_of (step_passes (map wall_of walls))) calls) blank_lists 0 0 out o end after
KindAnswered cards k walls calls out o end after = Answered card_distance (start k 64) (map (level_call cards_written.card_of (mix_passes (map cards_written.wall_of walls))) calls) blank_lists 0 0 out o end after

-- A level's calls are answered on a roadmap over a fresh index of capacity 64, by lines in the output. Neither degree nor
-- bucket has a part in it.
abbrev pub LevelAnswered : Level → List ℕ → Outcome ℕ → ℕ → List ℕ → Type 0
LevelAnswered level out o end after = KindAnswered level.kind level.k level.walls level.calls out o end after

-- a faulty file leaves the output as it was
abbrev pub PlayedAs : Outcome Level → List ℕ → Outcome ℕ → ℕ → List ℕ → Type 0
PlayedAs (gives level) out o end after = LevelAnswered level out o end after
PlayedAs (refuses n figures) out o end after = (o ≡ refuses n figures) × (end ≡ 0) × (after ≡ out)

-- what a play tells, where its lines end, and what the output then holds
abbrev pub Played : List ℕ → List ℕ → Outcome ℕ → ℕ → List ℕ → Type 0
Played bytes out o end after = PlayedAs (reading bytes) out o end after

-- levels that differ in degree and bucket at most
pub record SameGame (level other : Level) : Type 0 where
  pub kind : level.kind ≡ other.kind
  pub k : level.k ≡ other.k
  pub walls : level.walls ≡ other.walls
  pub calls : level.calls ≡ other.calls

-- whatever another file of the same game is answered with, it is answered with the same, byte for byte
abbrev pub PlaysAlike : List ℕ → List ℕ → Outcome ℕ → ℕ → List ℕ → Type 0
PlaysAlike bytes out o end after = (other : List ℕ) (level game : Level) → reading bytes ≡ gives level → reading other ≡ gives game → SameGame level game → (p : Outcome ℕ) (place : ℕ) (leaves : List ℕ) → Played other out p place leaves → (p ≡ o) × (place ≡ end) × (leaves ≡ after)
