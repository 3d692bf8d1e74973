-- The calls of a level as they are read, and as a history has them.
use Rattle.std.proofs.Common.{◌≡◌, ℕ, Bool, List, [], ◌∷◌, map, sym, refl, ap, subst}
use Rattle.index.specs.Outcomes.{Outcome}
use Rattle.arm.specs.declared.Arm.{Arm}
use Rattle.arm.specs.Poses.{pose_distance}
use Rattle.arm_checkers.specs.declared.step.StepChecker.{StepChecker}
use Rattle.arm_checkers.specs.Passes.{step_passes}
use Rattle.card.specs.declared.Card.{Card}
use Rattle.card.specs.Cards.{card_distance}
use Rattle.card_checker.specs.declared.MixChecker.{MixChecker}
use Rattle.card_checker.specs.Passes.{mix_passes}
use Rattle.level_theory.specs.Levels.{arms, cards}
use Rattle.written.specs.Arms as arm_written
use Rattle.written.specs.Cards as card_written
use Rattle.history_theory.specs.History.{start}
use Rattle.lines.specs.declared.calls.CallLine.{CallLine}
use Rattle.lines.specs.declared.calls.CallLine.TheVariants as line
use Rattle.lines.specs.Calls.{call_shown}
use Rattle.history.specs.declared.Call.{Call}
use Rattle.history.specs.declared.Call.TheVariants as call
use Rattle.play_theory.specs.Answering.{Pairs, set_call, Answered}
use Rattle.player.specs.Calls.{hit_places, line_call, blank_lists}
use Rattle.play.specs.Levels.{level_call, KindAnswered}

pub built_back : {W : Type 0} (bounds : W → List ℕ) (built : List ℕ → W) → ((w : W) → built (bounds w) ≡ w) → (ws : List W) → map built (map bounds ws) ≡ ws
built_back bounds built steady [] = refl
built_back bounds built steady (w ∷ ws) = (λ i. steady w i ∷ built_back bounds built steady ws i)

module _ {E C : Type 0} (listed : E → List ℕ) (made : List ℕ → E) (faithful : (e : E) → made (listed e) ≡ e) (passes : C → E → E → Bool) (checker : C) (pairs : Pairs E) (same : pairs ≡ passes checker) where
  one_call : (l : CallLine E) → level_call made pairs (call_shown listed l) ≡ set_call passes (line_call l checker)
  one_call (line.Add e) = (λ i. call.Add (faithful e i) (same i))
  one_call (line.Drop n) = refl
  one_call (line.Near k e) = (λ i. call.Near (faithful e i) k hit_places)
  one_call (line.Within r e) = (λ i. call.Within (faithful e i) r hit_places)
  one_call (line.Island n) = refl
  one_call (line.Route a b) = refl

  pub all_calls : (ls : List (CallLine E)) → map (level_call made pairs) (map (call_shown listed) ls) ≡ map (λ l. set_call passes (line_call l checker)) ls
  all_calls [] = refl
  all_calls (l ∷ ls) = (λ i. one_call l i ∷ all_calls ls i)

-- the pairs that a checker passes
abbrev step_pairs : StepChecker → Arm → Arm → Bool
step_pairs c = step_passes c.walls.now

abbrev mix_pairs : MixChecker → Card → Card → Bool
mix_pairs c = mix_passes c.walls.now

-- levels of arms
pub arms_answered : (checker : StepChecker) (lines : List (CallLine Arm)) (k : ℕ) (out : List ℕ) (o : Outcome ℕ) (end : ℕ) (after : List ℕ) → Answered pose_distance (start k 64) (map (λ l. set_call step_pairs (line_call l checker)) lines) blank_lists 0 0 out o end after → KindAnswered arms k (map arm_written.wall_numbers checker.walls.now) (map (call_shown arm_written.arm_numbers) lines) out o end after
arms_answered checker lines k out o end after x =
    let P : List (Call Arm (Pairs Arm)) → Type 0 = λ cs. Answered pose_distance (start k 64) cs blank_lists 0 0 out o end after in
    let walls : step_passes (map arm_written.wall_of (map arm_written.wall_numbers checker.walls.now)) ≡ step_passes checker.walls.now = ap step_passes (built_back arm_written.wall_numbers arm_written.wall_of arm_written.wall_faithful checker.walls.now) in
    subst P (sym (all_calls arm_written.arm_numbers arm_written.arm_of arm_written.arm_faithful step_pairs checker (step_passes (map arm_written.wall_of (map arm_written.wall_numbers checker.walls.now))) walls lines)) x

-- levels of cards
pub cards_answered : (checker : MixChecker) (lines : List (CallLine Card)) (k : ℕ) (out : List ℕ) (o : Outcome ℕ) (end : ℕ) (after : List ℕ) → Answered card_distance (start k 64) (map (λ l. set_call mix_pairs (line_call l checker)) lines) blank_lists 0 0 out o end after → KindAnswered cards k (map card_written.wall_numbers checker.walls.now) (map (call_shown card_written.card_numbers) lines) out o end after
cards_answered checker lines k out o end after x =
    let P : List (Call Card (Pairs Card)) → Type 0 = λ cs. Answered card_distance (start k 64) cs blank_lists 0 0 out o end after in
    let walls : mix_passes (map card_written.wall_of (map card_written.wall_numbers checker.walls.now)) ≡ mix_passes checker.walls.now = ap mix_passes (built_back card_written.wall_numbers card_written.wall_of card_written.wall_faithful checker.walls.now) in
    subst P (sym (all_calls card_written.card_numbers card_written.card_of card_written.card_faithful mix_pairs checker (mix_passes (map card_written.wall_of (map card_written.wall_numbers checker.walls.now))) walls lines)) x
