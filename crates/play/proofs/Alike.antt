-- Levels of one game are answered alike.
use Rattle.std.proofs.Common.{◌≡◌, ℕ, List, sym, subst}
use Rattle.index.specs.Outcomes.{Outcome}
use Rattle.level_theory.specs.Levels.{Kind, arms, cards, LineCall, Level}
use Rattle.play_theory.proofs.Unique.{answered_one}
use Rattle.play.specs.Levels.{KindAnswered, LevelAnswered, PlayedAs, Played, SameGame, PlaysAlike}

kind_one : (kind : Kind) (k : ℕ) (walls : List (List ℕ)) (calls : List LineCall) (out : List ℕ) (o p : Outcome ℕ) (end place : ℕ) (after leaves : List ℕ) → KindAnswered kind k walls calls out o end after → KindAnswered kind k walls calls out p place leaves → (p ≡ o) × (place ≡ end) × (leaves ≡ after)
kind_one arms k walls calls out o p end place after leaves x y = answered_one _ _ _ _ _ _ _ p o place end leaves after y x
kind_one cards k walls calls out o p end place after leaves x y = answered_one _ _ _ _ _ _ _ p o place end leaves after y x

same_answered : (level game : Level) (out : List ℕ) (p : Outcome ℕ) (place : ℕ) (leaves : List ℕ) → SameGame level game → LevelAnswered game out p place leaves → LevelAnswered level out p place leaves
same_answered level game out p place leaves s x =
    let P : Kind → Type 0 = λ kind. KindAnswered kind game.k game.walls game.calls out p place leaves in
    let Q : ℕ → Type 0 = λ k. KindAnswered level.kind k game.walls game.calls out p place leaves in
    let R : List (List ℕ) → Type 0 = λ walls. KindAnswered level.kind level.k walls game.calls out p place leaves in
    let S : List LineCall → Type 0 = λ calls. KindAnswered level.kind level.k level.walls calls out p place leaves in
    subst S (sym s.calls) (subst R (sym s.walls) (subst Q (sym s.k) (subst P (sym s.kind) x)))

pub alike : (bytes out : List ℕ) (o : Outcome ℕ) (end : ℕ) (after : List ℕ) → Played bytes out o end after → PlaysAlike bytes out o end after
alike bytes out o end after x other level game e f s p place leaves y =
    let P : Outcome Level → Type 0 = λ r. PlayedAs r out o end after in
    let Q : Outcome Level → Type 0 = λ r. PlayedAs r out p place leaves in
    kind_one level.kind level.k level.walls level.calls out o p end place after leaves (subst P e x) (same_answered level game out p place leaves s (subst Q f y))
