-- What a play tells, from what reading and playing its calls tell.
use Rattle.std.proofs.Common.{◌≡◌, ℕ, zero, suc, ◌+◌, ◌≤◌, min, List, [], ◌∷◌, map, length, get_or, codes, decimal, sym, refl, ap, subst, arith, lit<, length-append}
use Rattle.std.specs.List.{AllByRecursion}
use Rattle.std.proofs.lemmas.Fmt.{length-decimal-le}
use Rattle.arm_checkers.specs.Passes.{step_passes}
use Rattle.card_checker.specs.Passes.{mix_passes}
use Rattle.written.specs.Arms.{arm_of, wall_of}
use Rattle.written.specs.Cards as cards_written
use Rattle.printing.proofs.Words.{tail_of, line_len}
use Rattle.play_theory.proofs.Counting.{answered_small}
use Rattle.play_theory.proofs.Ending.{ends_so}
use Rattle.index.specs.Outcomes.{Outcome, gives, refuses}
use Rattle.level_theory.specs.Levels.{Kind, arms, cards, LineCall, Level}
use Rattle.level_theory.specs.Reading.{reading}
use Rattle.level_theory.specs.Accepting.{AcceptsExactly, SmallTold}
use Rattle.level_theory.specs.Refusing.{RefusesExactly}
use Rattle.level_theory.proofs.Accepted.{accepts_exactly}
use Rattle.level_theory.proofs.Exact.{refuses_exactly}
use Rattle.level_theory.proofs.Figures.{reading_small}
use Rattle.player.specs.declared.calls.OutputFull.{OutputFull}
use Rattle.lines.specs.declared.fault.ReadFault.{ReadFault}
use Rattle.lines.specs.Faults.{fault_number, fault_figures}
use Rattle.lines.specs.Calls.{call_shown}
use Rattle.level.specs.declared.level.Level.{Level as Read}
use Rattle.level.specs.Levels.{level_shown}
use Rattle.play.specs.declared.fault.PlayFault.{PlayFault}
use Rattle.play.specs.declared.fault.PlayFault.TheVariants.{Reading, Output}
use Rattle.play.specs.Faults.{number_told, list_told, fault_line}
use Rattle.play.specs.Levels.{level_call, KindAnswered, LevelAnswered, PlayedAs, Played, PlaysAlike}
use Rattle.play.proofs.Alike.{alike}

-- the clauses of a play but that on its fault
abbrev pub AllTold : List ℕ → List ℕ → Outcome ℕ → ℕ → List ℕ → Type 0
AllTold bytes out o end after = Played bytes out o end after × (AcceptsExactly bytes × RefusesExactly bytes × PlaysAlike bytes out o end after)

all_told : (bytes out : List ℕ) (o : Outcome ℕ) (end : ℕ) (after : List ℕ) → Played bytes out o end after → AllTold bytes out o end after
all_told bytes out o end after x = (x, (accepts_exactly bytes, refuses_exactly bytes, alike bytes out o end after x))

-- a file that is no level
pub told_faulty : (bytes out : List ℕ) (n : ℕ) (figures : List ℕ) → refuses n figures ≡ reading bytes → AllTold bytes out (refuses n figures) 0 out
told_faulty bytes out n figures e =
    let P : Outcome Level → Type 0 = λ r. PlayedAs r out (refuses n figures) 0 out in
    all_told bytes out (refuses n figures) 0 out (subst P e (refl, refl, refl))

-- a level, played
pub told_played : (bytes out : List ℕ) (level : Level) (o : Outcome ℕ) (end : ℕ) (after : List ℕ) → gives level ≡ reading bytes → LevelAnswered level out o end after → AllTold bytes out o end after
told_played bytes out level o end after e x =
    let P : Outcome Level → Type 0 = λ r. PlayedAs r out o end after in
    all_told bytes out o end after (subst P e x)

-- to its end: as many bytes as it tells, which are in the output
kind_whole : (kind : Kind) (k : ℕ) (walls : List (List ℕ)) (calls : List LineCall) (out : List ℕ) (n end : ℕ) (after : List ℕ) → KindAnswered kind k walls calls out (gives n) end after → n ≤ length after
kind_whole arms k walls calls out n end after x = (ends_so _ _ _ _ out (gives n) end after x).1
kind_whole cards k walls calls out n end after x = (ends_so _ _ _ _ out (gives n) end after x).1

pub told_whole : (bytes out : List ℕ) (level : Level) (n : ℕ) (after : List ℕ) → gives level ≡ reading bytes → LevelAnswered level out (gives n) n after → AllTold bytes out (gives n) (min n (length after)) after
told_whole bytes out level n after e x =
    let P : ℕ → Type 0 = λ k. LevelAnswered level out (gives n) k after in
    let h = kind_whole level.kind level.k level.walls level.calls out n n after x in
    told_played bytes out level (gives n) (min n (length after)) after e (subst P (let f : n ≡ min n (length after) = omega arith in f) x)

figure_small : (figures : List ℕ) (i : ℕ) → AllByRecursion (λ f. f ≤ 1048576) figures → get_or figures i 0 ≤ 1048576
figure_small [] zero s = omega arith
figure_small [] (suc i) s = omega arith
figure_small (f ∷ figures) zero s = s.0
figure_small (f ∷ figures) (suc i) s = figure_small figures i s.1

-- the line of a fault with small figures
pub fault_fits : (fault : PlayFault) → SmallTold {A = ℕ} (refuses (number_told fault) (list_told fault)) → length (fault_line fault) ≤ 32
fault_fits fault s =
    let a = figure_small (list_told fault) 0 s.1 in
    let b = figure_small (list_told fault) 1 s.1 in
    let n = length-decimal-le 2 (number_told fault) (lit< tt) (omega (arith, s.0)) (omega (arith, s.0)) in
    let m = length-decimal-le 7 (get_or (list_told fault) 0 0) (lit< tt) (omega arith) (omega arith) in
    let k = length-decimal-le 7 (get_or (list_told fault) 1 0) (lit< tt) (omega arith) (omega arith) in
    let t : length (tail_of (number_told fault ∷ (get_or (list_told fault) 0 0 ∷ (get_or (list_told fault) 1 0 ∷ [])))) ≡ suc (length (decimal (number_told fault)) + suc (length (decimal (get_or (list_told fault) 0 0)) + suc (length (decimal (get_or (list_told fault) 1 0)) + 0))) = simp length-append in
    omega (arith, line_len (codes "fault") (number_told fault ∷ (get_or (list_told fault) 0 0 ∷ (get_or (list_told fault) 1 0 ∷ []))))

-- a fault of reading
pub reading_fits : (bytes : List ℕ) (fault : ReadFault) → refuses (fault_number fault) (fault_figures fault) ≡ reading bytes → length (fault_line (Reading fault)) ≤ 32
reading_fits bytes fault e = (let P : Outcome Level → Type 0 = λ r. SmallTold r in fault_fits (Reading fault) (subst P (sym e) (reading_small bytes)))

length_mapped : {A B : Type 0} (f : A → B) (xs : List A) → length (map f xs) ≡ length xs
length_mapped f [] = refl
length_mapped f (x ∷ xs) = ap suc (length_mapped f xs)

-- a fault of playing
kind_small : (kind : Kind) (k : ℕ) (walls : List (List ℕ)) (calls : List LineCall) (out : List ℕ) (o : Outcome ℕ) (end : ℕ) (after : List ℕ) → length calls ≤ 1048576 → KindAnswered kind k walls calls out o end after → SmallTold o
kind_small arms k walls calls out o end after h x = answered_small _ _ _ _ 0 0 out o end after (omega (arith, length_mapped (level_call arm_of (step_passes (map wall_of walls))) calls)) x
kind_small cards k walls calls out o end after h x = answered_small _ _ _ _ 0 0 out o end after (omega (arith, length_mapped (level_call cards_written.card_of (mix_passes (map cards_written.wall_of walls))) calls)) x

pub playing_fits : {E W : Type 0} (kind : Kind) (listed : E → List ℕ) (bounds : W → List ℕ) (level : Read E W) (out : List ℕ) (full : OutputFull) (end : ℕ) (after : List ℕ) → length level.calls.items ≤ 512 → LevelAnswered (level_shown kind listed bounds level) out (refuses 11 (full.0 ∷ [])) end after → length (fault_line (Output full)) ≤ 32
playing_fits kind listed bounds level out full end after few x =
    let m = length_mapped (call_shown listed) level.calls.items in
    fault_fits (Output full) (kind_small kind level.header.k (map bounds level.walls.items) (map (call_shown listed) level.calls.items) out (refuses 11 (full.0 ∷ [])) end after (omega arith) x)
