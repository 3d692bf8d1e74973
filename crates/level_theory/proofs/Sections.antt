-- All lines of a level, from a stage on.
use Rattle.std.proofs.Common.{◌≡◌, ℕ, ◌+◌, List, [], ◌∷◌, ◌++◌, map, sym, refl, ap, ◌∙◌, subst, arith}
use Rattle.std.specs.List.{AllByRecursion}
use Rattle.index.specs.Outcomes.{Outcome, gives, refuses}
use Rattle.level_theory.specs.Words.{words_of}
use Rattle.level_theory.specs.Levels.{Level}
use Rattle.level_theory.specs.Texts.{SomePiece, Clean, spaced}
use Rattle.level_theory.specs.Reading.{Stage, at_header, at_wall_count, at_walls, at_call_count, at_calls, at_end, Progress, progress, read_line, read_rest, read_lines}
use Rattle.level_theory.proofs.Cutting.{joined_split, split_joined}
use Rattle.level_theory.proofs.Steps.{Step, read_right, read_is}

-- the lines from a stage on, and the level that they make of the one so far
pub data Remains : Stage → Level → List (List (List ℕ)) → Level → Type 0 where
  no_more : (level : Level) → Remains at_end level [] level
  one_more : (stage : Stage) (level : Level) (ws : List (List ℕ)) (p : Progress) (lss : List (List (List ℕ))) (all : Level) → Step stage level ws p → Remains p.stage p.level lss all → Remains stage level (ws ∷ lss) all

-- a text of lines that end with byte 10
abbrev pub ended : List (List (List ℕ)) → List (List ℕ)
ended lss = map spaced lss ++ ([] ∷ [])

pub record ReadAs (stage : Stage) (level : Level) (pieces : List (List ℕ)) (all : Level) : Type 0 where
  pub lines : List (List (List ℕ))
  pub remains : Remains stage level lines all
  pub text : pieces ≡ ended lines

rest_is : (stage : Stage) (line : ℕ) (level : Level) (rest : List ℕ) (all : Level) → read_rest stage line level rest ≡ gives all → ReadAs stage level (rest ∷ []) all
rest_is at_header line level rest all e = absurd (let z : ◌≡◌ {A = ℕ} 0 1 = cc in omega arith)
rest_is at_wall_count line level rest all e = absurd (let z : ◌≡◌ {A = ℕ} 0 1 = cc in omega arith)
rest_is (at_walls n) line level rest all e = absurd (let z : ◌≡◌ {A = ℕ} 0 1 = cc in omega arith)
rest_is at_call_count line level rest all e = absurd (let z : ◌≡◌ {A = ℕ} 0 1 = cc in omega arith)
rest_is (at_calls n) line level rest all e = absurd (let z : ◌≡◌ {A = ℕ} 0 1 = cc in omega arith)
rest_is at_end line level [] all e =
    let same : level ≡ all = cc in
    let P : Level → Type 0 = λ x. Remains at_end level [] x in
    record { lines = []; remains = subst P same (no_more level); text = refl }
rest_is at_end line level (b ∷ bs) all e = absurd (let z : ◌≡◌ {A = ℕ} 0 1 = cc in omega arith)

-- what is read from these pieces is written in them
pub lines_are : (o : Outcome Progress) (line : ℕ) (pieces : List (List ℕ)) (all : Level) → read_lines o line pieces ≡ gives all → (p : Progress) × (o ≡ gives p) × ReadAs p.stage p.level pieces all
lines_are (refuses n figures) line pieces all e = absurd (let z : ◌≡◌ {A = ℕ} 0 1 = cc in omega arith)
lines_are (gives p) line [] all e = absurd (let z : ◌≡◌ {A = ℕ} 0 1 = cc in omega arith)
lines_are (gives p) line (rest ∷ []) all e = (p, refl, rest_is p.stage line p.level rest all e)
lines_are (gives p) line (l ∷ (m ∷ ms)) all e =
    let r = lines_are (read_line p.stage line p.level (words_of l)) (line + 1) (m ∷ ms) all e in
    let s = read_is line p.stage p.level (words_of l) r.0 r.1 in (
      p,
      refl,
      record {
        lines = words_of l ∷ r.2.lines;
        remains = one_more p.stage p.level (words_of l) r.0 r.2.lines all s r.2.remains;
        text = (λ i. sym (joined_split 32 l) i ∷ r.2.text i);
      },
    )

pub read_more : (p : Progress) (line : ℕ) (l : List ℕ) (pieces : List (List ℕ)) → SomePiece pieces → read_lines (gives p) line (l ∷ pieces) ≡ read_lines (read_line p.stage line p.level (words_of l)) (line + 1) pieces
read_more p line l [] s = absurd s
read_more p line l (m ∷ ms) s = refl

ended_some : (lss : List (List (List ℕ))) → SomePiece (ended lss)
ended_some [] = tt
ended_some (ws ∷ lss) = tt

-- what is written in them is read
pub lines_right : (stage : Stage) (level : Level) (lss : List (List (List ℕ))) (all : Level) (line : ℕ) → Remains stage level lss all → AllByRecursion Clean lss → read_lines (gives (progress stage level)) line (ended lss) ≡ gives all
lines_right stage level lss all line (no_more level') c = refl
lines_right stage level lss all line (one_more stage' level' ws p rest all' s r) c =
    read_more (progress stage level) line (spaced ws) (ended rest) (ended_some rest)
    ∙ (ap (λ x. read_lines (read_line stage line level x) (line + 1) (ended rest)) (split_joined 32 ws c.0.some c.0.spaces)
    ∙ (ap (λ o. read_lines o (line + 1) (ended rest)) (read_right line stage level ws p s)
    ∙ lines_right p.stage p.level rest all (line + 1) r c.1))
