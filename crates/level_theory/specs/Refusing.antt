-- What the fault of a file says, in the format's own words.
use Rattle.std.specs.Prelude.{◌≡◌, ◌≢◌, ℕ, ◌+◌, ◌<◌, ◌≤◌, ◌⊎◌, List, [], ◌∷◌, ◌++◌, length}
use Rattle.std.specs.List.{AllByRecursion}
use Rattle.index.specs.Outcomes.{refuses}
use Rattle.level_theory.specs.Levels.{Level, form_of, WallFits, CallFits}
use Rattle.level_theory.specs.Texts.{Without, Clean, line_of, lines_of, header_words, level_lines}
use Rattle.level_theory.specs.Reading.{reading}
use Rattle.level_theory.specs.Accepting.{Accepted}

-- every number keeps the limit of its place; the settings may still be outside their ranges
pub record Formed (level : Level) : Type 0 where
  pub degree : level.degree ≤ 1048576
  pub bucket : level.bucket ≤ 1048576
  pub k : level.k ≤ 1048576
  pub few_walls : length level.walls ≤ 64
  pub walls : AllByRecursion (WallFits (form_of level.kind)) level.walls
  pub few_calls : length level.calls ≤ 512
  pub calls : AllByRecursion (CallFits (form_of level.kind)) level.calls

-- some such level begins with these lines, each given by its words
pub record Begins (Such : Level → Type 0) (lines : List (List (List ℕ))) : Type 0 where
  pub level : Level
  pub such : Such level
  pub more : List (List (List ℕ))
  pub begun : level_lines level ≡ lines ++ more

-- the words stop being a line behind the first ones: one is lacking, or the next one is wrong or surplus
pub data Stops (IsLine : List (List ℕ) → Type 0) (ws first : List (List ℕ)) : Type 0 where
  lacking : ws ≡ first → (IsLine first → ⊥) → Stops IsLine ws first
  wrong_word : (w : List ℕ) (others : List (List ℕ)) → ws ≡ first ++ (w ∷ others) → ((more : List (List ℕ)) → IsLine (first ++ (w ∷ more)) → ⊥) → Stops IsLine ws first

-- the words before this place begin a line, and with the word at the place no line begins
pub record WrongAt (IsLine : List (List ℕ) → Type 0) (ws : List (List ℕ)) (place : ℕ) : Type 0 where
  pub first : List (List ℕ)
  pub at : place ≡ length first + 1
  pub more : List (List ℕ)
  pub is_line : IsLine (first ++ more)
  pub stops : Stops IsLine ws first

-- The lines before are the first of a level, and behind them the words of this line are wrong at this place: judged by all
-- levels that keep the limits, since settings are looked at once line 1 has its form.
pub record WordFault (bytes : List ℕ) (line word : ℕ) : Type 0 where
  pub before : List (List (List ℕ))
  pub begins : Begins Accepted before
  pub at : line ≡ length before + 1
  pub words : List (List ℕ)
  pub clean : Clean words
  pub wrong : WrongAt (λ ws. Begins Formed (before ++ (ws ∷ []))) words word
  pub rest : List ℕ
  pub text : bytes ≡ lines_of before ++ (line_of words ++ rest)

-- The lines before are the first of a level, and what follows them: no whole line although no level ends so, or something
-- although they are all lines of a level.
pub data Ends (before : List (List (List ℕ))) (rest : List ℕ) : Type 0 where
  missing : Without 10 rest → ((level : Level) → Accepted level → level_lines level ≢ before) → Ends before rest
  left_over : (level : Level) → Accepted level → level_lines level ≡ before → rest ≢ [] → Ends before rest

pub record LineFault (bytes : List ℕ) (line : ℕ) : Type 0 where
  pub before : List (List (List ℕ))
  pub begins : Begins Accepted before
  pub at : line ≡ length before + 1
  pub rest : List ℕ
  pub ends : Ends before rest
  pub text : bytes ≡ lines_of before ++ rest

abbrev pub Beyond : ℕ → ℕ → ℕ → Type 0
Beyond low high n = (n < low) ⊎ (high < n)

abbrev pub Within : ℕ → ℕ → ℕ → Type 0
Within low high n = (low ≤ n) × (n ≤ high)

-- degree and bucket are 0 for the scan, or those of a tree
abbrev pub IndexChosen : ℕ → ℕ → Type 0
IndexChosen degree bucket = ((degree ≡ 0) × (bucket ≡ 0)) ⊎ (Within 2 8 degree × Within degree 32 bucket)

-- the first of degree, bucket and k that is outside its range
pub data FirstBeyond (degree bucket k : ℕ) : ℕ → Type 0 where
  bad_degree : (degree ≡ 0 → bucket ≡ 0 → ⊥) → Beyond 2 8 degree → FirstBeyond degree bucket k degree
  bad_bucket : Within 2 8 degree → Beyond degree 32 bucket → FirstBeyond degree bucket k bucket
  bad_k : IndexChosen degree bucket → Beyond 1 8 k → FirstBeyond degree bucket k k

-- line 1 has its form, and this setting is outside its range
pub record SettingFault (bytes : List ℕ) (value : ℕ) : Type 0 where
  pub level : Level
  pub formed : Formed level
  pub first : FirstBeyond level.degree level.bucket level.k value
  pub rest : List ℕ
  pub text : bytes ≡ line_of (header_words level) ++ rest

-- a fault by its number and figures
pub data Fault (bytes : List ℕ) : ℕ → List ℕ → Type 0 where
  too_long : 65536 < length bytes → Fault bytes 10 []
  bad_word : (line word : ℕ) → length bytes ≤ 65536 → WordFault bytes line word → Fault bytes 8 (line ∷ (word ∷ []))
  bad_line : (line : ℕ) → length bytes ≤ 65536 → LineFault bytes line → Fault bytes 9 (line ∷ [])
  bad_setting : (value : ℕ) → length bytes ≤ 65536 → SettingFault bytes value → Fault bytes 1 (1 ∷ (value ∷ []))

-- a file is refused with a fault exactly if it has that fault
abbrev pub RefusesExactly : List ℕ → Type 0
RefusesExactly bytes = (n : ℕ) (figures : List ℕ) → (reading bytes ≡ refuses n figures → Fault bytes n figures) × (Fault bytes n figures → reading bytes ≡ refuses n figures)
