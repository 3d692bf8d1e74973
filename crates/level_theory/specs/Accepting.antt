-- Which files are accepted, in the format's own words.
use Rattle.std.specs.Prelude.{◌≡◌, ℕ, ◌≤◌, List, length}
use Rattle.std.specs.List.{AllByRecursion}
use Rattle.index.specs.Outcomes.{Outcome, gives, refuses}
use Rattle.level_theory.specs.Levels.{Level, Valid}
use Rattle.level_theory.specs.Texts.{text_of}
use Rattle.level_theory.specs.Reading.{reading}

-- the file is the text of this level, whose numbers keep their limits, and no longer than it may be
pub record IsText (bytes : List ℕ) (level : Level) : Type 0 where
  pub short : length bytes ≤ 65536
  pub valid : Valid level
  pub text : bytes ≡ text_of level

-- a level whose text is a file that is accepted
abbrev pub Accepted : Level → Type 0
Accepted level = IsText (text_of level) level

-- a file is read as a level exactly if it is that level's text
abbrev pub AcceptsExactly : List ℕ → Type 0
AcceptsExactly bytes = (level : Level) → (reading bytes ≡ gives level → IsText bytes level) × (IsText bytes level → reading bytes ≡ gives level)

-- the numbers of a fault: each figure at most 1,048,576
abbrev pub SmallTold : {A : Type 0} → Outcome A → Type 0
SmallTold (gives x) = Unit {0}
SmallTold (refuses n figures) = (n ≤ 11) × AllByRecursion (λ f. f ≤ 1048576) figures
