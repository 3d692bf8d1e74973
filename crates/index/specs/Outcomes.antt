-- What a call tells its caller: a value, or a refusal by its number and figures.
use Rattle.std.specs.Prelude.{ℕ, cond, List, [], ◌∷◌, Ok, Err, Result, ◌==◌}
use Rattle.index.specs.declared.refusal.Refusal.{Refusal}
use Rattle.index.specs.declared.refusal.Refusal.TheVariants.{Setting, HitCount, Full, NumbersUsedUp, NotStanding, NotJoined, ShortList}

abbrev pub number_of : Refusal → ℕ
number_of (Setting value) = 1
number_of HitCount = 2
number_of Full = 3
number_of NumbersUsedUp = 4
number_of (NotStanding number) = 5
number_of NotJoined = 6
number_of (ShortList places) = 7

abbrev pub figures_of : Refusal → List ℕ
figures_of (Setting value) = value ∷ []
figures_of HitCount = []
figures_of Full = []
figures_of NumbersUsedUp = []
figures_of (NotStanding number) = number ∷ []
figures_of NotJoined = []
figures_of (ShortList places) = places ∷ []

pub data Outcome (A : Type 0) : Type 0 where
  gives : A → Outcome A
  refuses : ℕ → List ℕ → Outcome A

abbrev pub told : {A : Type 0} → Result A Refusal → Outcome A
told (Ok value) = gives value
told (Err refusal) = refuses (number_of refusal) (figures_of refusal)

-- whether one more sample can be filed: room comes before numbers
abbrev pub room_outcome : ℕ → ℕ → ℕ → Outcome Unit
room_outcome capacity standing last = cond (standing == capacity) (refuses 3 []) (cond (last == 65535) (refuses 4 []) (gives tt))

-- what a call gives once there is room
abbrev pub given_room : {A : Type 0} → Outcome Unit → A → Outcome A
given_room (gives u) value = gives value
given_room (refuses n figures) value = refuses n figures
