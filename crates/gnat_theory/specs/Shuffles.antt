-- Lists of the same things, each as often, in any order.
use Rattle.std.specs.Prelude.{◌≡◌, ℕ, suc, cond, List, [], ◌∷◌, ◌==◌, ◌≢◌}
use Rattle.std.specs.List.{AllByRecursion}
use Rattle.hits.specs.Samples.{Sample}

pub data Shuffle (X : Type 0) : List X → List X → Type 0 where
  nothing : Shuffle X [] []
  after : (x : X) (xs ys : List X) → Shuffle X xs ys → Shuffle X (x ∷ xs) (x ∷ ys)
  swapped : (x y : X) (xs : List X) → Shuffle X (x ∷ (y ∷ xs)) (y ∷ (x ∷ xs))
  in_turn : (xs ys zs : List X) → Shuffle X xs ys → Shuffle X ys zs → Shuffle X xs zs

-- no two samples have one number
abbrev pub Apart : {E : Type 0} → List (Sample E) → Type 0
Apart [] = Unit {0}
Apart (x ∷ xs) = AllByRecursion (λ y. x.number ≢ y.number) xs × Apart xs

-- how often n is among these
abbrev pub times : ℕ → List ℕ → ℕ
times n [] = 0
times n (m ∷ ms) = cond (m == n) (suc (times n ms)) (times n ms)

-- each number as often in both: the same as a shuffle, and there is but one proof of it
abbrev pub SameTimes : List ℕ → List ℕ → Type 0
SameTimes ms ns = (n : ℕ) → times n ms ≡ times n ns
