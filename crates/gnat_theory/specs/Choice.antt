-- Choosing one of a list.
use Rattle.std.specs.Prelude.{ℕ, zero, suc, Bool, cond, List, [], ◌∷◌}

-- the place of the first that no other comes before: place j has x, the first so far, and place i comes next
abbrev pub first_from : {X : Type 0} → (X → X → Bool) → ℕ → X → ℕ → List X → ℕ
first_from before j x i [] = j
first_from before j x i (y ∷ ys) = cond (before y x) (first_from before i y (suc i) ys) (first_from before j x (suc i) ys)

abbrev pub first_place : {X : Type 0} → (X → X → Bool) → List X → ℕ
first_place before [] = 0
first_place before (x ∷ xs) = first_from before 0 x 1 xs

-- the others, in their order
abbrev pub removed : {X : Type 0} → ℕ → List X → List X
removed n [] = []
removed zero (x ∷ xs) = xs
removed (suc n) (x ∷ xs) = x ∷ removed n xs
