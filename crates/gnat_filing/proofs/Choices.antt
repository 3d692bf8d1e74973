-- Candidates for the next pivot. Assumes nothing.
use Rattle.std.proofs.Common.{◌≡◌, ℕ, zero, suc, List, [], ◌∷◌, ◌++◌, length, take, drop, refl, ap}
use Rattle.std.specs.List.{refill}
use Rattle.std.proofs.lemmas.List.{take_at}
use Rattle.gnat_theory.specs.Choice.{removed}

module _ {X : Type 0} where
  pub removed_is : (j : ℕ) (xs : List X) → removed j xs ≡ take j xs ++ drop (suc j) xs
  removed_is zero [] = refl
  removed_is (suc j) [] = refl
  removed_is zero (x ∷ xs) = refl
  removed_is (suc j) (x ∷ xs) = ap (λ z. x ∷ z) (removed_is j xs)

  -- a list written over by as many
  pub refilled : (xs ys : List X) → length ys ≡ length xs → refill (length xs) xs ys ≡ ys
  refilled xs ys e = take_at ys (drop (length ys) xs) (length xs) e
