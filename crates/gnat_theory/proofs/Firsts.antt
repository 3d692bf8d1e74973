-- The first that no other comes before. Assumes nothing.
use Rattle.std.proofs.Common.{◌≡◌, ℕ, zero, suc, ◌+◌, ◌<◌, ◌≤◌, Bool, List, [], ◌∷◌, length, get_or, sym, refl, ap, ◌∙◌, subst, arith}
use Rattle.std.specs.List.{AllByRecursion, IsFirstBest}
use Rattle.std.specs.Cmp.{IsStrictWeakOrder}
use Rattle.std.proofs.lemmas.List.MinMax.{IsFirstBest-none, IsFirstBest-keeps, IsFirstBest-takes}
use Rattle.std.proofs.lemmas.Bool.{cond_both}
use Rattle.gnat_theory.specs.Choice.{first_from, first_place, removed}
use Rattle.gnat_theory.specs.Rules.{TakenOut}
use Rattle.gnat_theory.specs.Shuffles.{Shuffle}
use Rattle.gnat_theory.specs.Shuffles.Shuffle.{after, swapped, in_turn}
use Rattle.gnat_theory.proofs.Shuffling.{same_order}

module _ {X : Type 0} (before : X → X → Bool) where
  first_from_below : (n j : ℕ) (x : X) (i : ℕ) (ys : List X) → j < n → i + length ys ≤ n → first_from before j x i ys < n
  first_from_below n j x i [] l m = l
  first_from_below n j x i (y ∷ ys) l m =
      cond_both (before y x) (first_from before i y (suc i) ys) (first_from before j x (suc i) ys) (λ z. z < n)
      (λ e. first_from_below n i y (suc i) ys (omega arith) (omega arith))
      (λ e. first_from_below n j x (suc i) ys l (omega arith))

  pub first_below : (xs : List X) → 0 < length xs → first_place before xs < length xs
  first_below [] l = absurd (omega arith)
  first_below (x ∷ xs) l = first_from_below (length (x ∷ xs)) 0 x 1 xs l (omega arith)

  -- ys are the elements of xs from place i on
  first_from_best : IsStrictWeakOrder before → (xs : List X) (j : ℕ) (x : X) (i : ℕ) (ys : List X) → x ≡ get_or xs j x → i + length ys ≡ length xs → ((k : ℕ) (d : X) → get_or xs (i + k) d ≡ get_or ys k d) → IsFirstBest before xs i j → IsFirstBest before xs (length xs) (first_from before j x i ys)
  first_from_best ranks xs j x i [] here all rest f = let e : i ≡ length xs = omega arith in subst (λ z. IsFirstBest before xs z j) e f
  first_from_best ranks xs j x i (y ∷ ys) here all rest f =
      let back : i ≡ i + 0 = omega arith in
      let at : y ≡ get_or xs i y = sym (ap (λ z. get_or xs z y) back ∙ rest 0 y) in
      let next : (k : ℕ) (d : X) → get_or xs (suc i + k) d ≡ get_or ys k d = λ k d. ap (λ z. get_or xs z d) (omega arith) ∙ rest (suc k) d in
      let more : i + 1 ≡ suc i = omega arith in
      cond_both (before y x) (first_from before i y (suc i) ys) (first_from before j x (suc i) ys) (IsFirstBest before xs (length xs))
      (λ e. first_from_best ranks xs i y (suc i) ys at (omega arith) next (subst (λ z. IsFirstBest before xs z i) more (IsFirstBest-takes ranks xs i j y x f (omega arith) at here e)))
      (λ e. first_from_best ranks xs j x (suc i) ys here (omega arith) next (subst (λ z. IsFirstBest before xs z j) more (IsFirstBest-keeps ranks xs i j y x f (omega arith) at here e)))

  pub first_best : IsStrictWeakOrder before → (xs : List X) → 0 < length xs → IsFirstBest before xs (length xs) (first_place before xs)
  first_best ranks [] l = absurd (omega arith)
  first_best ranks (x ∷ xs) l =
      first_from_best ranks (x ∷ xs) 0 x 1 xs refl (omega arith) (λ k d. let e : 1 + k ≡ suc k = omega arith in ap (λ z. get_or (x ∷ xs) z d) e) (IsFirstBest-none ranks (x ∷ xs))

module _ {X : Type 0} where
  pub removed_shuffle : (d : X) (xs : List X) (n : ℕ) → n < length xs → Shuffle X (get_or xs n d ∷ removed n xs) xs
  removed_shuffle d [] n l = absurd (omega arith)
  removed_shuffle d (x ∷ xs) zero l = same_order (x ∷ xs)
  removed_shuffle d (x ∷ xs) (suc n) l =
      let b = get_or xs n d in
      in_turn (b ∷ (x ∷ removed n xs)) (x ∷ (b ∷ removed n xs)) (x ∷ xs) (swapped b x (removed n xs)) (after x (b ∷ removed n xs) xs (removed_shuffle d xs n (omega arith)))

  pub taken_out : (d : X) (xs : List X) (n : ℕ) → n < length xs → TakenOut (get_or xs n d) xs (removed n xs)
  taken_out d [] n l = absurd (omega arith)
  taken_out d (x ∷ xs) zero l = ([], xs, refl, refl)
  taken_out d (x ∷ xs) (suc n) l =
      let h = taken_out d xs n (omega arith) in
      (x ∷ h.0, h.1, ap (λ z. x ∷ z) h.2, ap (λ z. x ∷ z) h.3)

  pub all_removed : (P : X → Type 0) (n : ℕ) (xs : List X) → AllByRecursion P xs → AllByRecursion P (removed n xs)
  all_removed P n [] a = tt
  all_removed P zero (x ∷ xs) a = a.1
  all_removed P (suc n) (x ∷ xs) a = (a.0, all_removed P n xs a.1)

  -- the first and the others are all
  pub first_shuffle : (before : X → X → Bool) (x : X) (xs : List X) → Shuffle X (get_or (x ∷ xs) (first_place before (x ∷ xs)) x ∷ removed (first_place before (x ∷ xs)) (x ∷ xs)) (x ∷ xs)
  first_shuffle before x xs = removed_shuffle x (x ∷ xs) (first_place before (x ∷ xs)) (first_below before (x ∷ xs) (omega arith))
