-- Lists one behind the other: what holds of all, and what is among them. Assumes nothing.
use Rattle.std.proofs.Common.{◌⊎◌, List, [], ◌∷◌, ◌++◌, sym, subst, inl, inr, ⊎_elim}
use Rattle.std.specs.List.{AllByRecursion}
use Rattle.hits.specs.Samples.{Among}

module _ {X : Type 0} (P : X → Type 0) where
  pub all_left : (xs ys : List X) → AllByRecursion P (xs ++ ys) → AllByRecursion P xs
  all_left [] ys a = tt
  all_left (x ∷ xs) ys a = (a.0, all_left xs ys a.1)

  pub all_right : (xs ys : List X) → AllByRecursion P (xs ++ ys) → AllByRecursion P ys
  all_right [] ys a = a
  all_right (x ∷ xs) ys a = all_right xs ys a.1

  -- what holds of all holds of one among them
  pub all_among : (x : X) (xs : List X) → AllByRecursion P xs → Among x xs → P x
  all_among x [] a m = absurd m
  all_among x (y ∷ ys) a (inl e) = subst P (sym e) a.0
  all_among x (y ∷ ys) a (inr m) = all_among x ys a.1 m

pub all_both : {X : Type 0} (P Q R : X → Type 0) → ((x : X) → P x → Q x → R x) → (xs : List X) → AllByRecursion P xs → AllByRecursion Q xs → AllByRecursion R xs
all_both P Q R f [] a b = tt
all_both P Q R f (x ∷ xs) a b = (f x a.0 b.0, all_both P Q R f xs a.1 b.1)

module _ {X : Type 0} (x : X) where
  pub among_left : (xs ys : List X) → Among x xs → Among x (xs ++ ys)
  among_left [] ys m = absurd m
  among_left (y ∷ xs) ys (inl e) = inl e
  among_left (y ∷ xs) ys (inr m) = inr (among_left xs ys m)

  pub among_right : (xs ys : List X) → Among x ys → Among x (xs ++ ys)
  among_right [] ys m = m
  among_right (y ∷ xs) ys m = inr (among_right xs ys m)

  pub among_append : (xs ys : List X) → Among x (xs ++ ys) → Among x xs ⊎ Among x ys
  among_append [] ys m = inr m
  among_append (y ∷ xs) ys (inl e) = inl (inl e)
  among_append (y ∷ xs) ys (inr m) = ⊎_elim (λ k. inl (inr k)) inr (among_append xs ys m)
