-- Lists in another order. Assumes nothing.
use Rattle.std.proofs.Common.{◌≡◌, ℕ, suc, List, [], ◌∷◌, ◌++◌, length, sym, refl, ap, ◌∙◌, subst, inl, inr, ⊎_elim}
use Rattle.std.specs.List.{AllByRecursion}
use Rattle.std.proofs.lemmas.List.{append_assoc, append-nil}
use Rattle.hits.specs.Order.{put}
use Rattle.hits.specs.Samples.{Sample, Among, hit_of, hits}
use Rattle.hits.proofs.Putting.{put_put}
use Rattle.gnat_theory.specs.Shuffles.{Shuffle}
use Rattle.gnat_theory.specs.Shuffles.Shuffle.{nothing, after, swapped, in_turn}

module _ {X : Type 0} where
  pub same_order : (xs : List X) → Shuffle X xs xs
  same_order [] = nothing
  same_order (x ∷ xs) = after x xs xs (same_order xs)

  pub shuffle_equal : (xs ys : List X) → xs ≡ ys → Shuffle X xs ys
  shuffle_equal xs ys e = subst (Shuffle X xs) e (same_order xs)

  pub shuffle_back : (xs ys : List X) → Shuffle X xs ys → Shuffle X ys xs
  shuffle_back _ _ nothing = nothing
  shuffle_back _ _ (after x xs ys s) = after x ys xs (shuffle_back xs ys s)
  shuffle_back _ _ (swapped x y xs) = swapped y x xs
  shuffle_back _ _ (in_turn xs ys zs s t) = in_turn zs ys xs (shuffle_back ys zs t) (shuffle_back xs ys s)

  -- the same in front
  pub shuffle_behind : (zs xs ys : List X) → Shuffle X xs ys → Shuffle X (zs ++ xs) (zs ++ ys)
  shuffle_behind [] xs ys s = s
  shuffle_behind (z ∷ zs) xs ys s = after z (zs ++ xs) (zs ++ ys) (shuffle_behind zs xs ys s)

  -- the same behind
  pub shuffle_before : (zs xs ys : List X) → Shuffle X xs ys → Shuffle X (xs ++ zs) (ys ++ zs)
  shuffle_before zs _ _ nothing = same_order zs
  shuffle_before zs _ _ (after x xs ys s) = after x (xs ++ zs) (ys ++ zs) (shuffle_before zs xs ys s)
  shuffle_before zs _ _ (swapped x y xs) = swapped x y (xs ++ zs)
  shuffle_before zs _ _ (in_turn xs ys us s t) = in_turn (xs ++ zs) (ys ++ zs) (us ++ zs) (shuffle_before zs xs ys s) (shuffle_before zs ys us t)

  -- one from the middle goes to the front
  pub shuffle_front : (xs : List X) (x : X) (ys : List X) → Shuffle X (xs ++ (x ∷ ys)) (x ∷ (xs ++ ys))
  shuffle_front [] x ys = same_order (x ∷ ys)
  shuffle_front (z ∷ zs) x ys = in_turn (z ∷ (zs ++ (x ∷ ys))) (z ∷ (x ∷ (zs ++ ys))) (x ∷ (z ∷ (zs ++ ys)))
      (after z (zs ++ (x ∷ ys)) (x ∷ (zs ++ ys)) (shuffle_front zs x ys)) (swapped z x (zs ++ ys))

  -- two parts change places
  pub shuffle_parts : (xs ys : List X) → Shuffle X (xs ++ ys) (ys ++ xs)
  shuffle_parts [] ys = shuffle_equal ys (ys ++ []) (sym (append-nil ys))
  shuffle_parts (x ∷ xs) ys = in_turn (x ∷ (xs ++ ys)) (x ∷ (ys ++ xs)) (ys ++ (x ∷ xs))
      (after x (xs ++ ys) (ys ++ xs) (shuffle_parts xs ys)) (shuffle_back (ys ++ (x ∷ xs)) (x ∷ (ys ++ xs)) (shuffle_front ys x xs))

  -- the second part goes to the front
  pub shuffle_middle : (xs ys zs : List X) → Shuffle X (xs ++ (ys ++ zs)) (ys ++ (xs ++ zs))
  shuffle_middle xs ys zs =
      subst (λ u. Shuffle X u (ys ++ (xs ++ zs))) (append_assoc xs ys zs)
      (subst (Shuffle X ((xs ++ ys) ++ zs)) (append_assoc ys xs zs) (shuffle_before zs (xs ++ ys) (ys ++ xs) (shuffle_parts xs ys)))

  pub all_shuffle : (P : X → Type 0) (xs ys : List X) → Shuffle X xs ys → AllByRecursion P xs → AllByRecursion P ys
  all_shuffle P _ _ nothing a = a
  all_shuffle P _ _ (after x xs ys s) a = (a.0, all_shuffle P xs ys s a.1)
  all_shuffle P _ _ (swapped x y xs) a = (a.1.0, (a.0, a.1.1))
  all_shuffle P _ _ (in_turn xs ys zs s t) a = all_shuffle P ys zs t (all_shuffle P xs ys s a)

  pub among_shuffle : (a : X) (xs ys : List X) → Shuffle X xs ys → Among a xs → Among a ys
  among_shuffle a _ _ nothing m = m
  among_shuffle a _ _ (after x xs ys s) m = ⊎_elim inl (λ k. inr (among_shuffle a xs ys s k)) m
  among_shuffle a _ _ (swapped x y xs) m = ⊎_elim (λ i. inr (inl i)) (λ k. ⊎_elim inl (λ j. inr (inr j)) k) m
  among_shuffle a _ _ (in_turn xs ys zs s t) m = among_shuffle a ys zs t (among_shuffle a xs ys s m)

  pub length_shuffle : (xs ys : List X) → Shuffle X xs ys → length xs ≡ length ys
  length_shuffle _ _ nothing = refl
  length_shuffle _ _ (after x xs ys s) = ap suc (length_shuffle xs ys s)
  length_shuffle _ _ (swapped x y xs) = refl
  length_shuffle _ _ (in_turn xs ys zs s t) = length_shuffle xs ys s ∙ length_shuffle ys zs t

-- the order of the samples does not matter to their hits
pub hits_shuffle : {E : Type 0} (dist : E → E → ℕ) (q : E) (xs ys : List (Sample E)) → Shuffle (Sample E) xs ys → hits dist q xs ≡ hits dist q ys
hits_shuffle dist q _ _ nothing = refl
hits_shuffle dist q _ _ (after x xs ys s) = ap (put (hit_of dist q x)) (hits_shuffle dist q xs ys s)
hits_shuffle dist q _ _ (swapped x y xs) = put_put (hit_of dist q x) (hit_of dist q y) (hits dist q xs)
hits_shuffle dist q _ _ (in_turn xs ys zs s t) = hits_shuffle dist q xs ys s ∙ hits_shuffle dist q ys zs t
