-- What the loops over a branch's pivots leave. Assumes nothing.
use Rattle.std.proofs.Common.{◌≡◌, ℕ, zero, suc, ◌+◌, ◌<◌, ◌≤◌, min, max, Bool, true, false, List, [], ◌∷◌, length, get_or, take, drop, sym, refl, ap, ◌∙◌, not-suc-le-zero, add-one, arith}
use Rattle.std.proofs.lemmas.List.{drop_more, drop_all}
use Rattle.std.proofs.lemmas.Bool.{cond-true, cond-false}
use Rattle.gnat_theory.specs.Choice.{first_from}
use Rattle.gnat_theory.specs.Filing.{widened}
use Rattle.gnat_rows.specs.Shows.{ranges}

-- the head of a list that has one
pub some_of : {X : Type 0} (xs : List X) → 1 ≤ length xs → X
some_of [] l = absurd (not-suc-le-zero l)
some_of (x ∷ xs) l = x

-- looking for the first of a list that no other comes before: j is the first so far, of those before i
module _ {X : Type 0} (before : X → X → Bool) (xs : List X) where
  abbrev pub so_far : X → ℕ → ℕ → ℕ
  so_far d j i = first_from before j (get_or xs j d) i (drop i xs)

  ahead : (d : X) (j i : ℕ) → i < length xs → so_far d j i ≡ first_from before j (get_or xs j d) i (get_or xs i d ∷ drop (suc i) xs)
  ahead d j i l = ap (first_from before j (get_or xs j d) i) (drop_more xs i d l ∙ ap (λ m. get_or xs i d ∷ drop m xs) (add-one i))

  pub first_then : (d : X) (j i : ℕ) → i < length xs → before (get_or xs i d) (get_or xs j d) ≡ true → so_far d j i ≡ so_far d i (i + 1)
  first_then d j i l t = ahead d j i l ∙ cond-true (before (get_or xs i d) (get_or xs j d)) _ _ t ∙ ap (so_far d i) (sym (add-one i))

  pub first_else : (d : X) (j i : ℕ) → i < length xs → before (get_or xs i d) (get_or xs j d) ≡ false → so_far d j i ≡ so_far d j (i + 1)
  first_else d j i l t = ahead d j i l ∙ cond-false (before (get_or xs i d) (get_or xs j d)) _ _ t ∙ ap (so_far d j) (sym (add-one i))

  pub first_end : (d : X) (j i : ℕ) → length xs ≤ i → so_far d j i ≡ j
  first_end d j i l = ap (first_from before j (get_or xs j d) i) (drop_all i xs l)

pub wide_all : (n : ℕ) (ls hs ls' hs' ds : List ℕ) → n ≤ length ls → n ≤ length hs → n ≤ length ls' → n ≤ length hs' → n ≤ length ds → ((k : ℕ) → k < n → get_or ls' k 0 ≡ min (get_or ls k 0) (get_or ds k 0)) → ((k : ℕ) → k < n → get_or hs' k 0 ≡ max (get_or hs k 0) (get_or ds k 0)) → ranges n ls' hs' ≡ widened (ranges n ls hs) (take n ds)
wide_all zero ls hs ls' hs' ds a b c d e f g = refl
wide_all (suc n) [] hs ls' hs' ds a b c d e f g = absurd (not-suc-le-zero a)
wide_all (suc n) (l ∷ ls) [] ls' hs' ds a b c d e f g = absurd (not-suc-le-zero b)
wide_all (suc n) (l ∷ ls) (h ∷ hs) [] hs' ds a b c d e f g = absurd (not-suc-le-zero c)
wide_all (suc n) (l ∷ ls) (h ∷ hs) (l' ∷ ls') [] ds a b c d e f g = absurd (not-suc-le-zero d)
wide_all (suc n) (l ∷ ls) (h ∷ hs) (l' ∷ ls') (h' ∷ hs') [] a b c d e f g = absurd (not-suc-le-zero e)
wide_all (suc n) (l ∷ ls) (h ∷ hs) (l' ∷ ls') (h' ∷ hs') (x ∷ ds) a b c d e f g =
    let p = f zero (omega arith) in
    let q = g zero (omega arith) in
    let r = wide_all n ls hs ls' hs' ds (omega arith) (omega arith) (omega arith) (omega arith) (omega arith) (λ k u. f (suc k) (omega arith)) (λ k u. g (suc k) (omega arith)) in
    λ i. record { low = p i; high = q i } ∷ r i
