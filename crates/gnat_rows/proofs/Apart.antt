-- Lists of rows that are apart. Assumes nothing.
use Rattle.std.proofs.Common.{◌≡◌, ℕ, ◌<◌, ◌≤◌, true, false, eqb, List, [], ◌∷◌, ◌++◌, length, sym, ⊎_elim, arith}
use Rattle.std.specs.List.{AllByRecursion, IsDistinct, list_any}
use Rattle.std.proofs.ByRecursion.{All-weaker}
use Rattle.std.proofs.lemmas.Bool.{eqb-true, ne_eqb, cases_Bool}
use Rattle.std.proofs.lemmas.Map.Steps.{length-le_from_distinct_below}
use Rattle.hits.proofs.Among.{all_left, all_right, all_both}
use Rattle.gnat_theory.specs.Shuffles.{Shuffle}
use Rattle.gnat_theory.specs.Shuffles.Shuffle.{nothing, after, swapped, in_turn}
use Rattle.gnat_theory.proofs.Shuffling.{all_shuffle, shuffle_front, shuffle_middle, shuffle_back, shuffle_before}
use Rattle.gnat_rows.specs.Lying.{Absent, Distinct}

pub all_always : {X : Type 0} (P : X → Type 0) → ((x : X) → P x) → (xs : List X) → AllByRecursion P xs
all_always P f [] = tt
all_always P f (x ∷ xs) = (f x, all_always P f xs)

pub distinct_left : (xs ys : List ℕ) → Distinct (xs ++ ys) → Distinct xs
distinct_left [] ys d = tt
distinct_left (x ∷ xs) ys d = (all_left (λ j. x ≡ j → ⊥) xs ys d.0, distinct_left xs ys d.1)

pub distinct_right : (xs ys : List ℕ) → Distinct (xs ++ ys) → Distinct ys
distinct_right [] ys d = d
distinct_right (x ∷ xs) ys d = distinct_right xs ys d.1

-- what comes behind is none of those before
pub distinct_across : (xs ys : List ℕ) → Distinct (xs ++ ys) → AllByRecursion (λ y. Absent y xs) ys
distinct_across [] ys d = all_always (λ y. Unit {0}) (λ y. tt) ys
distinct_across (x ∷ xs) ys d =
    all_both (λ j. x ≡ j → ⊥) (λ y. Absent y xs) (λ y. (y ≡ x → ⊥) × Absent y xs) (λ y n a. ((λ e. n (sym e)), a)) ys
    (all_right (λ j. x ≡ j → ⊥) xs ys d.0) (distinct_across xs ys d.1)

pub distinct_shuffle : (xs ys : List ℕ) → Shuffle ℕ xs ys → Distinct xs → Distinct ys
distinct_shuffle _ _ nothing d = d
distinct_shuffle _ _ (after x xs ys s) d = (all_shuffle (λ j. x ≡ j → ⊥) xs ys s d.0, distinct_shuffle xs ys s d.1)
distinct_shuffle _ _ (swapped x y xs) d = (((λ e. d.0.0 (sym e)), d.1.0), (d.0.1, d.1.1))
distinct_shuffle _ _ (in_turn xs ys zs s t) d = distinct_shuffle ys zs t (distinct_shuffle xs ys s d)

-- one row, and those below it, come to the front
pub arranged : (before : List ℕ) (i : ℕ) (below behind : List ℕ) → Shuffle ℕ (before ++ (i ∷ (below ++ behind))) (i ∷ (below ++ (before ++ behind)))
arranged before i below behind =
    in_turn (before ++ (i ∷ (below ++ behind))) (i ∷ (before ++ (below ++ behind))) (i ∷ (below ++ (before ++ behind)))
    (shuffle_front before i (below ++ behind)) (after i (before ++ (below ++ behind)) (below ++ (before ++ behind)) (shuffle_middle before below behind))

-- the same with others in front, which come behind the one row
pub arranged_with : (extra before : List ℕ) (i : ℕ) (below behind : List ℕ) → Shuffle ℕ (extra ++ (before ++ (i ∷ (below ++ behind)))) ((i ∷ (extra ++ below)) ++ (before ++ behind))
arranged_with [] before i below behind = arranged before i below behind
arranged_with (x ∷ xs) before i below behind =
    let rest = (xs ++ below) ++ (before ++ behind) in
    in_turn (x ∷ (xs ++ (before ++ (i ∷ (below ++ behind))))) (x ∷ (i ∷ rest)) (i ∷ (x ∷ rest))
    (after x (xs ++ (before ++ (i ∷ (below ++ behind)))) (i ∷ rest) (arranged_with xs before i below behind)) (swapped x i rest)

-- more rows below, and so more in all
pub arranged_back : (at : ℕ) (before : List ℕ) (i : ℕ) (below below' behind : List ℕ) → Shuffle ℕ below' (at ∷ below) → Shuffle ℕ (before ++ (i ∷ (below' ++ behind))) (at ∷ (before ++ (i ∷ (below ++ behind))))
arranged_back at before i below below' behind s =
    let old = at ∷ (before ++ (i ∷ (below ++ behind))) in
    let middle = i ∷ (below' ++ (before ++ behind)) in
    let front = i ∷ (at ∷ (below ++ (before ++ behind))) in
    in_turn (before ++ (i ∷ (below' ++ behind))) middle old (arranged before i below' behind)
    (in_turn middle front old
    (after i (below' ++ (before ++ behind)) ((at ∷ below) ++ (before ++ behind)) (shuffle_before (before ++ behind) below' (at ∷ below) s))
    (shuffle_back old front (arranged_with (at ∷ []) before i below behind)))

-- the same by the test of the library's sets
apart_by_test : (is : List ℕ) → Distinct is → IsDistinct eqb is
unfolding IsDistinct
apart_by_test [] d = tt
apart_by_test (i ∷ is) d = (All-weaker (λ j. i ≡ j → ⊥) (λ j. eqb i j ≡ false) (λ j ne. ne_eqb i j ne) is d.0, apart_by_test is d.1)

found_below : (n : ℕ) (is : List ℕ) → AllByRecursion (λ i. i < n) is → (q : ℕ) → list_any (eqb q) is ≡ true → q < n
found_below n [] a q h = cc
found_below n (i ∷ is) a q h = ⊎_elim
    (λ t. let e : q ≡ i = eqb-true q i t in omega (arith, a.0))
    (λ f. found_below n is a.1 q (rw f at h))
    (cases_Bool (eqb q i))

-- numbers below n that are apart are at most n
pub distinct_few : (n : ℕ) (is : List ℕ) → AllByRecursion (λ i. i < n) is → Distinct is → length is ≤ n
distinct_few n is below d = length-le_from_distinct_below is n (apart_by_test is d) (found_below n is below)
