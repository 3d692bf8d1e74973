-- Lists whose keys are each as often in both are shuffles of one another. Assumes nothing.
use Rattle.std.proofs.Common.{◌≡◌, ℕ, suc, ◌<◌, Bool, true, false, cond, eqb, List, [], ◌∷◌, ◌++◌, map, sym, refl, ap, ◌∙◌, subst, inl, inr, arith}
use Rattle.std.proofs.lemmas.Bool.{eqb-true, eq-eqb, cond-true}
use Rattle.std.proofs.lemmas.List.{map-id}
use Rattle.hits.specs.Samples.{Among}
use Rattle.gnat_theory.specs.Shuffles.{Shuffle, times, SameTimes}
use Rattle.gnat_theory.specs.Shuffles.Shuffle.{nothing, after, swapped, in_turn}
use Rattle.gnat_theory.proofs.Shuffling.{shuffle_front, shuffle_back, among_shuffle}

-- counted in either order
either_order : (a b : Bool) (t : ℕ) → cond a (suc (cond b (suc t) t)) (cond b (suc t) t) ≡ cond b (suc (cond a (suc t) t)) (cond a (suc t) t)
either_order true true t = refl
either_order true false t = refl
either_order false true t = refl
either_order false false t = refl

-- without the first of both
behind_first : (b : Bool) (m n : ℕ) → cond b (suc m) m ≡ cond b (suc n) n → m ≡ n
behind_first true m n e = omega (arith, e)
behind_first false m n e = e

module _ {X : Type 0} (key : X → ℕ) where
  pub times_shuffle : (n : ℕ) (xs ys : List X) → Shuffle X xs ys → times n (map key xs) ≡ times n (map key ys)
  times_shuffle n _ _ nothing = refl
  times_shuffle n _ _ (after x xs ys s) = ap (λ k. cond (eqb (key x) n) (suc k) k) (times_shuffle n xs ys s)
  times_shuffle n _ _ (swapped x y xs) = either_order (eqb (key x) n) (eqb (key y) n) (times n (map key xs))
  times_shuffle n _ _ (in_turn xs ys zs s t) = times_shuffle n xs ys s ∙ times_shuffle n ys zs t

  -- one with this key, and those around it
  record Picked (k : ℕ) (ys : List X) : Type 0 where
    before : List X
    one : X
    behind : List X
    is : ys ≡ before ++ (one ∷ behind)
    same_key : key one ≡ k

  pick : (k : ℕ) (ys : List X) → 0 < times k (map key ys) → Picked k ys
  pick k [] l = absurd (omega arith)
  pick k (y ∷ ys) l = go (λ more. pick k ys more) (eqb (key y) k) refl
    where
      go : (0 < times k (map key ys) → Picked k ys) → (b : Bool) → eqb (key y) k ≡ b → Picked k (y ∷ ys)
      go behind true e = record { before = []; one = y; behind = ys; is = refl; same_key = eqb-true (key y) k e }
      go behind false e =
          let p = behind (subst (λ b. 0 < cond b (suc (times k (map key ys))) (times k (map key ys))) e l) in
          record { before = y ∷ p.before; one = p.one; behind = p.behind; is = ap (λ z. y ∷ z) p.is; same_key = p.same_key }

  counted_itself : (x : X) (xs : List X) → times (key x) (map key (x ∷ xs)) ≡ suc (times (key x) (map key xs))
  counted_itself x xs = cond-true (eqb (key x) (key x)) (suc (times (key x) (map key xs))) (times (key x) (map key xs)) (eq-eqb (key x) (key x) refl)

  in_the_middle : (before : List X) (one : X) (behind : List X) → Among one (before ++ (one ∷ behind))
  in_the_middle [] one behind = inl refl
  in_the_middle (b ∷ before) one behind = inr (in_the_middle before one behind)

  -- where what has the same key is the same
  pub shuffle_by : (xs ys : List X) → ((x y : X) → Among x xs → Among y ys → key x ≡ key y → x ≡ y) → SameTimes (map key xs) (map key ys) → Shuffle X xs ys
  shuffle_by [] [] same s = nothing
  shuffle_by [] (y ∷ ys) same s = absurd (omega (arith, s (key y), counted_itself y ys))
  shuffle_by (x ∷ xs) ys same s =
      let p = pick (key x) ys (omega (arith, s (key x), counted_itself x xs)) in
      let rest = p.before ++ p.behind in
      let is : x ≡ p.one = same x p.one (inl refl) (subst (Among p.one) (sym p.is) (in_the_middle p.before p.one p.behind)) (sym p.same_key) in
      let front : Shuffle X ys (x ∷ rest) = subst (λ z. Shuffle X z (x ∷ rest)) (sym p.is) (subst (λ z. Shuffle X (p.before ++ (z ∷ p.behind)) (x ∷ rest)) is (shuffle_front p.before x p.behind)) in
      let back : Shuffle X (x ∷ rest) ys = shuffle_back ys (x ∷ rest) front in
      in_turn (x ∷ xs) (x ∷ rest) ys
      (after x xs rest
      (shuffle_by xs rest (λ u v m k e. same u v (inr m) (among_shuffle v (x ∷ rest) ys back (inr k)) e)
      (λ n. behind_first (eqb (key x) n) (times n (map key xs)) (times n (map key rest)) (s n ∙ times_shuffle n ys (x ∷ rest) front))))
      back

-- of numbers, which are their own keys
pub same_times : (ms ns : List ℕ) → Shuffle ℕ ms ns → SameTimes ms ns
same_times ms ns s n = ap (times n) (sym (map-id ms)) ∙ (times_shuffle (λ k. k) n ms ns s ∙ ap (times n) (map-id ns))

pub shuffle_numbers : (ms ns : List ℕ) → SameTimes ms ns → Shuffle ℕ ms ns
shuffle_numbers ms ns s = shuffle_by (λ k. k) ms ns (λ x y m k e. e) (λ n. ap (times n) (map-id ms) ∙ (s n ∙ ap (times n) (sym (map-id ns))))

-- what is left is the same where what is taken out is
pub shuffle_left : (n : ℕ) (ms ns : List ℕ) → Shuffle ℕ (n ∷ ms) (n ∷ ns) → Shuffle ℕ ms ns
shuffle_left n ms ns s = shuffle_numbers ms ns (λ k. behind_first (eqb n k) (times k ms) (times k ns) (same_times (n ∷ ms) (n ∷ ns) s k))
