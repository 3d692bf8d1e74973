-- The outcome of each call, cause by cause. Assumes nothing.
use Rattle.std.proofs.Common.{◌≡◌, ℕ, ◌+◌, ◌<◌, ◌≤◌, Bool, true, false, cond, ◌||◌, eqb, ltb, List, [], ◌∷◌, length, take, Some, None, sym, ap, ◌∙◌, ⊎_elim, arith, le-ltb, eq-eqb, ne_eqb}
use Rattle.std.proofs.lemmas.List.{take_all}
use Rattle.std.proofs.lemmas.Bool.{cases_lt}
use Rattle.hits.specs.declared.Hit.{Hit}
use Rattle.hits.specs.Lists.{over}
use Rattle.hits.specs.Samples.{hits}
use Rattle.hits.proofs.Ranking.{length_hits}
use Rattle.index.specs.Meaning.{Meaning, added, dropped, element_at}
use Rattle.index.specs.Outcomes.{Outcome, gives, refuses, room_outcome, given_room}
use Rattle.index.specs.Calls.{bad_count, room_of, add_outcome, add_leaves_at, add_leaves, standing_outcome, drop_leaves_at, drop_leaves, near_count, near_outcome, near_hits, near_list}

given_not_refused : (n : ℕ) (figures : List ℕ) → ◌≡◌ {A = Outcome Unit} (gives tt) (refuses n figures) → ⊥
given_not_refused n figures i = let z : ◌≡◌ {A = ℕ} 0 1 = cc in omega arith

-- there is room: not all places are taken, and not all numbers
module _ (capacity standing last : ℕ) (free : gives tt ≡ room_outcome capacity standing last) where
  pub room_left : standing ≡ capacity → ⊥
  room_left e = given_not_refused 3 [] (free ∙ ap (λ x. cond x (refuses 3 []) (cond (eqb last 65535) (refuses 4 []) (gives tt))) (eq-eqb standing capacity e))

  pub numbers_left : last ≡ 65535 → ⊥
  numbers_left e = neither (eqb standing capacity) (free ∙ ap (λ x. cond (eqb standing capacity) (refuses 3 []) (cond x (refuses 4 []) (gives tt))) (eq-eqb last 65535 e))
    where
      neither : (b : Bool) → ◌≡◌ {A = Outcome Unit} (gives tt) (cond b (refuses 3 []) (refuses 4 [])) → ⊥
      neither true i = given_not_refused 3 [] i
      neither false i = given_not_refused 4 [] i

module _ {E : Type 0} (m : Meaning E) (e : E) where
  -- add, where there is no room
  pub add_refused : (n : ℕ) (figures : List ℕ) → refuses n figures ≡ room_of m → (refuses n figures ≡ add_outcome m) × (m ≡ add_leaves m e)
  add_refused n figures i = (ap (λ o. given_room o (m.last + 1)) i, ap (add_leaves_at m e) i)

  -- add, where there is
  pub add_done : gives tt ≡ room_of m → (gives (m.last + 1) ≡ add_outcome m) × (added m e ≡ add_leaves m e)
  add_done i = (ap (λ o. given_room o (m.last + 1)) i, ap (add_leaves_at m e) i)

module _ {E : Type 0} (m : Meaning E) (n : ℕ) where
  -- a call for a sample that does not stand
  pub call_absent : {A : Type 0} (f : E → A) → element_at n m.standing ≡ None → refuses 5 (n ∷ []) ≡ standing_outcome f n (element_at n m.standing)
  call_absent f i = ap (standing_outcome f n) (sym i)

  -- a call for one that does
  pub call_standing : {A : Type 0} (f : E → A) (e : E) → element_at n m.standing ≡ Some e → gives (f e) ≡ standing_outcome f n (element_at n m.standing)
  call_standing f e i = ap (standing_outcome f n) (sym i)

  pub drop_absent : element_at n m.standing ≡ None → m ≡ drop_leaves m n
  drop_absent i = ap (drop_leaves_at m n) (sym i)

  pub drop_done : (e : E) → element_at n m.standing ≡ Some e → dropped m n ≡ drop_leaves m n
  drop_done e i = ap (drop_leaves_at m n) (sym i)

module _ {E : Type 0} (dist : E → E → ℕ) (m : Meaning E) (q : E) (k : ℕ) (list : List Hit) where
  -- near, where the count is 0 or too large
  pub near_refused : bad_count k list ≡ true → (refuses 2 [] ≡ near_outcome m k list) × (list ≡ near_list dist m q k list)
  near_refused i = let t = sym i in (ap (λ x. cond x (refuses 2 []) (gives (near_count m k))) t, ap (λ x. cond x list (over (near_hits dist m q k) list)) t)

  module _ (low : 0 < k) (high : k ≤ length list) where
    good_count : bad_count k list ≡ false
    good_count = ap (λ x. x || ltb (length list) k) (ne_eqb k 0 (λ i. omega arith)) ∙ le-ltb (length list) k high

    first : take k (hits dist q m.standing) ≡ near_hits dist m q k
    first =
        let hs = hits dist q m.standing in
        let n = length_hits dist q m.standing in
        ⊎_elim
        (λ l. ap (λ j. take j hs) (omega arith))
        (λ l. take_all k hs (omega arith) ∙ sym (take_all (near_count m k) hs (omega arith)))
        (cases_lt k (length m.standing))

    -- near, where it answers
    pub near_done : (gives (near_count m k) ≡ near_outcome m k list) × (over (take k (hits dist q m.standing)) list ≡ near_list dist m q k list)
    near_done =
        let t = sym good_count in (
          ap (λ x. cond x (refuses 2 []) (gives (near_count m k))) t,
          ap (λ z. over z list) first ∙ ap (λ x. cond x list (over (near_hits dist m q k) list)) t,
        )
