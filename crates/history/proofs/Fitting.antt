-- Which calls the lists of a run fit. Assumes nothing.
use Rattle.std.proofs.Common.{◌≡◌, ℕ, zero, suc, ◌+◌, ◌<◌, ◌≤◌, Bool, true, false, cond, leb, List, [], ◌∷◌, length, get_or, take, Ok, Err, Result, sym, refl, ap, ◌∙◌, subst, add-one, arith}
use Rattle.std.proofs.lemmas.Bool.{leb-true}
use Rattle.std.proofs.lemmas.List.{take_all}
use Rattle.history.specs.declared.Call.{Call}
use Rattle.history.specs.declared.Unplayed.{Unplayed}
use Rattle.history.specs.declared.Unplayed.TheVariants.{Unmade, Answers, Hits, Numbers}
use Rattle.history.specs.Fitting.{hit_places, number_places, fits_call, unless, fitting}

unless_ok : (a b : Result Unit Unplayed) → unless a b ≡ Ok tt → (a ≡ Ok tt) × (b ≡ Ok tt)
unless_ok (Ok u) b e = (refl, e)
unless_ok (Err x) b e = absurd (let z : ◌≡◌ {A = ℕ} 0 1 = cc in omega arith)

-- what does not fit is a list
abbrev pub OfAList : Unplayed → Type 0
OfAList (Hits n) = Unit {0}
OfAList (Numbers n) = Unit {0}
OfAList (Unmade u) = ⊥
OfAList (Answers n) = ⊥

abbrev ListsOnly : Result Unit Unplayed → Type 0
ListsOnly (Ok u) = Unit {0}
ListsOnly (Err u) = OfAList u

-- what the two tests of a call say
abbrev tested : {E C : Type 0} → Bool → Bool → Call E C → Result Unit Unplayed
tested a b c = cond a (cond b (Ok tt) (Err (Numbers (number_places c)))) (Err (Hits (hit_places c)))

module _ {E C : Type 0} (hits numbers : ℕ) where
  -- a call that fits finds its places
  pub fits_ok : (c : Call E C) → fits_call hits numbers c ≡ Ok tt → (hit_places c ≤ hits) × (number_places c ≤ numbers)
  fits_ok c = go (leb (hit_places c) hits) (leb (number_places c) numbers) refl refl
    where
      go : (a b : Bool) → leb (hit_places c) hits ≡ a → leb (number_places c) numbers ≡ b → tested a b c ≡ Ok tt → (hit_places c ≤ hits) × (number_places c ≤ numbers)
      go true true i j e = (leb-true (hit_places c) hits i, leb-true (number_places c) numbers j)
      go true false i j e = absurd (let z : ◌≡◌ {A = ℕ} 0 1 = cc in omega arith)
      go false b i j e = absurd (let z : ◌≡◌ {A = ℕ} 0 1 = cc in omega arith)

  -- a run goes on while its calls fit
  pub fitting_more : (cs : List (Call E C)) (c : Call E C) (i : ℕ) → i < length cs → c ≡ get_or cs i c → fits_call hits numbers c ≡ Ok tt → fitting hits numbers (take i cs) ≡ Ok tt → fitting hits numbers (take (i + 1) cs) ≡ Ok tt
  fitting_more cs c i l is f e = rw add-one (go cs i l is e)
    where
      go : (cs : List (Call E C)) (i : ℕ) → i < length cs → c ≡ get_or cs i c → fitting hits numbers (take i cs) ≡ Ok tt → fitting hits numbers (take (suc i) cs) ≡ Ok tt
      go [] i l is e = refl
      go (x ∷ cs) zero l is e = ap (λ z. unless (fits_call hits numbers z) (Ok tt)) (sym is) ∙ ap (λ z. unless z (Ok tt)) f
      go (x ∷ cs) (suc i) l is e =
          let u = unless_ok (fits_call hits numbers x) (fitting hits numbers (take i cs)) e in
          ap (λ z. unless z (fitting hits numbers (take (suc i) cs))) u.0 ∙ go cs i (omega arith) is u.1

  -- the first that does not fit is the refusal
  pub fitting_stops : (cs : List (Call E C)) (c : Call E C) (i : ℕ) (u : Unplayed) → i < length cs → c ≡ get_or cs i c → fits_call hits numbers c ≡ Err u → fitting hits numbers (take i cs) ≡ Ok tt → fitting hits numbers cs ≡ Err u
  fitting_stops [] c i u l is f e = absurd (omega arith)
  fitting_stops (x ∷ cs) c zero u l is f e = ap (λ z. unless (fits_call hits numbers z) (fitting hits numbers cs)) (sym is) ∙ ap (λ z. unless z (fitting hits numbers cs)) f
  fitting_stops (x ∷ cs) c (suc i) u l is f e =
      let v = unless_ok (fits_call hits numbers x) (fitting hits numbers (take i cs)) e in
      ap (λ z. unless z (fitting hits numbers cs)) v.0 ∙ fitting_stops cs c i u (omega arith) is f v.1

  pub fitting_all : (cs : List (Call E C)) (i : ℕ) → length cs ≤ i → fitting hits numbers (take i cs) ≡ Ok tt → fitting hits numbers cs ≡ Ok tt
  fitting_all cs i l e = ap (fitting hits numbers) (sym (take_all i cs l)) ∙ e

  -- each call of a list that fits
  pub fitting_at : (cs : List (Call E C)) (c : Call E C) (i : ℕ) → i < length cs → c ≡ get_or cs i c → fitting hits numbers cs ≡ Ok tt → (hit_places c ≤ hits) × (number_places c ≤ numbers)
  fitting_at [] c i l is e = absurd (omega arith)
  fitting_at (x ∷ cs) c zero l is e = (let P : Call E C → Type 0 = λ z. (hit_places z ≤ hits) × (number_places z ≤ numbers) in subst P (sym is) (fits_ok x (unless_ok (fits_call hits numbers x) (fitting hits numbers cs) e).0))
  fitting_at (x ∷ cs) c (suc i) l is e = fitting_at cs c i (omega arith) is (unless_ok (fits_call hits numbers x) (fitting hits numbers cs) e).1

  lists_only : (cs : List (Call E C)) → ListsOnly (fitting hits numbers cs)
  lists_only [] = tt
  lists_only (c ∷ cs) = go (leb (hit_places c) hits) (leb (number_places c) numbers) (lists_only cs)
    where
      go : (a b : Bool) → ListsOnly (fitting hits numbers cs) → ListsOnly (unless (tested a b c) (fitting hits numbers cs))
      go true true x = x
      go true false x = tt
      go false b x = tt

  pub fitting_lists : (cs : List (Call E C)) (u : Unplayed) → fitting hits numbers cs ≡ Err u → OfAList u
  fitting_lists cs u e = subst ListsOnly e (lists_only cs)
