-- Arrays that a closure makes, place by place. Assumes nothing.
use Rattle.std.proofs.Common.{◌≡◌, ℕ, zero, suc, ◌+◌, ◌<◌, ◌≤◌, ◌≢◌, true, false, eqb, subst, List, length, get_or, sym, refl, arith, map}
use Rattle.std.specs.List.{range_with_len}
use Rattle.std.proofs.lemmas.Bool.{eqb-true, eqb-false}
use Rattle.std.proofs.lemmas.List.FromFn.{fill_by_all}
use denote.Param.Members.{Mut}
use Rattle.std.specs.Fn.{Called}
use Rattle.std.specs.Array.{IsFromFnResultFrom}

-- what holds of each element of an array, by a closure that stays as it is
module _ {F B : Type 0} (g : Mut F (ℕ × Unit {0}) B) (f : F) (holds : ℕ → B → Type 0) (calls : (i : ℕ) (y : B) (q : F) → Called g f (i, tt) y q → (q ≡ f) × holds i y) where
  pub each_made : (ys : List B) (n i : ℕ) (p : F) → p ≡ f → IsFromFnResultFrom g p ys i n → (k : ℕ) (e : B) → i ≤ k → k < i + n → holds k (get_or ys k e)
  each_made ys zero i p same each k e l h = absurd (omega arith)
  each_made ys (suc n) i p same each k e l h =
      let call : Called g f (i, tt) each.1 each.0 = subst (λ x. Called g x (i, tt) each.1 each.0) same each.3 in
      let first = calls i each.1 each.0 call in
      elim (eqb k i) as (λ t. eqb k i ≡ t → holds k (get_or ys k e)) [
        | true ↦ λ t. let at : k ≡ i = eqb-true k i t in subst (λ x. holds x (get_or ys x e)) (sym at) (subst (holds i) (sym (each.2.1 e)) first.1)
        | false ↦ λ t. let other : k ≢ i = eqb-false k i t in each_made ys n (i + 1) each.0 first.0 each.4 k e (omega arith) (omega arith)
      ] refl

-- what it is made of
module _ {F B : Type 0} (g : Mut F (ℕ × Unit {0}) B) (f : F) (made : ℕ → B) (calls : (i : ℕ) (y : B) (q : F) → Called g f (i, tt) y q → (q ≡ f) × (y ≡ made i)) where
  pub from_calls : (ys : List B) (n i : ℕ) (p : F) → p ≡ f → IsFromFnResultFrom g p ys i n → (k : ℕ) (e : B) → i ≤ k → k < i + n → get_or ys k e ≡ made k
  from_calls ys n i p same each k e l h = each_made g f (λ j y. y ≡ made j) calls ys n i p same each k e l h

  -- all of it
  pub made_all : (ys : List B) (n : ℕ) (d : B) → length ys ≡ n → IsFromFnResultFrom g f ys 0 n → ys ≡ map made (range_with_len 0 n)
  made_all ys n d long each = fill_by_all made ys n d long (λ k l. from_calls ys n 0 f refl each k d (omega arith) (omega arith))
