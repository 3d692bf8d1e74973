-- What the two wants keep of all the hits. Assumes nothing.
use Rattle.std.proofs.Common.{◌≡◌, ℕ, zero, suc, ◌<◌, ◌≤◌, false, cond, leb, List, [], ◌∷◌, take, Some, sym, refl, ap, ◌∙◌, arith}
use Rattle.std.specs.List.{AllByRecursion}
use Rattle.std.proofs.lemmas.Bool.{cond_both, leb-true, leb-false}
use Rattle.std.proofs.ByRecursion.{All-weaker}
use Rattle.hits.specs.declared.Hit.{Hit}
use Rattle.hits.specs.Order.{precedes, Sorted, put, inside}
use Rattle.hits.proofs.Precedence.{farther_behind, no_farther}
use Rattle.hits.proofs.Keeping.{take_put, inside_put, inside_put_far}
use Rattle.gnat_theory.specs.Searching.{Want, kth, nearest_hits, hits_within}

-- A want keeps `result` of all the hits that it is given, and a hit beyond its reach would change nothing of that.
pub record Keeps (w : Want) (result : List Hit → List Hit) : Type 0 where
  pub none : result [] ≡ []
  pub one_more : (h : Hit) (hs : List Hit) → Sorted hs → w.keep h (result hs) ≡ result (put h hs)
  pub beyond : (hs : List Hit) (R : ℕ) → Sorted hs → w.reach (result hs) ≡ Some R → (h : Hit) → R < h.distance → result (put h hs) ≡ result hs

kth_at_least : (d k R : ℕ) (hs : List Hit) → AllByRecursion (λ x. d ≤ x.distance) hs → kth k (take k hs) ≡ Some R → d ≤ R
kth_at_least d zero R hs a e = let z : ◌≡◌ {A = ℕ} 0 1 = cc in absurd (omega arith)
kth_at_least d (suc k) R [] a e = let z : ◌≡◌ {A = ℕ} 0 1 = cc in absurd (omega arith)
kth_at_least d (suc zero) R (h ∷ hs) a e = let z : h.distance ≡ R = cc in omega (arith, a.0)
kth_at_least d (suc (suc k)) R (h ∷ hs) a e = kth_at_least d (suc k) R hs a.1 e

put_behind : (k : ℕ) (h x : Hit) (xs : List Hit) → precedes h x ≡ false → take k (put h xs) ≡ take k xs → take (suc k) (put h (x ∷ xs)) ≡ take (suc k) (x ∷ xs)
put_behind k h x xs e ih = ap (λ t. take (suc k) (cond t (h ∷ (x ∷ xs)) (x ∷ put h xs))) e ∙ ap (λ z. x ∷ z) ih

take_beyond : (k R : ℕ) (h : Hit) (hs : List Hit) → Sorted hs → kth k (take k hs) ≡ Some R → R < h.distance → take k (put h hs) ≡ take k hs
take_beyond zero R h hs o e l = refl
take_beyond (suc k) R h [] o e l = let z : ◌≡◌ {A = ℕ} 0 1 = cc in absurd (omega arith)
take_beyond (suc zero) R h (x ∷ xs) o e l =
    let z : x.distance ≡ R = cc in
    put_behind zero h x xs (farther_behind h x (omega arith)) refl
take_beyond (suc (suc k)) R h (x ∷ xs) o e l =
    let d : x.distance ≤ R = kth_at_least x.distance (suc k) R xs (All-weaker (λ y. precedes y x ≡ false) (λ y. x.distance ≤ y.distance) (λ y f. no_farther x y f) xs o.0) e in
    put_behind (suc k) h x xs (farther_behind h x (omega arith)) (take_beyond (suc k) R h xs o.1 e l)

pub nearest_keeps : (k : ℕ) → Keeps (nearest_hits k) (take k)
nearest_keeps zero = record { none = refl; one_more = λ h hs o. refl; beyond = λ hs R o e h l. refl }
nearest_keeps (suc k) = record { none = refl; one_more = λ h hs o. take_put (suc k) h hs; beyond = λ hs R o e h l. take_beyond (suc k) R h hs o e l }

pub within_keeps : (r : ℕ) → Keeps (hits_within r) (inside r)
within_keeps r = record {
  none = refl;
  one_more = λ h hs o. cond_both (leb h.distance r) (put h (inside r hs)) (inside r hs) (λ z. z ≡ inside r (put h hs))
      (λ e. sym (inside_put r h hs o (leb-true h.distance r e)))
      (λ e. sym (inside_put_far r h hs (leb-false h.distance r e)));
  beyond = λ hs R o e h l. let z : r ≡ R = cc in inside_put_far r h hs (omega arith);
}
