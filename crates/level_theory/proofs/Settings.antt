-- What settings that hold say.
use Rattle.std.proofs.Common.{◌≡◌, ℕ, ◌≤◌, Bool, true, false, cond, ◌&&◌, ◌||◌, eqb, ltb, leb, [], ◌∷◌, refl, arith, ltb-false, eqb-true, leb-true}
use Rattle.index.specs.Outcomes.{Outcome, gives, refuses}
use Rattle.gnat.specs.Chosen.{outside, settings_outcome}
use Rattle.level_theory.specs.Levels.{neighbours_outcome, then_neighbours, header_outcome}
use Rattle.level_theory.proofs.Numbers.{and_both}

neighbours_hold : (k : ℕ) → neighbours_outcome k ≡ gives tt → (1 ≤ k) × (k ≤ 8)
neighbours_hold k e = go (leb 1 k && leb k 8) refl e
  where
    go : (b : Bool) → (leb 1 k && leb k 8) ≡ b → cond {A = Outcome Unit} b (gives tt) (refuses 1 (k ∷ [])) ≡ gives tt → (1 ≤ k) × (k ≤ 8)
    go true f o = (leb-true 1 k (and_both (leb 1 k) (leb k 8) f).0, leb-true k 8 (and_both (leb 1 k) (leb k 8) f).1)
    go false f o = absurd (let z : ◌≡◌ {A = ℕ} 0 1 = cc in omega arith)

not_outside : (low high n : ℕ) → outside low high n ≡ false → n ≤ high
not_outside low high n e = go (ltb n low) refl e
  where
    go : (b : Bool) → ltb n low ≡ b → (b || ltb high n) ≡ false → n ≤ high
    go true f o = absurd (let z : ◌≡◌ {A = ℕ} 0 1 = cc in omega arith)
    go false f o = ltb-false high n o

-- a tree's settings
pub record TreeHolds (degree bucket k : ℕ) : Type 0 where
  pub chosen : settings_outcome degree bucket ≡ gives (degree, bucket)
  pub degree_most : degree ≤ 8
  pub bucket_most : bucket ≤ 32
  pub k_least : 1 ≤ k
  pub k_most : k ≤ 8

tree_at : (degree bucket k : ℕ) (x y : Bool) → outside 2 8 degree ≡ x → outside degree 32 bucket ≡ y → then_neighbours {A = ℕ × ℕ} (cond x (refuses 1 (degree ∷ [])) (cond y (refuses 1 (bucket ∷ [])) (gives (degree, bucket)))) k ≡ gives tt → TreeHolds degree bucket k
tree_at degree bucket k true y f g o = absurd (let z : ◌≡◌ {A = ℕ} 0 1 = cc in omega arith)
tree_at degree bucket k false true f g o = absurd (let z : ◌≡◌ {A = ℕ} 0 1 = cc in omega arith)
tree_at degree bucket k false false f g o =
    let n = neighbours_hold k o in
    record { chosen = rw (f, g) refl; degree_most = not_outside 2 8 degree f; bucket_most = not_outside degree 32 bucket g; k_least = n.0; k_most = n.1 }

tree_holds : (degree bucket k : ℕ) → then_neighbours (settings_outcome degree bucket) k ≡ gives tt → TreeHolds degree bucket k
tree_holds degree bucket k e = tree_at degree bucket k (outside 2 8 degree) (outside degree 32 bucket) refl refl e

-- either they are those of the scan, or of a tree
header_at : (degree bucket k : ℕ) {A : Type 0} → ((degree ≡ 0) → (bucket ≡ 0) → (1 ≤ k) × (k ≤ 8) → A) → (TreeHolds degree bucket k → A) → (b : Bool) → (eqb degree 0 && eqb bucket 0) ≡ b → cond b (neighbours_outcome k) (then_neighbours (settings_outcome degree bucket) k) ≡ gives tt → A
header_at degree bucket k scan tree true f o = let z = and_both (eqb degree 0) (eqb bucket 0) f in scan (eqb-true degree 0 z.0) (eqb-true bucket 0 z.1) (neighbours_hold k o)
header_at degree bucket k scan tree false f o = tree (tree_holds degree bucket k o)

-- settings that hold are small
pub settings_small : (degree bucket k : ℕ) → header_outcome degree bucket k ≡ gives tt → (degree ≤ 1048576) × (bucket ≤ 1048576) × (k ≤ 1048576)
settings_small degree bucket k e = header_at degree bucket k (λ d b n. (omega arith, omega arith, omega arith)) (λ t. (omega arith, omega arith, omega arith)) (eqb degree 0 && eqb bucket 0) refl e

pub k_holds : (degree bucket k : ℕ) → header_outcome degree bucket k ≡ gives tt → (1 ≤ k) × (k ≤ 8)
k_holds degree bucket k e = header_at degree bucket k (λ d b n. n) (λ t. (t.k_least, t.k_most)) (eqb degree 0 && eqb bucket 0) refl e

-- a degree other than 0 asks for a tree
pub tree_chosen : (degree bucket k : ℕ) → (degree ≡ 0 → ⊥) → header_outcome degree bucket k ≡ gives tt → settings_outcome degree bucket ≡ gives (degree, bucket)
tree_chosen degree bucket k some e = header_at degree bucket k (λ d b n. absurd (some d)) (λ t. t.chosen) (eqb degree 0 && eqb bucket 0) refl e
