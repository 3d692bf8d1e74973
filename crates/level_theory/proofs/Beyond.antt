-- Settings that are refused: the first that is outside its range.
use Rattle.std.proofs.Common.{◌≡◌, ℕ, ◌<◌, ◌≤◌, Bool, true, false, cond, ◌&&◌, ◌||◌, eqb, ltb, leb, ◌⊎◌, inl, inr, List, [], ◌∷◌, refl, ltb-true, ltb-false, eq-eqb, eqb-true, le-leb}
use Rattle.std.proofs.lemmas.Bool.{cases_lt}
use Rattle.index.specs.Outcomes.{Outcome, gives, refuses}
use Rattle.gnat.specs.Chosen.{outside}
use Rattle.level_theory.specs.Levels.{neighbours_outcome, then_neighbours, header_outcome}
use Rattle.level_theory.specs.Refusing.{Beyond, Within, IndexChosen, FirstBeyond, bad_degree, bad_bucket, bad_k}
use Rattle.level_theory.proofs.Numbers.{and_both}

beyond : (low high n : ℕ) → outside low high n ≡ true → Beyond low high n
beyond low high n e = go (ltb n low) refl e
  where
    go : (b : Bool) → ltb n low ≡ b → (b || ltb high n) ≡ true → Beyond low high n
    go true f o = inl (ltb-true n low f)
    go false f o = inr (ltb-true high n o)

within : (low high n : ℕ) → outside low high n ≡ false → Within low high n
within low high n e = go (ltb n low) refl e
  where
    go : (b : Bool) → ltb n low ≡ b → (b || ltb high n) ≡ false → Within low high n
    go true f o = absurd (cc)
    go false f o = (ltb-false n low f, ltb-false high n o)

k_beyond : (k : ℕ) → (leb 1 k && leb k 8) ≡ false → Beyond 1 8 k
k_beyond k e = low (cases_lt k 1)
  where
    high : 1 ≤ k → (8 < k) ⊎ (k ≤ 8) → Beyond 1 8 k
    high h (inl g) = inr g
    high h (inr g) = absurd (let f : (true && true) ≡ false = rw (le-leb 1 k h, le-leb k 8 g) at e in cc)

    low : (k < 1) ⊎ (1 ≤ k) → Beyond 1 8 k
    low (inl g) = inl g
    low (inr h) = high h (cases_lt 8 k)

not_scan : (degree bucket : ℕ) → (eqb degree 0 && eqb bucket 0) ≡ false → degree ≡ 0 → bucket ≡ 0 → ⊥
not_scan degree bucket e d b = let f : (true && true) ≡ false = rw (eq-eqb degree 0 d, eq-eqb bucket 0 b) at e in cc

-- what a refusal of settings says
pub record SettingsRefused (degree bucket k n : ℕ) (figures : List ℕ) : Type 0 where
  pub number : n ≡ 1
  pub value : ℕ
  pub told : figures ≡ value ∷ []
  pub first : FirstBeyond degree bucket k value

neighbours_refused : (degree bucket k n : ℕ) (figures : List ℕ) → IndexChosen degree bucket → neighbours_outcome k ≡ refuses n figures → SettingsRefused degree bucket k n figures
neighbours_refused degree bucket k n figures c e = go (leb 1 k && leb k 8) refl e
  where
    go : (b : Bool) → (leb 1 k && leb k 8) ≡ b → cond {A = Outcome Unit} b (gives tt) (refuses 1 (k ∷ [])) ≡ refuses n figures → SettingsRefused degree bucket k n figures
    go true f o = absurd (cc)
    go false f o = record { number = cc; value = k; told = cc; first = bad_k c (k_beyond k f) }

tree_refused : (degree bucket k n : ℕ) (figures : List ℕ) (x y : Bool) → (degree ≡ 0 → bucket ≡ 0 → ⊥) → outside 2 8 degree ≡ x → outside degree 32 bucket ≡ y → then_neighbours {A = ℕ × ℕ} (cond x (refuses 1 (degree ∷ [])) (cond y (refuses 1 (bucket ∷ [])) (gives (degree, bucket)))) k ≡ refuses n figures → SettingsRefused degree bucket k n figures
tree_refused degree bucket k n figures true y s f g o = record { number = cc; value = degree; told = cc; first = bad_degree s (beyond 2 8 degree f) }
tree_refused degree bucket k n figures false true s f g o = record { number = cc; value = bucket; told = cc; first = bad_bucket (within 2 8 degree f) (beyond degree 32 bucket g) }
tree_refused degree bucket k n figures false false s f g o = neighbours_refused degree bucket k n figures (inr (within 2 8 degree f, within degree 32 bucket g)) o

pub settings_refused : (degree bucket k n : ℕ) (figures : List ℕ) → header_outcome degree bucket k ≡ refuses n figures → SettingsRefused degree bucket k n figures
settings_refused degree bucket k n figures e = go (eqb degree 0 && eqb bucket 0) refl e
  where
    go : (b : Bool) → (eqb degree 0 && eqb bucket 0) ≡ b → cond b (neighbours_outcome k) (then_neighbours {A = ℕ × ℕ} (cond (outside 2 8 degree) (refuses 1 (degree ∷ [])) (cond (outside degree 32 bucket) (refuses 1 (bucket ∷ [])) (gives (degree, bucket)))) k) ≡ refuses n figures → SettingsRefused degree bucket k n figures
    go true f o = (let z = and_both (eqb degree 0) (eqb bucket 0) f in neighbours_refused degree bucket k n figures (inl (eqb-true degree 0 z.0, eqb-true bucket 0 z.1)) o)
    go false f o = tree_refused degree bucket k n figures (outside 2 8 degree) (outside degree 32 bucket) (not_scan degree bucket f) refl refl o
