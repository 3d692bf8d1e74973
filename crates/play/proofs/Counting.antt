-- How long the first lines of an output are.
use Rattle.std.proofs.Common.{◌≡◌, ℕ, zero, suc, ◌+◌, ◌-◌, ◌<◌, ◌≤◌, Bool, true, false, cond, eqb, List, [], ◌∷◌, length, get_or, drop, refl, ap, ◌∙◌, arith, ne_eqb}
use Rattle.std.proofs.lemmas.List.{drop_more}
use Rattle.printing.specs.Outputs.{lines_length}

-- of a byte that is read with lines left
pub byte_newline : (n b : ℕ) (bs : List ℕ) → b ≡ 10 → lines_length (suc n) (b ∷ bs) ≡ suc (lines_length n bs)
byte_newline n b bs e = rw e refl

pub byte_other : (n b : ℕ) (bs : List ℕ) → eqb b 10 ≡ false → lines_length (suc n) (b ∷ bs) ≡ suc (lines_length (suc n) bs)
byte_other n b bs e = rw e refl

pub lines_none : (n : ℕ) → lines_length n [] ≡ 0
lines_none zero = refl
lines_none (suc n) = refl

pub lines_within : (n : ℕ) (bs : List ℕ) → lines_length n bs ≤ length bs
lines_within zero bs = omega arith
lines_within (suc n) [] = omega arith
lines_within (suc n) (b ∷ bs) = go (eqb b 10) (lines_within n bs) (lines_within (suc n) bs)
  where
    go : (t : Bool) → lines_length n bs ≤ length bs → lines_length (suc n) bs ≤ length bs → suc (cond t (lines_length n bs) (lines_length (suc n) bs)) ≤ suc (length bs)
    go true x y = omega arith
    go false x y = omega arith

-- a byte of the output with lines left
pub step_newline : (total left i : ℕ) (out : List ℕ) → i < length out → (left ≡ 0 → ⊥) → get_or out i 0 ≡ 10 → total ≡ i + lines_length left (drop i out) → total ≡ (i + 1) + lines_length (left - 1) (drop (i + 1) out)
step_newline total zero i out h some e t = absurd (some refl)
step_newline total (suc n) i out h some e t =
    let r : lines_length (suc n) (drop i out) ≡ suc (lines_length n (drop (i + 1) out)) = ap (lines_length (suc n)) (drop_more out i 0 h) ∙ byte_newline n (get_or out i 0) (drop (i + 1) out) e in
    let m : suc n - 1 ≡ n = omega arith in
    rw m (omega arith)

pub step_other : (total left i : ℕ) (out : List ℕ) → i < length out → (left ≡ 0 → ⊥) → (get_or out i 0 ≡ 10 → ⊥) → total ≡ i + lines_length left (drop i out) → total ≡ (i + 1) + lines_length left (drop (i + 1) out)
step_other total zero i out h some e t = absurd (some refl)
step_other total (suc n) i out h some e t =
    let r : lines_length (suc n) (drop i out) ≡ suc (lines_length (suc n) (drop (i + 1) out)) = ap (lines_length (suc n)) (drop_more out i 0 h) ∙ byte_other n (get_or out i 0) (drop (i + 1) out) (ne_eqb (get_or out i 0) 10 e) in
    omega arith
