-- The rows of open children, one by one. Assumes nothing.
use Rattle.std.proofs.Common.{◌≡◌, ℕ, suc, ◌+◌, ◌-◌, ◌<◌, Bool, true, false, cond, List, [], ◌∷◌, ◌++◌, get_or, sym, ap, ◌∙◌, arith}
use Rattle.std.proofs.lemmas.List.{append_assoc}
use Rattle.gnat_search.specs.Nodes.{open_rows}

module _ (rows : List ℕ) (flags : List Bool) (i count : ℕ) (l : i < count) where
  step : open_rows rows flags i (count - i) ≡ cond (get_or flags i false) (open_rows rows flags (i + 1) (count - (i + 1))) (get_or rows i 0 ∷ open_rows rows flags (i + 1) (count - (i + 1)))
  step =
      let less : count - i ≡ suc (count - (i + 1)) = omega arith in
      let next : suc i ≡ i + 1 = omega arith in
      ap (open_rows rows flags i) less ∙ ap (λ j. cond (get_or flags i false) (open_rows rows flags j (count - (i + 1))) (get_or rows i 0 ∷ open_rows rows flags j (count - (i + 1)))) next

  pub open_struck : get_or flags i false ≡ true → open_rows rows flags (i + 1) (count - (i + 1)) ≡ open_rows rows flags i (count - i)
  open_struck e = sym (step ∙ ap (λ t. cond t (open_rows rows flags (i + 1) (count - (i + 1))) (get_or rows i 0 ∷ open_rows rows flags (i + 1) (count - (i + 1)))) e)

  open_more : get_or flags i false ≡ false → get_or rows i 0 ∷ open_rows rows flags (i + 1) (count - (i + 1)) ≡ open_rows rows flags i (count - i)
  open_more e = sym (step ∙ ap (λ t. cond t (open_rows rows flags (i + 1) (count - (i + 1))) (get_or rows i 0 ∷ open_rows rows flags (i + 1) (count - (i + 1)))) e)

  -- one more row is pushed
  pub open_pushed : (pending : List ℕ) (row : ℕ) → row ≡ get_or rows i 0 → get_or flags i false ≡ false
      → (pending ++ (row ∷ [])) ++ open_rows rows flags (i + 1) (count - (i + 1)) ≡ pending ++ open_rows rows flags i (count - i)
  open_pushed pending row is e =
      ap (λ z. (pending ++ (z ∷ [])) ++ open_rows rows flags (i + 1) (count - (i + 1))) is
      ∙ (append_assoc pending (get_or rows i 0 ∷ []) (open_rows rows flags (i + 1) (count - (i + 1)))
      ∙ ap (λ z. pending ++ z) (open_more e))
