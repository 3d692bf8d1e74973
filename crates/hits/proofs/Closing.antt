-- Closing up over a value that is taken out. Assumes nothing.
use Rattle.std.proofs.Common.{◌≡◌, ℕ, suc, ◌+◌, ◌-◌, ◌<◌, ◌≤◌, List, [], ◌∷◌, ◌++◌, length, get_or, take, drop, drop-cons, sym, ap, ◌∙◌, arith, length-append, length-drop, length-take}
use Rattle.std.proofs.lemmas.List.{append_assoc, drop-drop, drop-take, take_at, take-take}
use Rattle.std.proofs.lemmas.Slice.{between_is}
use Rattle.hits.specs.Lists.{part, closed}

module _ {X : Type 0} (at used : ℕ) (xs : List X) (l : at < used) (b : used ≤ length xs) where
  -- what counts after closing up: what did, without the value taken out
  pub closed_front : take (used - 1) (closed at used xs) ≡ take at (take used xs) ++ drop (suc at) (take used xs)
  closed_front =
      let mid = drop 1 (part at used xs) in
      let back = take 1 (part at used xs) ++ drop used xs in
      let size : length (take at xs ++ mid) ≡ used - 1 = simp (length-append, length-take, length-drop) (omega arith) in
      let whole : closed at used xs ≡ (take at xs ++ mid) ++ back = ap (λ z. take at xs ++ z) (append_assoc mid (take 1 (part at used xs)) (drop used xs)) ∙ sym (append_assoc (take at xs) mid back) in
      let left : take at xs ≡ take at (take used xs) = sym (take-take at used xs (omega arith)) in
      let one : at + 1 ≡ suc at = omega arith in
      let right : mid ≡ drop (suc at) (take used xs) = ap (drop 1) (between_is xs at used) ∙ (drop-drop 1 at (take used xs) ∙ ap (λ k. drop k (take used xs)) one) in
      ap (take (used - 1)) whole ∙ (take_at (take at xs ++ mid) back (used - 1) size ∙ (ap (λ z. z ++ mid) left ∙ ap (λ z. take at (take used xs) ++ z) right))

  -- piece by piece
  pub closed_pieces : (d : X) → closed at used xs ≡ take at xs ++ (take (used - suc at) (drop (suc at) xs) ++ (get_or xs at d ∷ drop used xs))
  closed_pieces d =
      let more : used - at ≡ suc (used - suc at) = omega arith in
      let mid = take (used - suc at) (drop (suc at) xs) in
      let moved : part at used xs ≡ get_or xs at d ∷ mid = ap (λ k. take k (drop at xs)) more ∙ ap (take (suc (used - suc at))) (drop-cons xs at d (omega arith)) in
      ap (λ z. take at xs ++ ((drop 1 z ++ take 1 z) ++ drop used xs)) moved ∙ ap (λ z. take at xs ++ z) (append_assoc mid (get_or xs at d ∷ []) (drop used xs))

  -- what did not go, and then what went
  pub closed_parts : (d : X) → closed at used xs ≡ (take at xs ++ drop (suc at) (take used xs)) ++ (get_or xs at d ∷ drop used xs)
  closed_parts d =
      let e : suc at + (used - suc at) ≡ used = omega arith in
      let mid : take (used - suc at) (drop (suc at) xs) ≡ drop (suc at) (take used xs) = sym (drop-take (suc at) (used - suc at) xs) ∙ ap (λ k. drop (suc at) (take k xs)) e in
      closed_pieces d ∙ (ap (λ z. take at xs ++ (z ++ (get_or xs at d ∷ drop used xs))) mid ∙ sym (append_assoc (take at xs) (drop (suc at) (take used xs)) (get_or xs at d ∷ drop used xs)))

  pub closed_length : length (closed at used xs) ≡ length xs
  closed_length = simp (length-append, length-take, length-drop) (omega arith)
