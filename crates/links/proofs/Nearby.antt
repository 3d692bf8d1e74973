-- Where a number stands among rising numbers: near the place of one that is not much greater. Assumes nothing.
use Rattle.std.proofs.Common.{◌≡◌, ℕ, zero, suc, ◌+◌, ◌-◌, ◌<◌, ◌≤◌, false, ◌⊎◌, List, [], ◌∷◌, length, get_or, take, drop, None, Some, sym, ap, ◌∙◌, subst, inl, inr, arith}
use Rattle.std.proofs.lemmas.List.{length-map, length-take, length-drop, get_or-take, get_or-drop, take-map, drop-map}
use Rattle.std.proofs.lemmas.Bool.{cases_lt, both_ways}
use Rattle.chains.specs.Edges.{Rises}
use Rattle.chains.proofs.Places.{rises_at}
use Rattle.links.specs.declared.Links.{Links}
use Rattle.links.specs.Records.{numbers, number_at, has, Found}
use Rattle.links.proofs.Resolving.{has_at, has_not}

rises_lower : (low high : ℕ) (ns : List ℕ) → low ≤ high → Rises high ns → Rises low ns
rises_lower low high [] l r = tt
rises_lower low high (n ∷ ns) l r = (omega (arith, r.0), r.1)

rises_drop : (low i : ℕ) (ns : List ℕ) → Rises low ns → Rises low (drop i ns)
rises_drop low zero ns r = r
rises_drop low (suc i) [] r = tt
rises_drop low (suc i) (n ∷ ns) r = rises_drop low i ns (rises_lower low n ns (omega (arith, r.0)) r.1)

rises_take : (low i : ℕ) (ns : List ℕ) → Rises low ns → Rises low (take i ns)
rises_take low zero ns r = tt
rises_take low (suc i) [] r = tt
rises_take low (suc i) (n ∷ ns) r = (r.0, rises_take n i ns r.1)

-- the records of a part rise too
pub rises_part : (links : List Links) (first count : ℕ) → Rises 0 (numbers links) → Rises 0 (numbers (take count (drop first links)))
rises_part links first count r =
    subst (Rises 0) (ap (take count) (drop-map (λ x. x.number) first links) ∙ take-map (λ x. x.number) count (drop first links)) (rises_take 0 count (drop first (numbers links)) (rises_drop 0 first (numbers links) r))

-- numbers rise by one at least from place to place
rises_by : (low : ℕ) (ns : List ℕ) (i j : ℕ) → Rises low ns → i ≤ j → j < length ns → get_or ns i 0 + (j - i) ≤ get_or ns j 0
rises_by low ns i zero r a b = let e : i ≡ 0 = omega arith in omega (arith, ap (λ z. get_or ns z 0) e)
rises_by low ns i (suc j) r a b = go (cases_lt j i) (λ l. rises_by low ns i j r l (omega arith))
  where
    go : (j < i) ⊎ (i ≤ j) → (i ≤ j → get_or ns i 0 + (j - i) ≤ get_or ns j 0) → get_or ns i 0 + (suc j - i) ≤ get_or ns (suc j) 0
    go (inl l) ih = let e : i ≡ suc j = omega arith in omega (arith, ap (λ z. get_or ns z 0) e)
    go (inr l) ih = omega (arith, ih l, rises_at low ns j (suc j) r (omega arith) b)

module _ (links : List Links) (rise : Rises 0 (numbers links)) (at n : ℕ) (inside : at < length links) (less : n < number_at links at) where
  many : length (numbers links) ≡ length links
  many = length-map links (λ r. r.number)

  -- where to begin to look
  abbrev pub first : ℕ
  first = at - (number_at links at - n)

  abbrev pub before : List Links
  before = take (at - first) (drop first links)

  pub before_long : length before ≡ at - first
  before_long = omega (arith, length-take (at - first) (drop first links), length-drop first links)

  -- the number at a place of the part
  there : (k : ℕ) → k < at - first → get_or (numbers before) k 0 ≡ number_at links (first + k)
  there k l =
      ap (λ z. get_or z k 0) (sym (ap (take (at - first)) (drop-map (λ x. x.number) first links) ∙ take-map (λ x. x.number) (at - first) (drop first links)))
      ∙ (get_or-take (at - first) (drop first (numbers links)) k 0 l ∙ get_or-drop first (numbers links) k 0)

  pub found_here : (k : ℕ) → k < at - first → get_or (numbers before) k 0 ≡ n → Found n links (Some (first + k))
  found_here k l e = (omega arith, sym (there k l) ∙ e)

  pub nowhere_else : has (numbers before) n ≡ false → Found n links None
  nowhere_else f = has_not (numbers links) n (λ i l e. go i (omega (arith, many)) e (cases_lt i first) (cases_lt i at))
    where
      go : (i : ℕ) → i < length links → number_at links i ≡ n → (i < first) ⊎ (first ≤ i) → (i < at) ⊎ (at ≤ i) → ⊥
      go i l e (inl a) b = omega (arith, rises_by 0 (numbers links) i at rise (omega arith) (omega (arith, many)))
      go i l e (inr a) (inr b) = omega (arith, rises_by 0 (numbers links) at i rise b (omega (arith, many)))
      go i l e (inr a) (inl b) =
          let s : first + (i - first) ≡ i = omega arith in
          both_ways (has (numbers before) n) f (has_at (numbers before) n (i - first) (omega (arith, before_long, length-map before (λ r. r.number))) (there (i - first) (omega arith) ∙ (ap (number_at links) s ∙ e)))
