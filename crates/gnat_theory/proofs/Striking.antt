-- A struck child holds no sample within reach. Assumes the laws of the distance.
use Rattle.std.proofs.Common.{◌≡◌, ℕ, ◌+◌, ◌<◌, true, ltb, ◌⊎◌, List, [], ◌∷◌, ◌++◌, Some, None, sym, ap, ◌∙◌, inl, inr, ⊎_elim, arith}
use Rattle.std.specs.List.{AllByRecursion}
use Rattle.std.proofs.lemmas.Bool.{ltb-true, or_cases}
use Rattle.std.proofs.ByRecursion.{All-weaker}
use Rattle.metric.specs.Laws.{MetricLaws}
use Rattle.hits.specs.Samples.{Sample}
use Rattle.gnat_theory.specs.Tree.{Range}
use Rattle.gnat_theory.specs.Searching.{Sight, outside, strikes, struck}
use Rattle.gnat_theory.specs.Searching.Sight.{passed, seen}
use Rattle.gnat_theory.specs.Ranges.{Holds, Fits}

outside_cases : (d R : ℕ) (r : Range) → outside d R r ≡ true → (d + R < r.low) ⊎ (r.high + R < d)
unfolding outside
outside_cases d R r e = ⊎_elim (λ f. inl (ltb-true (d + R) r.low f)) (λ f. inr (ltb-true (r.high + R) d f)) (or_cases (ltb (d + R) r.low) (ltb (r.high + R) d) e)

module _ {E : Type 0} (top : ℕ) (dist : E → E → ℕ) (laws : MetricLaws top dist) (q : E) where
  -- a sample whose range is outside is farther than R
  pub beyond_reach : (p s : Sample E) (r : Range) (R : ℕ) → Holds dist p r s → outside (dist q p.element) R r ≡ true → R < dist q s.element
  beyond_reach p s r R h e = ⊎_elim
      (λ l. omega (arith, laws.triangle p.element q s.element, laws.symmetric q p.element, h.0))
      (λ l. omega (arith, laws.triangle q s.element p.element, laws.symmetric s.element p.element, h.1))
      (outside_cases (dist q p.element) R r e)

  -- what a sight tells: the pivot's distance, and a reach of which `Reach` holds
  abbrev pub Tells : (ℕ → Type 0) → Sample E → Sight → Type 0
  Tells Reach p passed = Unit {0}
  Tells Reach p (seen d None) = Unit {0}
  Tells Reach p (seen d (Some R)) = (d ≡ dist q p.element) × Reach R

  abbrev pub Tell : (ℕ → Type 0) → List (Sample E) → List Sight → Type 0
  Tell Reach [] [] = Unit {0}
  Tell Reach [] (s ∷ ss) = ⊥
  Tell Reach (p ∷ ps) [] = ⊥
  Tell Reach (p ∷ ps) (s ∷ ss) = Tells Reach p s × Tell Reach ps ss

  pub tell_push : (Reach : ℕ → Type 0) (ps : List (Sample E)) (ss : List Sight) (p : Sample E) (s : Sight) → Tell Reach ps ss → Tells Reach p s → Tell Reach (ps ++ (p ∷ [])) (ss ++ (s ∷ []))
  tell_push Reach [] [] p s t u = (u, tt)
  tell_push Reach [] (y ∷ ys) p s t u = absurd t
  tell_push Reach (x ∷ xs) [] p s t u = absurd t
  tell_push Reach (x ∷ xs) (y ∷ ys) p s t u = (t.0, tell_push Reach xs ys p s t.1 u)

  tells_weaker : (P Q : ℕ → Type 0) → ((R : ℕ) → P R → Q R) → (p : Sample E) (s : Sight) → Tells P p s → Tells Q p s
  tells_weaker P Q f p passed t = tt
  tells_weaker P Q f p (seen d None) t = tt
  tells_weaker P Q f p (seen d (Some R)) t = (t.0, f R t.1)

  pub tell_weaker : (P Q : ℕ → Type 0) → ((R : ℕ) → P R → Q R) → (ps : List (Sample E)) (ss : List Sight) → Tell P ps ss → Tell Q ps ss
  tell_weaker P Q f [] [] t = tt
  tell_weaker P Q f [] (s ∷ ss) t = absurd t
  tell_weaker P Q f (p ∷ ps) [] t = absurd t
  tell_weaker P Q f (p ∷ ps) (s ∷ ss) t = (tells_weaker P Q f p s t.0, tell_weaker P Q f ps ss t.1)

  -- farther than some reach of which `Reach` holds
  abbrev pub Beyond : (ℕ → Type 0) → Sample E → Type 0
  Beyond Reach s = (R : ℕ) × Reach R × (R < dist q s.element)

  beyond_one : (Reach : ℕ → Type 0) (p : Sample E) (s : Sight) (r : Range) (xs : List (Sample E)) → Tells Reach p s → AllByRecursion (Holds dist p r) xs → strikes s r ≡ true → AllByRecursion (Beyond Reach) xs
  beyond_one Reach p passed r xs t a e = let z : ◌≡◌ {A = ℕ} 0 1 = cc in absurd (omega arith)
  beyond_one Reach p (seen d None) r xs t a e = let z : ◌≡◌ {A = ℕ} 0 1 = cc in absurd (omega arith)
  beyond_one Reach p (seen d (Some R)) r xs t a e =
      All-weaker (Holds dist p r) (Beyond Reach) (λ x h. (R, t.1, beyond_reach p x r R h (ap (λ z. outside z R r) (sym t.0) ∙ e))) xs a

  -- all that a struck child holds is farther than a reach that one of the pivots so far had
  pub struck_beyond : (Reach : ℕ → Type 0) (ps more : List (Sample E)) (ss : List Sight) (rs : List Range) (xs : List (Sample E)) → Tell Reach ps ss → Fits dist (ps ++ more) rs xs → struck ss rs ≡ true → AllByRecursion (Beyond Reach) xs
  struck_beyond Reach [] more [] rs xs t f e = let z : ◌≡◌ {A = ℕ} 0 1 = cc in absurd (omega arith)
  struck_beyond Reach [] more (s ∷ ss) rs xs t f e = absurd t
  struck_beyond Reach (p ∷ ps) more [] rs xs t f e = absurd t
  struck_beyond Reach (p ∷ ps) more (s ∷ ss) [] xs t f e = absurd f
  struck_beyond Reach (p ∷ ps) more (s ∷ ss) (r ∷ rs) xs t f e = go (struck_beyond Reach ps more ss rs xs t.1 f.1) (or_cases (strikes s r) (struck ss rs) e)
    where
      go : (struck ss rs ≡ true → AllByRecursion (Beyond Reach) xs) → (strikes s r ≡ true) ⊎ (struck ss rs ≡ true) → AllByRecursion (Beyond Reach) xs
      go ih (inl u) = beyond_one Reach p s r xs t.0 f.0 u
      go ih (inr u) = ih u
