-- What filing and splitting choose follows the rules. Assumes nothing.
use Rattle.std.proofs.Common.{◌≡◌, ℕ, zero, suc, ◌<◌, ◌≤◌, true, false, ltb, List, [], ◌∷◌, ◌++◌, length, get_or, sym, refl, ◌∙◌, subst, inl, inr, ⊎_elim, arith}
use Rattle.std.specs.Cmp.{IsStrictWeakOrder}
use Rattle.std.proofs.lemmas.List.MinMax.{IsStrictWeakOrder-by_number}
use Rattle.std.proofs.lemmas.Bool.{cases_order, ltb-true, ltb-false}
use Rattle.std.proofs.lemmas.Bool.Decides.{nat_tests}
use Rattle.std.proofs.lemmas.List.{append_assoc, append-nil}
use Rattle.std.proofs.ByRecursion.{All-from_get_or}
use Rattle.hits.specs.Samples.{Sample}
use Rattle.gnat_theory.specs.Choice.{first_place, removed}
use Rattle.gnat_theory.specs.Filing.{nearest}
use Rattle.gnat_theory.specs.Splitting.{gap, farther, chosen}
use Rattle.gnat_theory.specs.Rules.{FirstLeast, NoBetter, Chooses}
use Rattle.gnat_theory.proofs.Firsts.{first_best, taken_out, all_removed}

-- the nearest is the first of the least distances
pub nearest_first : (ds : List ℕ) → 0 < length ds → FirstLeast ds (nearest ds)
nearest_first ds l =
    let f = first_best ltb (IsStrictWeakOrder-by_number (λ n. n)) ds l in
    record {
      there = f.0;
      least = λ k m. ltb-false (get_or ds k 0) (get_or ds (nearest ds) 0) (f.1 k 0 m);
      first = λ k m. ltb-true (get_or ds (nearest ds) 0) (get_or ds k 0) (f.2 k 0 m);
    }

module _ {E : Type 0} (dist : E → E → ℕ) (ps : List (Sample E)) where
  farther_one_way : (x y : Sample E) → farther dist ps x y ≡ true → farther dist ps y x ≡ false
  unfolding farther
  farther_one_way x y e = grind (arith, nat_tests)

  farther_chain : (x y z : Sample E) → farther dist ps x y ≡ false → farther dist ps y z ≡ false → farther dist ps x z ≡ false
  unfolding farther
  farther_chain x y z e f = grind (arith, nat_tests)

  farther_ranks : IsStrictWeakOrder (farther dist ps)
  farther_ranks = record { one_way = farther_one_way; chain = farther_chain }

  not_nearer : (p s : Sample E) → farther dist ps s p ≡ false → gap dist ps s ≤ gap dist ps p
  unfolding farther
  not_nearer p s e = grind (arith, nat_tests)

  not_smaller : (p s : Sample E) → farther dist ps s p ≡ false → gap dist ps s ≡ gap dist ps p → p.number ≤ s.number
  unfolding farther
  not_smaller p s e f = grind (arith, nat_tests)

  no_better : (p s : Sample E) → farther dist ps s p ≡ false → NoBetter dist ps p s
  no_better p s e = ⊎_elim
      (λ i. inr (i, not_smaller p s e i))
      (λ o. ⊎_elim inl (λ l. absurd (omega (arith, not_nearer p s e))) o)
      (cases_order (gap dist ps s) (gap dist ps p))

module _ {E : Type 0} (dist : E → E → ℕ) where
  -- n more pivots are taken by the rule
  chosen_by_rule : (n : ℕ) (ps xs : List (Sample E)) → (more : List (Sample E)) × ((chosen dist n ps xs).0 ≡ ps ++ more) × Chooses dist ps more xs (chosen dist n ps xs).1
  chosen_by_rule zero ps xs = ([], sym (append-nil ps), refl)
  chosen_by_rule (suc n) ps [] = ([], sym (append-nil ps), refl)
  chosen_by_rule (suc n) ps (x ∷ xs) =
      let before = farther dist ps in
      let j = first_place before (x ∷ xs) in
      let b = get_or (x ∷ xs) j x in
      let rest = removed j (x ∷ xs) in
      let f = first_best before (farther_ranks dist ps) (x ∷ xs) (omega arith) in
      let ih = chosen_by_rule n (ps ++ (b ∷ [])) rest in (
        b ∷ ih.0,
        ih.1 ∙ append_assoc ps (b ∷ []) ih.0,
        (
          rest,
          taken_out x (x ∷ xs) j f.0,
          all_removed (NoBetter dist ps b) j (x ∷ xs) (All-from_get_or (NoBetter dist ps b) (x ∷ xs) x (λ k l. no_better dist ps b (get_or (x ∷ xs) k x) (f.1 k x l))),
          ih.2,
        ),
      )

  pub chooses : (n : ℕ) (xs : List (Sample E)) → Chooses dist [] (chosen dist n [] xs).0 xs (chosen dist n [] xs).1
  chooses n xs =
      let c = chosen_by_rule n [] xs in
      subst (λ z. Chooses dist [] z xs (chosen dist n [] xs).1) (sym c.1) c.2
