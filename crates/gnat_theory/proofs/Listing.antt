-- A split is by the rule. Assumes nothing.
use Rattle.std.proofs.Common.{◌≡◌, ℕ, zero, suc, ◌+◌, ◌<◌, ◌≤◌, Bool, cond, eqb, List, [], ◌∷◌, ◌++◌, length, sym, refl, ap, ◌∙◌, subst, arith}
use Rattle.std.proofs.lemmas.Bool.{eq-eqb, ne_eqb}
use Rattle.std.proofs.lemmas.List.{append_assoc, append-nil}
use Rattle.std.proofs.lemmas.List.Elements.{filter-append}
use Rattle.hits.specs.Samples.{Sample}
use Rattle.gnat_theory.specs.Tree.{Parts, pivots}
use Rattle.gnat_theory.specs.Tree.Tree.{leaf, branch}
use Rattle.gnat_theory.specs.Tree.Parts.{none, part}
use Rattle.gnat_theory.specs.Filing.{nearest, distances, filed, filed_under, filed_all}
use Rattle.gnat_theory.specs.Splitting.{chosen, bare, split}
use Rattle.gnat_theory.specs.Ranges.{Throughout, RangesFit, RangesTight}
use Rattle.gnat_theory.specs.Shapes.{Leaves}
use Rattle.gnat_theory.specs.Rules.{nearest_to, Lists, Chooses, SplitByRule}
use Rattle.gnat_theory.proofs.Filed.{filed_pivots, fit_carries, tight_carries}
use Rattle.gnat_theory.proofs.Splits.{bare_pivots, pivot_number, others_number, split_leaves, split_throughout}
use Rattle.gnat_theory.proofs.Choosing.{chooses}

module _ {E : Type 0} (dist : E → E → ℕ) where
  nearest_here : (all : List (Sample E)) (j : ℕ) (xs : List (Sample E)) (s : Sample E) → nearest (distances dist all s) ≡ j → nearest_to dist all j (xs ++ (s ∷ [])) ≡ nearest_to dist all j xs ++ (s ∷ [])
  nearest_here all j xs s e =
      let test : Sample E → Bool = λ x. eqb (nearest (distances dist all x)) j in
      filter-append test xs (s ∷ []) ∙ ap (λ t. nearest_to dist all j xs ++ cond t (s ∷ []) []) (eq-eqb (nearest (distances dist all s)) j e)

  nearest_elsewhere : (all : List (Sample E)) (j : ℕ) (xs : List (Sample E)) (s : Sample E) → (nearest (distances dist all s) ≡ j → ⊥) → nearest_to dist all j (xs ++ (s ∷ [])) ≡ nearest_to dist all j xs
  nearest_elsewhere all j xs s e =
      let test : Sample E → Bool = λ x. eqb (nearest (distances dist all x)) j in
      filter-append test xs (s ∷ [])
      ∙ (ap (λ t. nearest_to dist all j xs ++ cond t (s ∷ []) []) (ne_eqb (nearest (distances dist all s)) j e) ∙ append-nil (nearest_to dist all j xs))

  -- children behind the one that takes s
  lists_behind : (all : List (Sample E)) (j : ℕ) (ps : Parts E) (xs : List (Sample E)) (s : Sample E) → nearest (distances dist all s) < j → Lists dist all j ps xs → Lists dist all j ps (xs ++ (s ∷ []))
  lists_behind all j none xs s l h = tt
  lists_behind all j (part p column t rest) xs s l h =
      (h.0 ∙ ap leaf (sym (nearest_elsewhere all j xs s (λ e. omega arith))), lists_behind all (suc j) rest xs s (omega arith) h.1)

  lists_filed : (all : List (Sample E)) (j n : ℕ) (ps : Parts E) (xs : List (Sample E)) (s : Sample E) → nearest (distances dist all s) ≡ j + n → Lists dist all j ps xs → Lists dist all j (filed_under dist leaf s (distances dist all s) n ps) (xs ++ (s ∷ []))
  lists_filed all j n none xs s e h = tt
  lists_filed all j zero (part p column t rest) xs s e h = (
    ap (filed dist leaf s) h.0 ∙ ap leaf (sym (nearest_here all j xs s (omega arith))),
    lists_behind all (suc j) rest xs s (omega arith) h.1,
  )
  lists_filed all j (suc n) (part p column t rest) xs s e h =
      (h.0 ∙ ap leaf (sym (nearest_elsewhere all j xs s (λ i. omega arith))), lists_filed all (suc j) n rest xs s (omega arith) h.1)

  lists_bare : (all : List (Sample E)) (j : ℕ) (ps qs : List (Sample E)) → Lists dist all j (bare dist ps qs) []
  lists_bare all j ps [] = tt
  lists_bare all j ps (s ∷ qs) = (refl, lists_bare all (suc j) ps qs)

  -- what becomes of a branch of leaves with the samples xs, after the samples ys
  lists_all : (ps : Parts E) (all xs ys : List (Sample E)) → pivots ps ≡ all → Lists dist all 0 ps ys → (qs : Parts E) × (filed_all dist leaf xs (branch ps) ≡ branch qs) × (pivots qs ≡ all) × Lists dist all 0 qs (ys ++ xs)
  lists_all ps all [] ys e h = (ps, refl, e, subst (Lists dist all 0 ps) (sym (append-nil ys)) h)
  lists_all ps all (s ∷ xs) ys e h =
      let ds = distances dist (pivots ps) s in
      let next = filed_under dist leaf s ds (nearest ds) ps in
      let same : filed_under dist leaf s (distances dist all s) (nearest (distances dist all s)) ps ≡ next = ap (λ z. filed_under dist leaf s (distances dist z s) (nearest (distances dist z s)) ps) (sym e) in
      let ih = lists_all next all xs (ys ++ (s ∷ [])) (filed_pivots dist leaf s ds (nearest ds) ps ∙ e)
      (subst (λ z. Lists dist all 0 z (ys ++ (s ∷ []))) same (lists_filed all 0 (nearest (distances dist all s)) ps ys s (omega arith) h)) in
      (ih.0, ih.1, ih.2, subst (Lists dist all 0 ih.0) (append_assoc ys (s ∷ []) xs) ih.3)

  pub split_by_rule : (degree : ℕ) (xs : List (Sample E)) → 1 ≤ degree → degree ≤ length xs → SplitByRule dist degree xs (split dist degree xs)
  split_by_rule degree xs some enough =
      let c = chosen dist degree [] xs in
      let h = lists_all (bare dist c.0 c.0) c.0 c.1 [] (bare_pivots dist c.0 c.0) (lists_bare c.0 0 c.0 c.0) in
      record {
        parts = h.0;
        others = c.1;
        is = h.1;
        count = ap length h.2 ∙ pivot_number dist degree xs enough;
        chosen = subst (λ z. Chooses dist [] z xs c.1) (sym h.2) (chooses dist degree xs);
        lists = subst (λ z. Lists dist z 0 h.0 c.1) (sym h.2) h.3;
        ranged = subst (Throughout (RangesFit dist)) h.1 (split_throughout dist degree some xs enough (RangesFit dist) (fit_carries dist));
        narrow = subst (Throughout (RangesTight dist)) h.1 (split_throughout dist degree some xs enough (RangesTight dist) (tight_carries dist));
        small = subst (Leaves (length c.1)) h.1 (split_leaves dist degree some xs enough);
        left = others_number dist degree xs enough;
      }
