-- A leaf and one more row become the branch of their split. Assumes nothing.
use Rattle.std.proofs.Common.{◌≡◌, ℕ, ◌+◌, ◌-◌, ◌<◌, ◌≤◌, max, List, [], ◌∷◌, ◌++◌, length, get_or, take, sym, refl, ap, ◌∙◌, subst, arith}
use Rattle.std.proofs.ByRecursion.{All-get_or}
use Rattle.std.proofs.lemmas.List.{get_or-take, length-take-le, length-map, length-append, length_push, take_all}
use Rattle.hits.specs.Samples.{Sample}
use Rattle.hits.proofs.Among.{all_right}
use Rattle.gnat_theory.specs.Tree.{Tree, pivots}
use Rattle.gnat_theory.specs.Tree.Tree.{leaf, branch}
use Rattle.gnat_theory.specs.Filing.{filed_all}
use Rattle.gnat_theory.specs.Splitting.{chosen, bare, split}
use Rattle.gnat_theory.specs.Shuffles.{Shuffle}
use Rattle.gnat_theory.specs.Shuffles.Shuffle.{in_turn}
use Rattle.gnat_theory.proofs.Shuffling.{all_shuffle, length_shuffle, shuffle_back, shuffle_parts}
use Rattle.gnat_theory.proofs.Splits.{bare_pivots, bare_branching, bare_leaves}
use Rattle.gnat_rows.specs.declared.Branch.{Branch as BranchRecord}
use Rattle.gnat_rows.specs.declared.Leaf.{Leaf as LeafRecord}
use Rattle.gnat_rows.specs.declared.Node.TheVariants as node
use Rattle.gnat_rows.specs.declared.Row.{Row}
use Rattle.gnat_rows.specs.Shows.{held}
use Rattle.gnat_rows.specs.Lying.{Absent, OnlyIn}
use Rattle.gnat_rows.proofs.Apart.{distinct_shuffle}
use Rattle.gnat_rows.proofs.Only.{only_wider, only_then, holds_kept}
use Rattle.gnat_rows.proofs.Showing.{holds_within, holds_length}
use Rattle.gnat_filing.specs.declared.choosing.Candidate.{Candidate}
use Rattle.gnat_filing.specs.Choosing.{rows_of, ListsCandidates, Chosen, ChoosesFirst}
use Rattle.gnat_rows.specs.Trees.{height_parts}
use Rattle.gnat_filing.specs.Filed.{ReadyLeaf, LeavesTree}
use Rattle.gnat_filing.specs.Filling.{Cleared, Clears, Bare, Fillable}
use Rattle.gnat_filing.proofs.Candidates.{cand_holds}
use Rattle.gnat_filing.proofs.Clearing.{bare_shown}
use Rattle.gnat_filing.proofs.Leaving.{end_to_front}

module _ {E : Type 0} (dist : E → E → ℕ) where
  bare_flat : (ps qs : List (Sample E)) → height_parts (bare dist ps qs) ≡ 0
  bare_flat ps [] = refl
  bare_flat ps (q ∷ qs) = ap (max 0) (bare_flat ps qs)

module _ {E : Type 0} (dist : E → E → ℕ) (small : (e f : E) → dist e f ≤ 1048576) (degree : ℕ) (one : 1 ≤ degree) (eight : degree ≤ 8) (rows : List (Row E)) (l : LeafRecord) (at : ℕ) (enough : degree ≤ l.count)
    (cs cs' : List Candidate) (is : List ℕ) (l8 : length is ≡ 8) (lists : ListsCandidates dist rows l at cs) (chose : ChoosesFirst dist rows degree degree cs cs' is) (xs : List (Sample E)) (r : ReadyLeaf 32 rows l at xs) where
  pub choice : Chosen dist rows degree degree cs cs' is xs
  choice = chose xs (lists xs r.holds).0

  is_chosen : (choice.pivots, choice.rest) ≡ chosen dist degree [] xs
  is_chosen = let zero : degree - degree ≡ 0 = omega arith in sym (ap (λ z. chosen dist z choice.pivots choice.rest) zero) ∙ choice.same_choice

  abbrev pub others : List ℕ
  others = rows_of cs'

  size : length (take degree is) ≡ degree
  size = length-take-le degree is (omega arith)

  -- the pivots' rows are there
  pub pivots_within : (k : ℕ) → k < degree → get_or is k 0 < length rows
  pivots_within k u = subst (λ z. z < length rows) (get_or-take degree is k 0 u) (All-get_or (λ z. z < length rows) (take degree is) k 0 (omega (arith, size)) (holds_within rows (take degree is) choice.pivots choice.holds))

  -- all but the pivots
  others_length : degree + length others ≡ l.count + 1
  others_length =
      let e = length_shuffle (take degree is ++ others) (rows_of cs) choice.same_rows in
      omega (arith, e, size, length-append (take degree is) others, ap length (lists xs r.holds).1, length_push (held l) at, length-take-le l.count l.rows (omega (arith, r.count, r.thirty_two)))

  whole : Shuffle ℕ (others ++ take degree is) (at ∷ held l)
  whole =
      let all = rows_of cs in
      in_turn (others ++ take degree is) (take degree is ++ others) (at ∷ held l) (shuffle_parts others (take degree is))
      (in_turn (take degree is ++ others) all (at ∷ held l) choice.same_rows (subst (λ z. Shuffle ℕ z (at ∷ held l)) (sym (lists xs r.holds).1) (end_to_front (held l) at)))

  abbrev pub bare_tree : Tree E
  bare_tree = branch (bare dist choice.pivots choice.pivots)

  module _ (rows₁ : List (Row E)) (b : BranchRecord) (clears : Clears rows rows₁ (take degree is) (length (take degree is))) (made : Bare dist rows₁ is degree b) where
    cleared : (k : ℕ) → k < degree → Cleared rows₁ (get_or is k 0)
    cleared k u = subst (Cleared rows₁) (get_or-take degree is k 0 u) (clears.cleared k (omega (arith, size)))

    only : OnlyIn (take degree is) rows rows₁
    only = subst (λ z. OnlyIn z rows rows₁) (take_all (length (take degree is)) (take degree is) (omega arith)) clears.only

    ready : Fillable degree rows₁ b others bare_tree (take degree is) choice.rest
    ready =
        let ps = choice.pivots in
        let holds = holds_kept rows rows₁ (take degree is) (take degree is) ps only choice.holds in
        let count : length (pivots (bare dist ps ps)) ≡ degree = ap length (bare_pivots dist ps ps) ∙ (sym (holds_length rows (take degree is) ps choice.holds) ∙ size) in
        record {
          some = one;
          shows = (b, refl, made.count ∙ sym count, omega (arith, made.count), bare_shown dist rows₁ is degree b ps (omega arith) eight cleared made holds);
          holds = holds_kept rows rows₁ (take degree is) others choice.rest only (cand_holds dist small rows ps cs' choice.rest choice.others);
          apart = distinct_shuffle (at ∷ held l) (others ++ take degree is) (shuffle_back (others ++ take degree is) (at ∷ held l) whole) r.apart;
          few = omega (arith, others_length, r.count);
          branching = (count, bare_branching dist degree ps ps);
          leaves = bare_leaves dist ps ps;
          flat = omega (arith, bare_flat dist ps ps);
        }

    -- left are the candidates that are no pivots
    pub fillable : (left : List Candidate) → left ≡ cs' → Fillable degree rows₁ b (rows_of left) bare_tree (take degree is) choice.rest
    fillable left e = subst (λ z. Fillable degree rows₁ b (rows_of z) bare_tree (take degree is) choice.rest) (sym e) ready

    all_filed : (rows₂ : List (Row E)) (b' : BranchRecord) → LeavesTree rows₁ rows₂ (node.Branch b') (filed_all dist leaf (take (length cs') choice.rest) bare_tree) (take (length cs') others ++ take degree is) → LeavesTree rows rows₂ (node.Branch b') (split dist degree xs) (at ∷ held l)
    all_filed rows₂ b' filled =
        let m = length cs' in
        let as_many : length others ≡ m = length-map cs' (λ c. c.row) in
        let fs = others ++ take degree is in
        let rest-length : length choice.rest ≡ m = sym (holds_length rows₁ others choice.rest ready.holds) ∙ as_many in
        let t : filed_all dist leaf (take m choice.rest) bare_tree ≡ split dist degree xs =
        ap (λ z. filed_all dist leaf z bare_tree) (take_all m choice.rest (omega arith)) ∙ ap (λ c. filed_all dist leaf c.1 (branch (bare dist c.0 c.0))) is_chosen in
        let all : take m others ++ take degree is ≡ fs = ap (λ z. z ++ take degree is) (take_all m others (omega arith)) in
        let made' = subst (λ z. LeavesTree rows₁ rows₂ (node.Branch b') z fs) t (subst (λ z. LeavesTree rows₁ rows₂ (node.Branch b') (filed_all dist leaf (take m choice.rest) bare_tree) z) all filled) in
        let to : (i : ℕ) → Absent i (at ∷ held l) → Absent i fs = λ i a. all_shuffle (λ k. i ≡ k → ⊥) (at ∷ held l) fs (shuffle_back fs (at ∷ held l) whole) a in
        record {
          lies = made'.lies;
          shows = made'.shows;
          same_rows = in_turn made'.lies fs (at ∷ held l) made'.same_rows whole;
          only = only_then rows rows₁ rows₂ (at ∷ held l)
              (only_wider rows rows₁ (take degree is) (at ∷ held l) (λ i a. all_right (λ k. i ≡ k → ⊥) others (take degree is) (to i a)) only)
              (only_wider rows₁ rows₂ fs (at ∷ held l) to made'.only);
        }

    pub assembled : (left : List Candidate) → left ≡ cs' → (rows₂ : List (Row E)) (b' : BranchRecord) → LeavesTree rows₁ rows₂ (node.Branch b') (filed_all dist leaf (take (length left) choice.rest) bare_tree) (take (length left) (rows_of left) ++ take degree is)
        → LeavesTree rows rows₂ (node.Branch b') (split dist degree xs) (at ∷ held l)
    assembled left e rows₂ b' filled =
        all_filed rows₂ b' (subst (λ z. LeavesTree rows₁ rows₂ (node.Branch b') (filed_all dist leaf (take (length z) choice.rest) bare_tree) (take (length z) (rows_of z) ++ take degree is)) e filled)
