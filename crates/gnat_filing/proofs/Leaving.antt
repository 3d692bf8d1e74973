-- What a leaf becomes with one more row. Assumes nothing.
use Rattle.std.proofs.Common.{◌≡◌, ℕ, ◌+◌, ◌<◌, ◌≤◌, leb, List, [], ◌∷◌, ◌++◌, length, Some, sym, refl, ap, ◌∙◌, subst, arith}
use Rattle.std.specs.List.{slice_get}
use Rattle.std.proofs.lemmas.List.{append-nil, length-take-le, length_push}
use Rattle.std.proofs.lemmas.Bool.{le-leb, lt-leb, cond-true, cond-false}
use Rattle.hits.specs.Samples.{Sample}
use Rattle.gnat_theory.specs.Tree.{Tree}
use Rattle.gnat_theory.specs.Tree.Tree.{leaf}
use Rattle.gnat_theory.specs.Splitting.{split, kept_or_split, grown}
use Rattle.gnat_theory.specs.Shapes.{Leaves}
use Rattle.gnat_theory.specs.Shuffles.{Shuffle}
use Rattle.gnat_theory.proofs.Shuffling.{shuffle_front}
use Rattle.gnat_rows.specs.declared.Leaf.{Leaf as LeafRecord}
use Rattle.gnat_rows.specs.declared.Node.{Node}
use Rattle.gnat_rows.specs.declared.Node.TheVariants as node
use Rattle.gnat_rows.specs.declared.Row.{Row}
use Rattle.gnat_rows.specs.Shows.{sample_in, held, HoldsSamples}
use Rattle.gnat_rows.specs.Lying.{Distinct}
use Rattle.gnat_rows.proofs.Showing.{shows_leaf, holds_length, holds_append}
use Rattle.gnat_rows.proofs.Only.{only_none}
use Rattle.gnat_filing.specs.Filed.{Ready, ReadyLeaf, LeavesTree, Becomes}
use Rattle.gnat_filing.specs.Leaf.{Pushed}

pub end_to_front : (fs : List ℕ) (i : ℕ) → Shuffle ℕ (fs ++ (i ∷ [])) (i ∷ fs)
end_to_front fs i = subst (λ z. Shuffle ℕ (fs ++ (i ∷ [])) (i ∷ z)) (append-nil fs) (shuffle_front fs i [])

module _ {E : Type 0} (most : ℕ) (rows : List (Row E)) (l : LeafRecord) (at : ℕ) (xs : List (Sample E)) (r : ReadyLeaf most rows l at xs) where
  pub one_more : most ≤ 32 → length xs ≡ l.count + 1
  one_more m = sym (holds_length rows (held l ++ (at ∷ [])) xs r.holds) ∙ length_push (held l) at ∙ ap (λ z. z + 1) (length-take-le l.count l.rows (omega (arith, r.count, r.thirty_two)))

  pub leaf_longer : (l' : LeafRecord) → l.count < 32 → Pushed l l' at → LeavesTree rows rows (node.Leaf l') (leaf xs) (at ∷ held l)
  leaf_longer l' u p =
      record {
        lies = held l ++ (at ∷ []);
        shows = (l', refl, p.thirty_two, omega (arith, p.count), p.rows, r.holds);
        same_rows = end_to_front (held l) at;
        only = only_none rows (at ∷ held l);
      }

  module _ (dist : E → E → ℕ) (degree : ℕ) where
    pub leaf_kept : (l' : LeafRecord) → most ≤ 32 → l.count < most → Pushed l l' at → LeavesTree rows rows (node.Leaf l') (kept_or_split dist degree most xs) (at ∷ held l)
    leaf_kept l' m u p =
        let kept = cond-true (leb (length xs) most) (leaf xs) (split dist degree xs) (le-leb (length xs) most (omega (arith, one_more m))) in
        subst (λ z. LeavesTree rows rows (node.Leaf l') z (at ∷ held l)) (sym kept) (leaf_longer l' (omega arith) p)

    pub leaf_split : (rows' : List (Row E)) (n : Node) → most ≤ 32 → most ≤ l.count → LeavesTree rows rows' n (split dist degree xs) (at ∷ held l) → LeavesTree rows rows' n (kept_or_split dist degree most xs) (at ∷ held l)
    leaf_split rows' n m u s =
        let apart = cond-false (leb (length xs) most) (leaf xs) (split dist degree xs) (lt-leb (length xs) most (omega (arith, one_more m))) in
        subst (λ z. LeavesTree rows rows' n z (at ∷ held l)) (sym apart) s

  pub wider : (more : ℕ) → most ≤ more → ReadyLeaf more rows l at xs
  wider more m = record { thirty_two = r.thirty_two; count = omega (arith, r.count); apart = r.apart; holds = r.holds }

module _ {E : Type 0} (degree bucket : ℕ) (rows : List (Row E)) (n : Node) (at : ℕ) (t : Tree E) (fs : List ℕ) (row : Row E) where
  -- the samples of the leaf that the tree is
  pub record IsLeaf (l : LeafRecord) : Type 0 where
    pub samples : List (Sample E)
    pub tree : t ≡ leaf samples
    pub lies : held l ≡ fs
    pub ready : ReadyLeaf bucket rows l at (samples ++ (sample_in row ∷ []))

  pub is_leaf : (l : LeafRecord) → n ≡ node.Leaf l → slice_get rows at ≡ Some row → Ready degree bucket rows n at t fs → IsLeaf l
  is_leaf l e there r =
      let s = shows_leaf rows n l t fs e r.shows in
      let few : length s.0 ≤ bucket = subst (Leaves bucket) s.1 r.leaves in
      let long : length (held l) ≡ length s.0 = ap length s.4 ∙ holds_length rows fs s.0 s.5 in
      record {
        samples = s.0;
        tree = s.1;
        lies = s.4;
        ready = record {
          thirty_two = s.2;
          count = omega (arith, length-take-le l.count l.rows (omega (arith, s.2, s.3)));
          apart = subst (λ z. Distinct (at ∷ z)) (sym s.4) r.apart;
          holds = subst (λ z. HoldsSamples rows (z ++ (at ∷ [])) (s.0 ++ (sample_in row ∷ []))) (sym s.4) (holds_append rows fs (at ∷ []) s.0 (sample_in row ∷ []) s.5 (row, there, refl, tt));
        };
      }

  -- the tree of a leaf with one more row
  pub leaf_filed : (l : LeafRecord) (e : n ≡ node.Leaf l) (there : slice_get rows at ≡ Some row) (r : Ready degree bucket rows n at t fs) (dist : E → E → ℕ) (rows' : List (Row E)) (n' : Node) → Becomes (kept_or_split dist degree bucket) bucket rows rows' l n' at
      → LeavesTree rows rows' n' (grown dist degree bucket (sample_in row) t) (at ∷ fs)
  leaf_filed l e there r dist rows' n' becomes =
      let i = is_leaf l e there r in
      let xs = i.samples ++ (sample_in row ∷ []) in
      subst (λ z. LeavesTree rows rows' n' (grown dist degree bucket (sample_in row) z) (at ∷ fs)) (sym i.tree)
      (subst (λ z. LeavesTree rows rows' n' (kept_or_split dist degree bucket xs) (at ∷ z)) i.lies (becomes xs i.ready))
