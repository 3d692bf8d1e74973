-- The claims. Assumes the laws of the distance, where it says so.
use Rattle.std.proofs.Common.{◌≡◌, ℕ, ◌+◌, ◌<◌, ◌≤◌, ltb, List, [], ◌∷◌, ◌++◌, length, take, sym, refl, ap, ◌∙◌, subst, arith, length-append}
use Rattle.std.proofs.lemmas.Bool.{cond_both, ltb-true}
use Rattle.std.proofs.lemmas.List.{append_assoc, append-nil}
use Rattle.metric.specs.Laws.{MetricLaws}
use Rattle.hits.specs.Order.{inside}
use Rattle.hits.specs.Samples.{Sample}
use Rattle.index.specs.Meaning.{without}
use Rattle.gnat_theory.specs.Tree.{Tree, Parts, gathered_parts, if_standing, always, standing, members, in_leaves}
use Rattle.gnat_theory.specs.Tree.Tree.{leaf, branch}
use Rattle.gnat_theory.specs.Tree.Parts.{none, part}
use Rattle.gnat_theory.specs.Filing.{filed_all}
use Rattle.gnat_theory.specs.Searching.{start}
use Rattle.gnat_theory.specs.Splitting.{kept_or_split, grown}
use Rattle.gnat_theory.specs.Rebuilding.{rebuilt, made_room, extended}
use Rattle.gnat_theory.specs.Dropping.{shrunk}
use Rattle.gnat_theory.specs.Ranges.{ChildFact, Throughout, RangesFit, RangesTight, OwnNearest}
use Rattle.gnat_theory.specs.Shapes.{Branching, part_count}
use Rattle.gnat_theory.specs.Shuffles.{Shuffle}
use Rattle.gnat_theory.specs.Shuffles.Shuffle.{nothing, after, in_turn}
use Rattle.gnat_theory.specs.Rules.{SplitsRoomily}
use Rattle.gnat_theory.specs.Keeping.{Files, Grows, Shrinks, Rebuilds, Extends, AlwaysKeepsTree, RowsCounted}
use Rattle.gnat_theory.specs.Finding.{OutsideIsBeyond, SearchExact, AlwaysBounded}
use Rattle.index.proofs.Standing.{without_fewer}
use Rattle.gnat_theory.proofs.Shuffling.{shuffle_back, shuffle_equal, shuffle_front, length_shuffle, hits_shuffle}
use Rattle.gnat_theory.proofs.Filed.{Carries, fit_carries, tight_carries, nearest_carries, filed_branching, filed_gathered, filed_throughout, filed_leaves, filed_all_gathered, filed_all_throughout}
use Rattle.gnat_theory.proofs.Splits.{split_in_leaves, grown_branching, grown_leaves, grown_gathered, grown_throughout}
use Rattle.gnat_theory.proofs.Drops.{fit_fewer, nearest_fewer, without_shuffle, shrunk_standing, shrunk_in_leaves, shrunk_count, shrunk_throughout, shrunk_branching, shrunk_leaves}
use Rattle.gnat_theory.proofs.Striking.{beyond_reach}
use Rattle.gnat_theory.proofs.Exactness.{nearest_exact, within_exact}
use Rattle.gnat_theory.proofs.Working.{search_work}
use Rattle.gnat_theory.proofs.Turns.{turn_step, turn_falls, length_weight}

-- at the end and at the front is the same
shuffle_push : {E : Type 0} (xs : List (Sample E)) (s : Sample E) → Shuffle (Sample E) (xs ++ (s ∷ [])) (s ∷ xs)
shuffle_push {E} xs s = subst (λ z. Shuffle (Sample E) (xs ++ (s ∷ [])) (s ∷ z)) (append-nil xs) (shuffle_front xs s [])

module _ {E : Type 0} (dist : E → E → ℕ) where
  mutual
    pub rows_counted : RowsCounted dist
    rows_counted (leaf xs) = omega arith
    rows_counted (branch ps) = parts_counted ps

    parts_counted : (ps : Parts E) → length (gathered_parts always ps) ≡ part_count ps + length (gathered_parts (λ p. []) ps)
    parts_counted none = omega arith
    parts_counted (part p column t rest) =
        omega (arith, rows_counted t, parts_counted rest, length-append (members t) (gathered_parts always rest), length-append (in_leaves t) (gathered_parts (λ p. []) rest))

module _ {E : Type 0} (dist : E → E → ℕ) (degree bucket : ℕ) (some : 1 ≤ degree) (room : degree ≤ bucket) where
  branchings : (xs : List (Sample E)) → Branching degree (kept_or_split dist degree bucket xs)
  branchings = grown_branching dist degree bucket some room

  every_row : (ys : List (Sample E)) → Shuffle (Sample E) (members (kept_or_split dist degree bucket ys)) ys
  every_row = grown_gathered dist degree bucket some room always (λ x. refl)

  starts : Files dist degree bucket [] (leaf [])
  starts = record { stands = nothing; branching = tt; leaves = omega arith; ranged = tt; placed = tt }

  -- what filing carries on stays
  carried : (F : ChildFact E) → Carries dist F → (s : Sample E) (t : Tree E) → Branching degree t → Throughout F t → Throughout F (grown dist degree bucket s t)
  carried F carries s t b r = filed_throughout dist (kept_or_split dist degree bucket) F carries every_row (grown_throughout dist degree bucket some room F carries) degree some s t b r

  grows : (xs : List (Sample E)) (s : Sample E) (t : Tree E) → Files dist degree bucket xs t → Grows dist degree bucket xs s t
  grows xs s t f = record {
    files = record {
      stands =
          in_turn (standing (grown dist degree bucket s t)) (s ∷ standing t) (xs ++ (s ∷ []))
          (filed_gathered dist (kept_or_split dist degree bucket) if_standing (grown_gathered dist degree bucket some room if_standing (λ x. refl)) degree some s t f.branching)
          (in_turn (s ∷ standing t) (s ∷ xs) (xs ++ (s ∷ [])) (after s (standing t) xs f.stands) (shuffle_back (xs ++ (s ∷ [])) (s ∷ xs) (shuffle_push xs s)));
      branching = filed_branching dist (kept_or_split dist degree bucket) degree branchings s t f.branching;
      leaves = filed_leaves bucket bucket (omega arith) dist (kept_or_split dist degree bucket) (grown_leaves dist degree bucket some room) s t f.leaves;
      ranged = carried (RangesFit dist) (fit_carries dist) s t f.branching f.ranged;
      placed = carried (OwnNearest dist) (nearest_carries dist) s t f.branching f.placed;
    };
    rows = filed_gathered dist (kept_or_split dist degree bucket) always every_row degree some s t f.branching;
  }

  shrinks : (xs : List (Sample E)) (n : ℕ) (t : Tree E) → Files dist degree bucket xs t → Shrinks dist degree bucket xs n t
  shrinks xs n t f = record {
    files = record {
      stands = in_turn (standing (shrunk n t)) (without n (standing t)) (without n xs) (shuffle_equal (standing (shrunk n t)) (without n (standing t)) (shrunk_standing n t)) (without_shuffle n (standing t) xs f.stands);
      branching = shrunk_branching n degree t f.branching;
      leaves = shrunk_leaves n bucket t f.leaves;
      ranged = shrunk_throughout n (RangesFit dist) (fit_fewer dist) t f.ranged;
      placed = shrunk_throughout n (OwnNearest dist) (nearest_fewer dist) t f.placed;
    };
    pivots_stay = shrunk_count n t;
    leaves_lose = shrunk_in_leaves n t;
    no_more_rows = omega (arith, rows_counted dist t, rows_counted dist (shrunk n t), shrunk_count n t, ap length (shrunk_in_leaves n t), without_fewer n (in_leaves t));
  }

  -- one after the other
  files_all : (xs ys : List (Sample E)) (t : Tree E) → Files dist degree bucket ys t → Files dist degree bucket (ys ++ xs) (filed_all dist (kept_or_split dist degree bucket) xs t)
  files_all [] ys t f = subst (λ z. Files dist degree bucket z t) (sym (append-nil ys)) f
  files_all (s ∷ xs) ys t f =
      subst (λ z. Files dist degree bucket z (filed_all dist (kept_or_split dist degree bucket) (s ∷ xs) t)) (append_assoc ys (s ∷ []) xs)
      (files_all xs (ys ++ (s ∷ [])) (grown dist degree bucket s t) (grows ys s t f).files)

  rebuilds : (xs : List (Sample E)) → Rebuilds dist degree bucket xs
  rebuilds xs = record {
    files = files_all xs [] (leaf []) starts;
    rows = subst (Shuffle (Sample E) (members (rebuilt dist degree bucket xs))) (append-nil xs) (filed_all_gathered dist (kept_or_split dist degree bucket) degree branchings some always every_row xs (leaf []) tt);
    narrow = filed_all_throughout dist (kept_or_split dist degree bucket) degree branchings some (RangesTight dist) (tight_carries dist) every_row (grown_throughout dist degree bucket some room (RangesTight dist) (tight_carries dist)) xs (leaf []) tt tt;
  }

  -- room is made for one more row
  room_made : (rows : ℕ) (xs : List (Sample E)) (t : Tree E) → Files dist degree bucket xs t → length xs < rows → Files dist degree bucket xs (made_room dist degree bucket rows xs t) × (length (members (made_room dist degree bucket rows xs t)) < rows)
  room_made rows xs t f l =
      cond_both (ltb (length (members t)) rows) t (rebuilt dist degree bucket xs) (λ z. Files dist degree bucket xs z × (length (members z) < rows))
      (λ e. (f, ltb-true (length (members t)) rows e))
      (λ e. ((rebuilds xs).files, omega (arith, length_shuffle (members (rebuilt dist degree bucket xs)) xs (rebuilds xs).rows)))

  extends : (rows : ℕ) (xs : List (Sample E)) (s : Sample E) (t : Tree E) → Files dist degree bucket xs t → length (members t) ≤ rows → length xs < rows → Extends dist degree bucket rows xs s t
  extends rows xs s t f m l =
      let roomy = made_room dist degree bucket rows xs t in
      let r = room_made rows xs t f l in
      let g = grows xs s roomy r.0 in
      record { files = g.files; suffice = omega (arith, r.1, length_shuffle (members (extended dist degree bucket rows xs s t)) (s ∷ members roomy) g.rows) }

module _ {E : Type 0} (dist : E → E → ℕ) where
  pub keeps_tree : AlwaysKeepsTree dist
  keeps_tree degree bucket some room = record {
    at_first = starts dist degree bucket some room;
    by_filing = grows dist degree bucket some room;
    by_dropping = shrinks dist degree bucket some room;
    by_rebuilding = rebuilds dist degree bucket some room;
    by_adding = extends dist degree bucket some room;
  }

  pub splits_roomily : SplitsRoomily dist
  splits_roomily degree bucket xs some twice long =
      let enough : degree ≤ length xs = omega arith in
      omega (arith, split_in_leaves dist degree some xs enough)

  pub always_bounded : AlwaysBounded dist
  always_bounded q w = record {
    at_first = λ t st. refl;
    at_last = λ st. refl;
    a_turn = turn_step dist q w;
    falls = turn_falls dist q w;
    places = length_weight;
    whole = λ t. omega arith;
  }

module _ {E : Type 0} (top : ℕ) (dist : E → E → ℕ) (laws : MetricLaws top dist) where
  pub outside_is_beyond : OutsideIsBeyond dist
  outside_is_beyond q p s r R h e = beyond_reach top dist laws q p s r R h e

  pub search_exact : SearchExact dist
  search_exact degree bucket xs t q f =
      let same = hits_shuffle dist q (standing t) xs f.stands in
      record {
        near = λ k. nearest_exact top dist laws q t f.ranged k ∙ ap (take k) same;
        within = λ r. within_exact top dist laws q t f.ranged r ∙ ap (inside r) same;
        work = λ w. omega (arith, search_work dist q w t start);
      }
