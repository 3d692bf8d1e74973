-- A node is written to a pivot's row, before or after the rows of its tree change. Assumes nothing.
use Rattle.std.proofs.Common.{◌≡◌, ℕ, List, [], ◌∷◌, Some, sym, refl, ap, ◌∙◌, subst}
use Rattle.std.specs.List.{slice_get, AllByRecursion}
use Rattle.std.proofs.ByRecursion.{All-weaker}
use Rattle.gnat_theory.specs.Tree.{Tree}
use Rattle.gnat_theory.specs.Shuffles.{Shuffle}
use Rattle.gnat_theory.proofs.Shuffling.{all_shuffle, shuffle_back}
use Rattle.gnat_rows.specs.declared.Node.{Node}
use Rattle.gnat_rows.specs.declared.Row.{Row}
use Rattle.gnat_rows.specs.Rows.{with_node}
use Rattle.gnat_rows.specs.Lying.{Absent, OnlyIn}
use Rattle.gnat_rows.proofs.Changes.{nth_changed, nth_unchanged}
use Rattle.gnat_rows.proofs.Only.{only_wider, only_then, only_node}
use Rattle.gnat_rows.proofs.Showing.{Same, frame}
use Rattle.gnat_filing.specs.Filed.{LeavesIn}
use Rattle.gnat_filing.specs.Under.{LeavesUnderIn}

-- what is none of the rows is none of them in another order
pub still_absent : (i : ℕ) (fs gs : List ℕ) → Absent i fs → Shuffle ℕ gs fs → Absent i gs
still_absent i fs gs a s = all_shuffle (λ k. i ≡ k → ⊥) fs gs (shuffle_back gs fs s) a

module _ {E : Type 0} (pivot : ℕ) (n : Node) where
  -- the row with the node in it
  abbrev pub over : Row E → Row E
  over r = record { element = r.element; number = r.number; marked = r.marked; place = r.place; node = n }

  module _ (rows rows' : List (Row E)) (put : rows' ≡ with_node pivot n rows) where
    pub put_there : (row : Row E) → slice_get rows pivot ≡ Some row → slice_get rows' pivot ≡ Some (over row)
    put_there row there = ap (λ z. slice_get z pivot) put ∙ nth_changed rows pivot over row there

    pub put_others : (i : ℕ) → (pivot ≡ i → ⊥) → Same rows rows' i
    put_others i other = ap (λ z. slice_get z i) put ∙ nth_unchanged rows pivot i over (λ e. other (sym e))

    pub put_same : (fs : List ℕ) → Absent pivot fs → AllByRecursion (Same rows rows') fs
    put_same fs apart = All-weaker (λ i. pivot ≡ i → ⊥) (Same rows rows') put_others fs apart

    put_only : (fs : List ℕ) → OnlyIn (pivot ∷ fs) rows rows'
    put_only fs = subst (OnlyIn (pivot ∷ fs) rows) (sym put) (only_wider rows (with_node pivot n rows) (pivot ∷ []) (pivot ∷ fs) (λ i a. (a.0, tt)) (only_node rows pivot n))

  module _ (Order : List ℕ → Type 0) (rows rows₁ rows₂ : List (Row E)) (t : Tree E) (fs : List ℕ) (row : Row E) (there : slice_get rows pivot ≡ Some row) (apart : Absent pivot fs) where
    -- the rows below change, and then the node is written
    pub put_after : ((lies : List ℕ) → Order lies → Absent pivot lies) → LeavesIn Order rows rows₁ n t fs → rows₂ ≡ with_node pivot n rows₁ → LeavesUnderIn Order rows rows₂ pivot t fs
    put_after off made put =
        record {
          row = row;
          there = there;
          row' = over row;
          there' = put_there rows₁ rows₂ put row (made.only.others pivot apart ∙ there);
          same_pivot = refl;
          lies = made.lies;
          shows = frame rows₁ rows₂ n t made.lies (put_same rows₁ rows₂ put made.lies (off made.lies made.same_rows)) made.shows;
          same_rows = made.same_rows;
          only = only_then rows rows₁ rows₂ (pivot ∷ fs) (only_wider rows rows₁ fs (pivot ∷ fs) (λ i a. a.1) made.only) (put_only rows₁ rows₂ put fs);
        }

    -- the node is written, and then the rows below change
    pub put_before : rows₁ ≡ with_node pivot n rows → LeavesIn Order rows₁ rows₂ n t fs → LeavesUnderIn Order rows rows₂ pivot t fs
    put_before put made =
        record {
          row = row;
          there = there;
          row' = over row;
          there' = made.only.others pivot apart ∙ put_there rows rows₁ put row there;
          same_pivot = refl;
          lies = made.lies;
          shows = made.shows;
          same_rows = made.same_rows;
          only = only_then rows rows₁ rows₂ (pivot ∷ fs) (put_only rows rows₁ put fs) (only_wider rows₁ rows₂ fs (pivot ∷ fs) (λ i a. a.1) made.only);
        }

-- the rows below change, and the node stays
pub as_it_was : {E : Type 0} (Order : List ℕ → Type 0) (rows rows' : List (Row E)) (pivot : ℕ) (t : Tree E) (fs : List ℕ) (row : Row E) → slice_get rows pivot ≡ Some row → Absent pivot fs → LeavesIn Order rows rows' row.node t fs → LeavesUnderIn Order rows rows' pivot t fs
as_it_was Order rows rows' pivot t fs row there apart made =
    record {
      row = row;
      there = there;
      row' = row;
      there' = made.only.others pivot apart ∙ there;
      same_pivot = refl;
      lies = made.lies;
      shows = made.shows;
      same_rows = made.same_rows;
      only = only_wider rows rows' fs (pivot ∷ fs) (λ i a. a.1) made.only;
    }
