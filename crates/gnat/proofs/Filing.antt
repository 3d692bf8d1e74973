-- A GNAT in which a new sample is filed. Assumes nothing.
use Rattle.std.proofs.Common.{◌≡◌, ℕ, ◌+◌, ◌<◌, min, List, ◌∷◌, length, take, sym, refl, ap, ◌∙◌, subst, arith}
use Rattle.hits.specs.Samples.{Sample}
use Rattle.index.specs.Meaning.{added}
use Rattle.gnat_theory.specs.Splitting.{grown}
use Rattle.gnat_rows.specs.declared.Node.{Node}
use Rattle.gnat_rows.specs.declared.Row.{Row}
use Rattle.gnat_rows.specs.Trees.{samples_at, tree_of}
use Rattle.gnat_order.specs.Order.{places}
use Rattle.gnat_filing.specs.Filed.{Ready, LeavesTree, FilesIn}
use Rattle.gnat.specs.States.{State, capacity_of, meaning_of, tree_in}
use Rattle.gnat.proofs.Laid.{LaidOut}
use Rattle.gnat.proofs.Adding.{free_row, free_apart, free_within, prepared, prepared_length, prepared_shows, prepared_row, add_means, add_tree, add_sound}

module _ {E : Type 0} (dist : E → E → ℕ) (g : State E) (o : LaidOut dist g) (roomy : g.standing + g.marked < capacity_of g) (e : E) where
  abbrev number : ℕ
  number = g.last + 1

  abbrev sample : Sample E
  sample = record { number = number; element = e }

  abbrev with_it : List (Row E)
  with_it = prepared dist g o roomy number e

  abbrev row : ℕ
  row = free_row dist g o roomy

  with_it_ready : Ready g.settings.degree g.settings.bucket with_it g.root row o.tree o.lies
  with_it_ready = record {
    shows = prepared_shows dist g o roomy number e;
    apart = free_apart dist g o roomy;
    within = omega (arith, free_within dist g o roomy, prepared_length dist g o roomy number e);
    branching = o.files.branching;
    leaves = o.files.leaves;
  }

  -- the rows and the row as the program has them
  module _ (new : List (Row E)) (at : ℕ) (is_new : new ≡ with_it) (is_row : at ≡ row) where
    pub may_file_new : Ready g.settings.degree g.settings.bucket new g.root at o.tree o.lies
    may_file_new =
        subst (λ i. Ready g.settings.degree g.settings.bucket new g.root i o.tree o.lies) (sym is_row)
        (subst (λ z. Ready g.settings.degree g.settings.bucket z g.root row o.tree o.lies) (sym is_new) with_it_ready)

    module _ (later : List (Row E)) (root : Node) (files : FilesIn dist g.settings.degree g.settings.bucket new later g.root root at) (as_long : length later ≡ length new) where
      left : LeavesTree with_it later root (grown dist g.settings.degree g.settings.bucket sample o.tree) (row ∷ o.lies)
      left =
          let there = prepared_row dist g o roomy number e in
          let filed = subst (λ i. FilesIn dist g.settings.degree g.settings.bucket with_it later g.root root i) is_row (subst (λ z. FilesIn dist g.settings.degree g.settings.bucket z later g.root root at) is_new files) in
          subst (λ s. LeavesTree with_it later root (grown dist g.settings.degree g.settings.bucket s o.tree) (row ∷ o.lies)) there.2 (filed o.tree o.lies there.0 with_it_ready there.1)

      long : length later ≡ length with_it
      long = as_long ∙ ap length is_new

      pub new_means : record { capacity = min (length later) 1024; last = number; standing = samples_at later (take (g.standing + 1) (places later)) } ≡ added (meaning_of g) e
      new_means = let l = left in add_means dist g o roomy number e later root l.lies l.shows l.same_rows l.only long refl

      pub new_tree : tree_of 1025 later root ≡ grown dist g.settings.degree g.settings.bucket sample (tree_in g)
      new_tree = let l = left in add_tree dist g o roomy number e later root l.lies l.shows l.same_rows l.only long

      pub new_sound : g.last < 65535 → (h : State E) → h.rows ≡ later → h.root ≡ root → h.settings ≡ g.settings → h.standing ≡ g.standing + 1 → h.marked ≡ g.marked → h.last ≡ g.last + 1 → LaidOut dist h
      new_sound numbers h rs rt se st mk ls = let l = left in add_sound dist g o roomy number e later root l.lies l.shows l.same_rows l.only long h rs rt se st mk ls refl (omega arith)
