-- A GNAT with room for one more sample, and with it. Assumes nothing.
use Rattle.std.proofs.Common.{◌≡◌, ℕ, ◌+◌, ◌<◌, ltb, length, sym, refl, ap, ◌∙◌, arith, lt-ltb}
use Rattle.std.proofs.lemmas.Bool.{cond-true, cond-false, le-ltb}
use Rattle.index.specs.Meaning.{added}
use Rattle.gnat_theory.specs.Tree.{members}
use Rattle.gnat_theory.specs.Splitting.{grown}
use Rattle.gnat_theory.specs.Rebuilding.{rebuilt, made_room}
use Rattle.gnat_rows.proofs.Showing.{shows_length}
use Rattle.gnat.specs.States.{State, capacity_of, standing_in, meaning_of, tree_in}
use Rattle.gnat.proofs.Laid.{LaidOut, rows_in_tree, whole_tree}
use Rattle.gnat.specs.Changes.{Rebuilt, FiledNew, Inserted}

module _ {E : Type 0} (dist : E → E → ℕ) (g : State E) (o : LaidOut dist g) (room : g.standing < capacity_of g) where
  -- as g, with a free row
  pub record Roomy (h : State E) : Type 0 where
    pub free : h.standing + h.marked < capacity_of h
    pub means : meaning_of h ≡ meaning_of g
    pub tree : tree_in h ≡ made_room dist g.settings.degree g.settings.bucket (capacity_of g) (standing_in g) (tree_in g)
    pub settings : h.settings ≡ g.settings
    pub last : h.last ≡ g.last

  members_counted : length (members (tree_in g)) ≡ g.standing + g.marked
  members_counted = ap (λ t. length (members t)) (whole_tree dist g o) ∙ (sym (shows_length g.rows g.root o.tree o.lies o.shows) ∙ rows_in_tree dist g o)

  pub as_it_was : (g.standing + g.marked ≡ capacity_of g → ⊥) → Roomy g
  as_it_was left =
      let free : g.standing + g.marked < capacity_of g = omega (arith, o.in_use, left) in
      record {
        free = free;
        means = refl;
        tree = sym (cond-true (ltb (length (members (tree_in g))) (capacity_of g)) (tree_in g) (rebuilt dist g.settings.degree g.settings.bucket (standing_in g)) (lt-ltb (length (members (tree_in g))) (capacity_of g) (omega (arith, members_counted))));
        settings = refl;
        last = refl;
      }

  pub made_anew : g.standing + g.marked ≡ capacity_of g → (h : State E) → Rebuilt dist g h → Roomy h
  made_anew full h r =
      let same : capacity_of h ≡ capacity_of g = ap (λ m. m.capacity) r.means in
      record {
        free = omega (arith, r.standing, r.marked, same);
        means = r.means;
        tree = r.tree ∙ sym (cond-false (ltb (length (members (tree_in g))) (capacity_of g)) (tree_in g) (rebuilt dist g.settings.degree g.settings.bucket (standing_in g)) (le-ltb (length (members (tree_in g))) (capacity_of g) (omega (arith, members_counted))));
        settings = r.settings;
        last = r.last;
      }

  pub inserted : (e : E) (h k : State E) → Roomy h → FiledNew dist h e k → Inserted dist g e k
  inserted e h k r f = record {
    means = f.means ∙ ap (λ m. added m e) r.means;
    tree = f.tree ∙ (λ i. grown dist (r.settings i).degree (r.settings i).bucket (record { number = r.last i + 1; element = e }) (r.tree i));
    settings = f.settings ∙ r.settings;
    last = f.last ∙ ap (λ n. n + 1) r.last;
  }
