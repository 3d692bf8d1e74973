-- The states of a GNAT. Assumes nothing.
use Rattle.std.proofs.Common.{◌≡◌, ℕ, ◌+◌, ◌≤◌, min, List, [], length, take, replicate, sym, refl, ap, ◌∙◌, subst, arith}
use Rattle.std.proofs.lemmas.List.{length-map}
use Rattle.index.specs.Meaning.{fresh}
use Rattle.gnat_theory.specs.Tree.Tree.{leaf}
use Rattle.gnat_theory.specs.Shuffles.{Shuffle}
use Rattle.gnat_theory.specs.Shuffles.Shuffle.{nothing}
use Rattle.gnat_theory.specs.Keeping.{Files}
use Rattle.hits.specs.Samples.{Rising}
use Rattle.gnat_theory.proofs.Theorems.{keeps_tree}
use Rattle.gnat_rows.specs.declared.Row.{Row}
use Rattle.gnat_rows.specs.Rows.{empty}
use Rattle.gnat_rows.specs.Lying.{Distinct}
use Rattle.gnat_rows.specs.Trees.{samples_at}
use Rattle.gnat_order.specs.Order.{Within, places, placed, counted}
use Rattle.gnat_order.proofs.Places.{places_placed, length_placed, length_counted, counted_within, counted_distinct}
use Rattle.gnat.specs.States.{State, capacity_of, standing_in}
use Rattle.gnat.proofs.Laid.{LaidOut}

-- a new index: its rows are listed in their own order
module _ {E : Type 0} (dist : E → E → ℕ) (rows new : List (Row E)) (count : ℕ) (is_count : count ≡ min (length rows) 1024) (lists : new ≡ placed (counted count (places rows)) rows) where
  as_long : length new ≡ length rows
  as_long = ap length lists ∙ length_placed (counted count (places rows)) rows

  own_places : places new ≡ counted count (places rows)
  own_places = ap places lists ∙ places_placed (counted count (places rows)) rows (length_counted 0 count (places rows) ∙ length-map rows _)

  same_count : min (length new) 1024 ≡ count
  same_count = ap (λ n. min n 1024) as_long ∙ sym is_count

  enough : count ≤ length (places rows)
  enough = omega (arith, length-map rows (λ (r : Row E). r.place))

  pub new_means : record { capacity = min (length new) 1024; last = 0; standing = [] } ≡ fresh {E = E} (min (length rows) 1024)
  new_means = ap (λ n. fresh (min n 1024)) as_long

  pub new_sound : (g : State E) → g.rows ≡ new → g.root ≡ empty → g.standing ≡ 0 → g.marked ≡ 0 → g.last ≡ 0 → LaidOut dist g
  new_sound g rs root standing marked last =
      let cap : capacity_of g ≡ count = ap (λ z. min (length z) 1024) rs ∙ same_count in
      let listing : take (capacity_of g) (places g.rows) ≡ take count (counted count (places rows)) = ap (λ k. take k (places g.rows)) cap ∙ ap (take count) (ap places rs ∙ own_places) in
      let none : g.standing + g.marked ≡ 0 = omega arith in
      let nobody : standing_in g ≡ [] = ap (λ k. samples_at g.rows (take k (places g.rows))) standing in
      record {
        last_bound = omega arith;
        in_use = omega arith;
        within = subst (λ k. Within (take (capacity_of g) (places g.rows)) k) (sym cap) (subst (λ z. Within z count) (sym listing) (subst (Within (take count (counted count (places rows)))) (omega arith) (counted_within 0 count (places rows) enough)));
        apart = subst Distinct (sym listing) (counted_distinct 0 count (places rows));
        rising = subst (Rising 0 g.last) (sym nobody) tt;
        tree = leaf [];
        lies = [];
        shows = (record { count = 0; rows = replicate 32 0 }, root, refl, omega arith, refl, tt);
        lists = subst (λ k. Shuffle ℕ [] (take k (places g.rows))) (sym none) nothing;
        files = subst (λ xs. Files dist g.settings.degree g.settings.bucket xs (leaf [])) (sym nobody) (keeps_tree dist g.settings.degree g.settings.bucket (omega (arith, g.settings.two)) g.settings.room).at_first;
        numbers = tt;
        given = tt;
      }
