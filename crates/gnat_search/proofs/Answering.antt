-- What the search of an index's tree has found, in terms of the samples that stand. Assumes the laws of the distance.
use Rattle.std.proofs.Common.{◌≡◌, ℕ, ◌≤◌, min, List, length, take, ap, ◌∙◌, arith, length-take}
use Rattle.std.proofs.lemmas.List.{take-take}
use Rattle.metric.specs.Laws.{MetricLaws}
use Rattle.hits.specs.declared.Hit.{Hit}
use Rattle.hits.specs.Lists.{over}
use Rattle.hits.specs.Order.{inside}
use Rattle.hits.specs.Samples.{Sample, hits}
use Rattle.hits.proofs.Ranking.{length_hits}
use Rattle.gnat_theory.specs.Tree.{Tree, members}
use Rattle.gnat_theory.specs.Searching.{Want, start, nearest_hits, hits_within, searched}
use Rattle.gnat_theory.specs.Keeping.{Files}
use Rattle.gnat_theory.proofs.Theorems.{search_exact}
use Rattle.gnat_search.specs.declared.found.Found.{Found}
use Rattle.gnat_search.specs.Wants.{Kept}

module _ {E : Type 0} (top : ℕ) (dist : E → E → ℕ) (laws : MetricLaws top dist) (degree bucket : ℕ) (xs : List (Sample E)) (t : Tree E) (q : E) (files : Files dist degree bucket xs t) (old new : List Hit) (r : Found) where
  -- the list has a place for each hit that is wanted
  module _ (k : Kept old new r (searched dist q (nearest_hits (length old)) t start)) where
    near_is : (searched dist q (nearest_hits (length old)) t start).kept ≡ take (length old) (hits dist q xs)
    near_is = (search_exact top dist laws degree bucket xs t q files).near (length old)

    pub near_found : r.found ≡ min (length old) (length xs)
    near_found = k.finds ∙ (ap length near_is ∙ (length-take (length old) (hits dist q xs) ∙ ap (min (length old)) (length_hits dist q xs)))

    pub near_written : new ≡ over (take (length old) (hits dist q xs)) old
    near_written = k.writes ∙ ap (λ z. over z old) (ap (take (length old)) near_is ∙ take-take (length old) (length old) (hits dist q xs) (omega arith))

  module _ (radius : ℕ) (k : Kept old new r (searched dist q (hits_within radius) t start)) where
    within_is : (searched dist q (hits_within radius) t start).kept ≡ inside radius (hits dist q xs)
    within_is = (search_exact top dist laws degree bucket xs t q files).within radius

    pub within_found : r.found ≡ length (inside radius (hits dist q xs))
    within_found = k.finds ∙ ap length within_is

    pub within_written : new ≡ over (take (length old) (inside radius (hits dist q xs))) old
    within_written = k.writes ∙ ap (λ z. over (take (length old) z) old) within_is

  -- each row in use is measured at most once
  pub work_bounded : (w : Want) → Kept old new r (searched dist q w t start) → r.measured ≤ length (members t)
  work_bounded w k = omega (arith, k.measures, (search_exact top dist laws degree bucket xs t q files).work w)
