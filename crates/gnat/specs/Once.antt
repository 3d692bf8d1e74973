-- That a state is sound has one proof at most. Assumes nothing.
use Rattle.std.specs.Prelude.{ℕ, ◌<◌, ◌≤◌, take}
use Rattle.std.specs.Coded.{le_prop}
use Rattle.std.specs.List.{AllByRecursion-prop}
use Rattle.hits.specs.Samples.{Rising-prop, numbers_of}
use Rattle.gnat_theory.specs.Tree.{standing, members}
use Rattle.gnat_theory.proofs.Unique.{same_times_once, apart_once, branching_once, leaves_once, ranged_once, placed_once}
use Rattle.gnat_rows.specs.Trees.{rows_of}
use Rattle.gnat_rows.proofs.Whole.{is_shown_once, distinct_once}
use Rattle.gnat_order.specs.Order.{places}
use Rattle.gnat.specs.States.{State, capacity_of, in_use, standing_in, tree_in, GnatSound}

pub GnatSound-prop : {E : Type 0} (dist : E → E → ℕ) (g : State E) → IsProp (GnatSound dist g)
GnatSound-prop dist g x y =
    let t = tree_in g in
    let ps = take (capacity_of g) (places g.rows) in
    λ i. record {
      last_bound = le_prop x.last_bound y.last_bound i;
      few = le_prop x.few y.few i;
      within = AllByRecursion-prop (λ j. j < capacity_of g) (λ j. le_prop) ps x.within y.within i;
      apart = distinct_once ps x.apart y.apart i;
      rising = Rising-prop 0 g.last (standing_in g) x.rising y.rising i;
      shown = is_shown_once g.rows 1025 g.root x.shown y.shown i;
      lies = same_times_once (rows_of 1025 g.rows g.root) (in_use g) x.lies y.lies i;
      stands = same_times_once (numbers_of (standing t)) (numbers_of (standing_in g)) x.stands y.stands i;
      branching = branching_once g.settings.degree t x.branching y.branching i;
      leaves = leaves_once g.settings.bucket t x.leaves y.leaves i;
      ranged = ranged_once dist t x.ranged y.ranged i;
      placed = placed_once dist t x.placed y.placed i;
      numbers = apart_once (members t) x.numbers y.numbers i;
      given = AllByRecursion-prop (λ s. s.number ≤ g.last) (λ s. le_prop) (members t) x.given y.given i;
    }
