-- A GNAT is lawful in every state. Assumes nothing.
use Rattle.std.specs.Prelude.{◌≡◌, ◌+◌, ◌≤◌, length, take}
use Rattle.std.proofs.Common.{subst, ◌∙◌, arith}
use Rattle.std.proofs.lemmas.List.{length-map, length-take-le, take-take}
use Rattle.index.specs.Meaning.{Lawful}
use Rattle.gnat_rows.specs.declared.Row.{Row}
use Rattle.gnat_order.specs.Order.{Within, places}
use Rattle.gnat_order.proofs.Numbers.{length_samples_at, within_take, within_wider}
use Rattle.gnat.specs.declared.gnat.Gnat.{Gnat}
use Rattle.gnat.specs.States.{State, capacity_of, listed, standing_in}
use Rattle.gnat.specs.Gnats.{state_of, gnat_meaning}

module _ {E : Type 0} (g : State E) (few : g.standing + g.marked ≤ capacity_of g) (within : Within (take (capacity_of g) (places g.rows)) (capacity_of g)) where
  pub in_rows : g.standing ≤ length g.rows
  in_rows = omega (arith, few)

  -- the rows listed are within the rows
  pub listed_within : Within (listed g) (length g.rows)
  listed_within =
      let some : g.standing ≤ capacity_of g = omega (arith, few) in
      subst (λ ps. Within ps (length g.rows)) (take-take g.standing (capacity_of g) (places g.rows) some)
      (within_take g.standing (length g.rows) (take (capacity_of g) (places g.rows)) (within_wider (capacity_of g) (length g.rows) (take (capacity_of g) (places g.rows)) (omega arith) within))

  pub standing_count : length (standing_in g) ≡ g.standing
  standing_count = length_samples_at g.rows (listed g) listed_within ∙ length-take-le g.standing (places g.rows) (omega (arith, in_rows, length-map g.rows (λ (r : Row E). r.place)))

pub gnat_lawful : {E : Type 0} {metric : _} (g : Gnat E metric) → Lawful (gnat_meaning g)
gnat_lawful g =
    let o = g.sound in
    record { capacity_bound = omega arith; last_bound = o.last_bound; rising = o.rising; room = omega (arith, standing_count (state_of g) o.few o.within, o.few) }
