use Rattle.std.proofs.Common.{◌+◌, ◌-◌, refl, ap, ◌∙◌, arith}
use Rattle.hits.specs.Lists.{closed}
use Rattle.hits.proofs.Closing.{closed_length}
use Rattle.gnat_order.specs.Order.{places, placed, swapped}
use Rattle.gnat_order.proofs.Places.{places_placed}
use Rattle.gnat_order.proofs.Moves.{length_swapped}
use Rattle.gnat.proofs.Taking.{placed_twice, length_places}
use Rattle.gnat.proofs.listing.unlist.Goals as goal

pub returns-then-freed : goal.returns-then-freed
returns-then-freed g c =
    let rows = c.args.rows.now in
    let s = c.args.standing in
    let m = c.args.marked in
    let B = closed c.args.at s (places rows) in
    let long = closed_length c.args.at s (places rows) c.requires.listed (omega (arith, c.requires.fits, length_places rows)) ∙ length_places rows in
    rw c.if-freed.true (record {
      count = refl;
      leaves = c.swap_places.ensures
          ∙ (ap (λ z. placed (swapped (s - 1) ((s - 1) + m) (places z)) z) c.move_behind.ensures
          ∙ (ap (λ ps. placed (swapped (s - 1) ((s - 1) + m) ps) (placed B rows)) (places_placed B rows long)
          ∙ placed_twice B (swapped (s - 1) ((s - 1) + m) B) rows (length_swapped (s - 1) ((s - 1) + m) B ∙ long)));
    })
