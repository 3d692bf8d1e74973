use Rattle.std.proofs.Common.{length, sym, ap, ◌∙◌, arith}
use Rattle.gnat_rows.specs.Rows.{with_sample}
use Rattle.gnat_order.specs.Order.{places, swapped}
use Rattle.gnat_order.proofs.Places.{place_of, length_placed}
use Rattle.gnat.proofs.listing.enlist.Goals as goal

pub put_sample-requires : goal.put_sample-requires
put_sample-requires g c =
    let rows = c.args.rows.now in
    let place = c.place_in-at.ensures.2 ∙ sym (place_of rows c.args.in_use c.place_in-at.ensures.0 c.place_in-at.ensures.1) in
    omega (arith, place, c.requires.within, ap length c.swap_places.ensures, length_placed (swapped c.args.standing c.args.in_use (places rows)) rows)

pub returns : goal.returns
returns g c =
    let rows = c.args.rows.now in
    let place = c.place_in-at.ensures.2 ∙ sym (place_of rows c.args.in_use c.place_in-at.ensures.0 c.place_in-at.ensures.1) in
    record {
      row = place;
      leaves = c.put_sample.ensures ∙ (ap (λ i. with_sample i c.args.number c.args.e c.swap_places.new.rows) place ∙ ap (with_sample _ c.args.number c.args.e) c.swap_places.ensures);
    }
