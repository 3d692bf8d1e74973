use Rattle.std.proofs.Common.{◌≡◌, length, get_or, set, sym, ap, ◌∙◌, length-set}
use Rattle.std.proofs.lemmas.List.{length-map}
use Rattle.gnat_order.specs.Order.{places, placed}
use Rattle.gnat_order.proofs.Places.{place_of, placed_own, put_next}
use Rattle.gnat_order.proofs.swap_places.Goals as goal

pub returns : goal.returns
returns g c =
    let rows = c.args.rows.now in
    let i = c.args.i in
    let j = c.args.j in
    let ps = places rows in
    let a = c.place_in-first.ensures in
    let b = c.place_in-second.ensures in
    let first = a.2 ∙ sym (place_of rows i a.0 a.1) in
    let second = b.2 ∙ sym (place_of rows j b.0 b.1) in
    let long : length ps ≡ length rows = length-map rows _ in
    let one = put_next rows rows c.put_place.new.rows ps i c.place_in-second.result long (sym (placed_own rows)) c.put_place.ensures in
    let two = put_next rows c.put_place.new.rows c.put_place-2.new.rows (set ps i c.place_in-second.result) j c.place_in-first.result (length-set ps i c.place_in-second.result ∙ long) one c.put_place-2.ensures in
    two ∙ (ap (λ x. placed (set (set ps i x) j c.place_in-first.result) rows) second ∙ ap (λ y. placed (set (set ps i (get_or ps j 0)) j y) rows) first)
