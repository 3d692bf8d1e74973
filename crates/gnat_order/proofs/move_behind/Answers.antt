use Rattle.std.proofs.Common.{◌≡◌, suc, ◌+◌, ◌-◌, ◌<◌, ◌≤◌, ◌∷◌, ◌++◌, length, get_or, take, drop, set, sym, ap, ◌∙◌, arith}
use Rattle.std.proofs.lemmas.List.{length-map}
use Rattle.hits.proofs.Closing.{closed_pieces}
use Rattle.gnat_order.specs.Order.{places, placed}
use Rattle.gnat_order.proofs.Places.{place_of, placed_own, places_placed, put_next, sliding, slid_none, slid_read, slid_more, slid_write, length_slid}
use Rattle.gnat_order.proofs.move_behind.Goals as goal

pub loop-i-init : goal.loop-i-init
loop-i-init g c =
    let rows = c.args.rows.now in
    sym (ap (λ z. placed z rows) (slid_none c.args.at (places rows)) ∙ placed_own rows)

pub loop-i-preserved : goal.loop-i-preserved
loop-i-preserved g c =
    let rows = c.args.rows.now in
    let at = c.args.at in
    let i = c.loop-i.i in
    let ps = places rows in
    let long : length ps ≡ length rows = length-map rows _ in
    let low : at ≤ i = omega arith in
    let high : i < length ps = omega arith in
    let more : suc i < length ps = omega arith in
    let slid = length_slid at i ps low high ∙ long in
    let p = c.place_in-next.ensures in
    let read : c.place_in-next.result ≡ get_or ps (i + 1) 0 = p.2 ∙ (sym (place_of c.loop-i.rows (i + 1) p.0 p.1) ∙ (ap (λ z. get_or (places z) (i + 1) 0) c.loop-i.invariant ∙ (ap (λ z. get_or z (i + 1) 0) (places_placed (sliding at i ps) rows slid) ∙ slid_read at i ps low high))) in
    put_next rows c.loop-i.rows c.put_place.new.rows (sliding at i ps) i c.place_in-next.result slid c.loop-i.invariant c.put_place.ensures
    ∙ ap (λ z. placed z rows) (ap (set (sliding at i ps) i) read ∙ slid_more at i ps low high more)

pub returns : goal.returns
returns g c =
    let rows = c.args.rows.now in
    let at = c.args.at in
    let count = c.args.count in
    let i = c.loop-i.i in
    let ps = places rows in
    let long : length ps ≡ length rows = length-map rows _ in
    let low : at ≤ i = omega arith in
    let last : count - 1 ≡ i = omega arith in
    let high : i < length ps = omega arith in
    let slid = length_slid at i ps low high ∙ long in
    let p = c.place_in-moved.ensures in
    let moved : c.place_in-moved.result ≡ get_or ps at 0 = p.2 ∙ sym (place_of rows at p.0 p.1) in
    let between : i - at ≡ count - suc at = omega arith in
    let after : suc i ≡ count = omega arith in
    put_next rows c.loop-i.rows c.put_place-2.new.rows (sliding at i ps) (count - 1) c.place_in-moved.result slid c.loop-i.invariant c.put_place-2.ensures
    ∙ ap (λ z. placed z rows) (ap (λ k. set (sliding at i ps) k c.place_in-moved.result) last ∙ (slid_write at i ps low high c.place_in-moved.result
    ∙ (ap (λ x. take at ps ++ (take (i - at) (drop (suc at) ps) ++ (x ∷ drop (suc i) ps))) moved
    ∙ (ap (λ k. take at ps ++ (take k (drop (suc at) ps) ++ (get_or ps at 0 ∷ drop (suc i) ps))) between
    ∙ (ap (λ k. take at ps ++ (take (count - suc at) (drop (suc at) ps) ++ (get_or ps at 0 ∷ drop k ps))) after
    ∙ sym (closed_pieces at count ps c.requires.0 (omega arith) 0))))))
