use Rattle.std.proofs.Common.{◌≡◌, ℕ, ◌<◌, List, length, take, drop, replicate, subst, arith}
use Rattle.std.proofs.lemmas.List.{length-take-le, length-append, length-drop, take_more_set}
use Rattle.gnat_filing.specs.Choosing.{Chosen}
use Rattle.gnat_filing.proofs.Candidates.{never_large, chosen_none, chosen_more, chosen_before}
use Rattle.gnat_filing.proofs.choosing.choose.Goals as goal

pub loop-pivot-init : goal.loop-pivot-init
loop-pivot-init g c =
    (omega arith, λ xs h. chosen_none g.E.Metric.dist (never_large g.E.Metric.laws) c.args.rows.now c.args.degree c.args.cs.now.items _ xs h)

pub next_pivot-requires : goal.next_pivot-requires
next_pivot-requires g c =
    let zeros : List ℕ = replicate 8 0 in
    let size : length (take c.args.degree zeros) ≡ c.args.degree = length-take-le c.args.degree zeros c.requires.count.0 in
    let h = c.requires.candidates in
    let m = c.loop-pivot.invariant.1 h.0 h.1 in
    record { some = omega (arith, c.loop-pivot-test.true, size, c.loop-pivot.invariant.0, c.requires.count.1); candidates = (m.pivots, m.rest, m.others) }

pub loop-pivot-preserved : goal.loop-pivot-preserved
loop-pivot-preserved g c =
    let i = c.loop-pivot.pivot-index in
    let pivots = c.loop-pivot.pivot-items in
    let zeros : List ℕ = replicate 8 0 in
    let size : length (take c.args.degree zeros) ≡ c.args.degree = length-take-le c.args.degree zeros c.requires.count.0 in
    let below : i < c.args.degree = omega (arith, c.loop-pivot-test.true, size) in
    let lt : i < length pivots = omega (arith, below, size, c.loop-pivot.auto.pivot-items) in (
      omega (arith, c.loop-pivot.invariant.0, c.next_pivot.ensures.one),
      λ xs h. chosen_more g.E.Metric.dist (never_large g.E.Metric.laws) c.args.rows.now c.args.degree i c.args.cs.now.items c.loop-pivot.cs.items c.next_pivot.new.cs.items pivots c.next_pivot.result xs
          below (omega (arith, c.next_pivot.ensures.one)) (c.loop-pivot.invariant.1 xs h) c.next_pivot.ensures.next _ (take_more_set pivots i c.next_pivot.result lt),
    )

pub returns : goal.returns
returns g c =
    let dist = g.E.Metric.dist in
    let degree = c.args.degree in
    let pivots = c.loop-pivot.pivot-items in
    let zeros : List ℕ = replicate 8 0 in
    let size : length (take degree zeros) ≡ degree = length-take-le degree zeros c.requires.count.0 in
    let long : length pivots ≡ degree = omega (arith, size, c.loop-pivot.auto.pivot-items) in
    let end : c.loop-pivot.pivot-index ≡ degree = omega (arith, size, c.loop-pivot-test.false, c.loop-pivot.auto.pivot-index-end) in
    record {
      eight = omega (arith, long, length-append pivots (drop degree zeros), length-drop degree zeros, c.requires.count.0);
      chosen = λ xs h.
          chosen_before dist (never_large g.E.Metric.laws) c.args.rows.now degree degree c.args.cs.now.items c.loop-pivot.cs.items pivots (drop degree zeros) xs long
          (subst (λ z. Chosen dist c.args.rows.now degree z c.args.cs.now.items c.loop-pivot.cs.items pivots xs) end (c.loop-pivot.invariant.1 xs h));
    }
