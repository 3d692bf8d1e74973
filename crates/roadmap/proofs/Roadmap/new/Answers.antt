use Rattle.std.proofs.Common.{◌≤◌, sym, refl, ap, arith, rules}
use Rattle.roadmap.proofs.States.{Fields, new_means}
use Rattle.roadmap.proofs.Roadmap.new.Goals as goal

pub fill_in-used-requires : goal.fill_in-used-requires
fill_in-used-requires g c = let t = c.tally-capacity.ensures in (sym (ap (λ z. z.2) t), omega (arith, ap (λ z. z.0) t))

pub returns : goal.returns
returns g c =
    let t : Fields g.row.I.Denot = record { index = c.args.index; k = c.args.k; links = c.fill_in-used.new.links; used = c.fill_in-used.result } in
    let low : 1 ≤ c.args.k = search rules in
    let high : c.args.k ≤ 8 = search rules in
    let cap = ap (λ z. z.0) c.tally-capacity.ensures in
    let long = c.fill_in-used.auto.links in (
      low,
      high,
      omega (arith, c.if-links-capacity.false),
      new_means g.I.Index.meaning t c.args.k refl low high (omega (arith, c.if-links-capacity.false)) c.fill_in-used.ensures,
    )
