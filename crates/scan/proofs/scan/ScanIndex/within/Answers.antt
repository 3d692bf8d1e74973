use Rattle.std.proofs.Common.{length, take, ap, ◌∙◌}
use Rattle.hits.specs.Lists.{over}
use Rattle.hits.specs.Order.{inside}
use Rattle.hits.specs.Samples.{hits}
use Rattle.scan.specs.Rows.{samples}
use Rattle.scan.proofs.States.{lent, ranked}
use Rattle.scan.proofs.scan.ScanIndex.within.Goals as goal

pub returns : goal.returns
returns g c =
    let s = c.args.self.now in
    let dist = g.E.Metric.dist in
    let q = c.args.q.now in
    let r = c.args.radius in
    let list = c.args.list.now in
    record {
      answer = c.gather.ensures.count ∙ ap (λ rows. length (inside r (hits dist q (samples rows)))) (lent s);
      writes = c.gather.ensures.writes ∙ ap (λ rows. over (take (length list) (inside r (hits dist q (samples rows)))) list) (lent s);
      ranked = ranked s dist q;
    }
