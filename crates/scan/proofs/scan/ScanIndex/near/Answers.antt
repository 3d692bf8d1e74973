use Rattle.std.proofs.Common.{◌≡◌, ◌-◌, ◌<◌, true, eqb, ltb, length, ap, ◌∙◌, ⊎_elim, arith, lt-ltb, eq-eqb}
use Rattle.std.proofs.lemmas.Bool.{or_left, or_right}
use Rattle.index.specs.Outcomes.{gives}
use Rattle.index.specs.Calls.{bad_count}
use Rattle.index.proofs.Outcomes.{near_refused, near_done}
use Rattle.scan.specs.Rows.{samples}
use Rattle.scan.specs.Scans.{scan_meaning}
use Rattle.scan.proofs.States.{lent, ranked, near_writes, near_counts}
use Rattle.scan.proofs.scan.ScanIndex.near.Goals as goal

pub returns-then-k-eq0 : goal.returns-then-k-eq0
returns-then-k-eq0 g c =
    let s = c.args.self.now in
    let k = c.args.k in
    let list = c.args.list.now in
    let bad : bad_count k list ≡ true = ⊎_elim
    (λ e. or_left (eqb k 0) (ltb (length list) k) (eq-eqb k 0 e))
    (λ e. or_right (eqb k 0) (ltb (length list) k) (lt-ltb (length list) k e.1))
    c.then-k-eq0.either in
    let r = near_refused g.E.Metric.dist (scan_meaning s) c.args.q.now k list bad in
    record { answer = r.0; writes = r.1; ranked = ranked s g.E.Metric.dist c.args.q.now }

pub returns : goal.returns
returns g c =
    let s = c.args.self.now in
    let dist = g.E.Metric.dist in
    let laws = g.E.Metric.laws in
    let q = c.args.q.now in
    let k = c.args.k in
    let list = c.args.list.now in
    let fits = c.if-k-list.false in
    let low : 0 < k = omega (arith, c.if-k-eq0.false) in
    let all : k - 0 ≡ k = omega arith in
    let lends = ap samples (lent s) in
    let r = near_done dist (scan_meaning s) q k list low fits in
    record {
      answer = ap gives (near_counts dist laws q (scan_meaning s).standing _ lends k c.gather-found.result c.min.result c.gather-found.ensures.count c.min.ensures) ∙ r.0;
      writes = near_writes dist laws q (scan_meaning s).standing _ lends k list fits (k - 0) all c.gather-found.new.list c.gather-found.ensures.writes ∙ r.1;
      ranked = ranked s dist q;
    }
