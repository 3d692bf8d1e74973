use Rattle.std.proofs.Common.{◌≡◌, ◌<◌, true, eqb, ltb, length, take, refl, ap, ◌∙◌, ⊎_elim, arith, lt-ltb, eq-eqb}
use Rattle.std.proofs.lemmas.Bool.{or_left, or_right}
use Rattle.std.proofs.lemmas.List.{length-take-le}
use Rattle.hits.specs.Samples.{hits}
use Rattle.index.specs.Outcomes.{gives}
use Rattle.index.specs.Calls.{bad_count}
use Rattle.index.proofs.Outcomes.{near_refused, near_done}
use Rattle.gnat_search.proofs.Answering.{near_found, near_written}
use Rattle.gnat.specs.States.{standing_in, meaning_of}
use Rattle.gnat.proofs.Calls.{may_search, ranked, lent_front}
use Rattle.gnat.specs.Gnats.{state_of}
use Rattle.gnat.proofs.Laid.{laid_out}
use Rattle.gnat.proofs.gnat.GnatIndex.near.Goals as goal

pub returns-then-k-eq0 : goal.returns-then-k-eq0
returns-then-k-eq0 g c =
    let s = state_of c.args.self.now in
    let k = c.args.k in
    let list = c.args.list.now in
    let bad : bad_count k list ≡ true = ⊎_elim
    (λ e. or_left (eqb k 0) (ltb (length list) k) (eq-eqb k 0 e))
    (λ e. or_right (eqb k 0) (ltb (length list) k) (lt-ltb (length list) k e.1))
    c.then-k-eq0.either in
    let r = near_refused g.E.Metric.dist (meaning_of s) c.args.q.now k list bad in
    record { answer = r.0; writes = r.1; ranked = ranked g.E.Metric.dist s (laid_out g.E.Metric.dist s c.args.self.now.sound) c.args.q.now }

pub search-found-requires : goal.search-found-requires
search-found-requires g c =
    let s = state_of c.args.self.now in
    may_search g.E.Metric.dist s (laid_out g.E.Metric.dist s c.args.self.now.sound)

pub returns : goal.returns
returns g c =
    let s = state_of c.args.self.now in
    let dist = g.E.Metric.dist in
    let o = laid_out g.E.Metric.dist s c.args.self.now.sound in
    let q = c.args.q.now in
    let k = c.args.k in
    let list = c.args.list.now in
    let fits = c.if-k-list.false in
    let low : 0 < k = omega (arith, c.if-k-eq0.false) in
    let lent = take k list in
    let long : length lent ≡ k = length-take-le k list fits in
    let done = c.search-found.ensures o.tree o.lies o.shows in
    let found = near_found _ dist g.E.Metric.laws s.settings.degree s.settings.bucket (standing_in s) o.tree q o.files lent c.search-found.new.list c.search-found.result done in
    let written = near_written _ dist g.E.Metric.laws s.settings.degree s.settings.bucket (standing_in s) o.tree q o.files lent c.search-found.new.list c.search-found.result done in
    let r = near_done dist (meaning_of s) q k list low fits in
    record {
      answer = ap gives (omega (arith, found, long)) ∙ r.0;
      writes = lent_front (hits dist q (standing_in s)) list c.search-found.new.list k k fits refl written ∙ r.1;
      ranked = ranked dist s o q;
    }
