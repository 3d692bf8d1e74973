use Rattle.std.proofs.Common.{◌≡◌, ◌<◌, [], ◌∷◌, ◌++◌, length, take, sym, subst, arith}
use Rattle.std.proofs.ByRecursion.{All-get_or}
use Rattle.std.proofs.lemmas.List.{get_or-take, length-take, length-take-le}
use Rattle.hits.proofs.Among.{all_left, all_right}
use Rattle.gnat_rows.specs.Shows.{held}
use Rattle.gnat_rows.proofs.Showing.{holds_within}
use Rattle.gnat_filing.proofs.Candidates.{never_large}
use Rattle.gnat_filing.proofs.Assembling.{pivots_within, fillable, assembled}
use Rattle.gnat_filing.proofs.splitting.split.Goals as goal

pub candidates-cs-requires : goal.candidates-cs-requires
candidates-cs-requires g c =
    let rows = c.args.rows.now in
    let l = c.args.l in
    let r = c.requires.leaf.1 in
    let within = holds_within rows (held l ++ (c.args.at ∷ [])) c.requires.leaf.0 r.holds in
    let size : length (held l) ≡ l.count = length-take-le l.count l.rows (omega (arith, r.count, r.thirty_two)) in
    record {
      count = r.count;
      within = (
        (λ k u. subst (λ z. z < length rows) (get_or-take l.count l.rows k 0 u) (All-get_or (λ z. z < length rows) (held l) k 0 (omega arith) (all_left (λ z. z < length rows) (held l) (c.args.at ∷ []) within))),
        (all_right (λ z. z < length rows) (held l) (c.args.at ∷ []) within).0,
      );
    }

pub clear-requires : goal.clear-requires
clear-requires g c k u =
    let is = c.choose-pivots.result in
    let below : k < c.args.degree = omega (arith, u, length-take c.args.degree is) in
    subst (λ z. z < length c.args.rows.now) (sym (get_or-take c.args.degree is k 0 below))
    (pivots_within g.E.Metric.dist (never_large g.E.Metric.laws) c.args.degree c.requires.degree.0 c.requires.degree.1.0 c.args.rows.now c.args.l c.args.at c.requires.degree.1.1
    c.candidates-cs.result.items c.choose-pivots.new.cs.items c.choose-pivots.result c.choose-pivots.ensures.eight c.candidates-cs.ensures c.choose-pivots.ensures.chosen c.requires.leaf.0 c.requires.leaf.1 k below)

pub bare-b-requires : goal.bare-b-requires
bare-b-requires g c =
    let within = pivots_within g.E.Metric.dist (never_large g.E.Metric.laws) c.args.degree c.requires.degree.0 c.requires.degree.1.0 c.args.rows.now c.args.l c.args.at c.requires.degree.1.1
    c.candidates-cs.result.items c.choose-pivots.new.cs.items c.choose-pivots.result c.choose-pivots.ensures.eight c.candidates-cs.ensures c.choose-pivots.ensures.chosen c.requires.leaf.0 c.requires.leaf.1 in
    (c.requires.degree.0, (c.requires.degree.1.0, λ k u. omega (arith, within k u, c.clear.auto.rows)))

pub fill-requires : goal.fill-requires
fill-requires g c = (
  c.args.degree,
  _,
  take c.args.degree c.choose-pivots.result,
  _,
  fillable g.E.Metric.dist (never_large g.E.Metric.laws) c.args.degree c.requires.degree.0 c.requires.degree.1.0 c.args.rows.now c.args.l c.args.at c.requires.degree.1.1
      c.candidates-cs.result.items c.choose-pivots.new.cs.items c.choose-pivots.result c.choose-pivots.ensures.eight c.candidates-cs.ensures c.choose-pivots.ensures.chosen c.requires.leaf.0 c.requires.leaf.1
      c.clear.new.rows c.bare-b.result c.clear.ensures c.bare-b.ensures c.as_slice.result.now c.as_slice.ensures.value,
)

pub returns : goal.returns
returns g c xs r =
    let ready = fillable g.E.Metric.dist (never_large g.E.Metric.laws) c.args.degree c.requires.degree.0 c.requires.degree.1.0 c.args.rows.now c.args.l c.args.at c.requires.degree.1.1
    c.candidates-cs.result.items c.choose-pivots.new.cs.items c.choose-pivots.result c.choose-pivots.ensures.eight c.candidates-cs.ensures c.choose-pivots.ensures.chosen xs r
    c.clear.new.rows c.bare-b.result c.clear.ensures c.bare-b.ensures c.as_slice.result.now c.as_slice.ensures.value in
    assembled g.E.Metric.dist (never_large g.E.Metric.laws) c.args.degree c.requires.degree.0 c.requires.degree.1.0 c.args.rows.now c.args.l c.args.at c.requires.degree.1.1
    c.candidates-cs.result.items c.choose-pivots.new.cs.items c.choose-pivots.result c.choose-pivots.ensures.eight c.candidates-cs.ensures c.choose-pivots.ensures.chosen xs r
    c.clear.new.rows c.bare-b.result c.clear.ensures c.bare-b.ensures c.as_slice.result.now c.as_slice.ensures.value c.fill.new.rows c.fill.new.b
    (c.fill.ensures c.args.degree _ (take c.args.degree c.choose-pivots.result) _ ready)
