use Rattle.std.proofs.Common.{◌≡◌, ◌+◌, ◌<◌, [], ◌∷◌, ◌++◌, length, get_or, take, sym, subst, arith, rules}
use Rattle.std.proofs.lemmas.List.{get_or-take, length-take, length-take-le, take_more}
use Rattle.gnat_filing.specs.Choosing.{CandidateOf}
use Rattle.gnat_filing.proofs.Candidates.{never_large, PutDown, put_more, put_down}
use Rattle.gnat_filing.proofs.choosing.candidates.Goals as goal

pub loop-row-preserved : goal.loop-row-preserved
loop-row-preserved g c =
    let l = c.args.l.now in
    let i = c.loop-row.row-index in
    let rows = c.args.rows.now in
    let below : i < l.count = omega (arith, c.loop-row-test.true, length-take l.count l.rows) in
    let inside : i < length l.rows = omega (arith, c.loop-row-test.true, length-take l.count l.rows) in
    let new : CandidateOf rows (get_or l.rows i 0) c.candidate_of.result = subst (λ z. CandidateOf rows z c.candidate_of.result) (get_or-take l.count l.rows i 0 below) c.candidate_of.ensures in
    subst (PutDown rows (take (i + 1) l.rows)) (sym c.push.ensures.items)
    (subst (λ z. PutDown rows z (c.loop-row.cs.items ++ (c.candidate_of.result ∷ []))) (sym (take_more l.rows i 0 inside)) (put_more rows (take i l.rows) c.loop-row.cs.items (get_or l.rows i 0) c.candidate_of.result c.loop-row.invariant new))

pub returns : goal.returns
returns g c =
    let l = c.args.l.now in
    let i = c.loop-row.row-index in
    let rows = c.args.rows.now in
    let long : length l.rows ≡ 32 = search rules in
    let whole : length (take l.count l.rows) ≡ l.count = length-take-le l.count l.rows (omega (arith, c.requires.count)) in
    let end : i ≡ l.count = omega (arith, whole, c.loop-row-test.false, c.loop-row.auto.row-index-end) in
    let put = put_more rows (take i l.rows) c.loop-row.cs.items c.args.at c.candidate_of-2.result c.loop-row.invariant c.candidate_of-2.ensures in
    put_down g.E.Metric.dist (never_large g.E.Metric.laws) rows (take l.count l.rows ++ (c.args.at ∷ [])) c.push-2.new.self.items
    (subst (PutDown rows (take l.count l.rows ++ (c.args.at ∷ []))) (sym c.push-2.ensures.items) (subst (λ z. PutDown rows (take z l.rows ++ (c.args.at ∷ [])) (c.loop-row.cs.items ++ (c.candidate_of-2.result ∷ []))) end put))
