use Rattle.std.proofs.Common.{◌≡◌, ◌+◌, get_or, sym, ap, ◌∙◌, arith}
use Rattle.std.proofs.lemmas.List.{get_or_default}
use Rattle.hits.specs.declared.Hit.{Hit}
use Rattle.roadmap.specs.Calls.{passes_with}
use Rattle.roadmap.proofs.Linking.{element_none, element_some, link_not, link_more, link_starts, link_ends, so_far_as}
use Rattle.roadmap.proofs.link.Goals as goal
use Rattle.roadmap.proofs.link.Goals.{in-Ok+then-check, in-Ok+else-check, in_default}

pub loop-hit-init : goal.loop-hit-init
loop-hit-init g c = link_starts (g.C.Checker.passes c.args.checker.now) c.args.e.now (g.I.Index.meaning c.args.index.now) c.args.number c.args.hits.now c.unlinked-own.result c.unlinked-own.ensures

pub loop-hit-preserved : goal.loop-hit-preserved
loop-hit-preserved g c =
    let p = g.C.Checker.passes c.args.checker.now in
    let e = c.args.e.now in
    let m = g.I.Index.meaning c.args.index.now in
    let n = c.args.number in
    let hits = c.args.hits.now in
    let i = c.loop-hit.hit-index in
    let own = c.loop-hit.own in
    let count = c.loop-hit.count in
    let h : Hit = get_or hits i (record { number = 0; distance = 0 }) in
    let l = c.loop-hit-test.true in
    let is : h ≡ get_or hits i h = get_or_default hits i (record { number = 0; distance = 0 }) h l in
    elim c.match-element.branch [
      | in-Ok+then-check w ↦
          let x = element_some m h.number w.in-Ok.elder w.in-Ok.ensures in
          so_far_as p e m n hits (i + 1) _ _ _ _ w.own-is w.count-is (link_more p e m n hits i own count c.loop-hit.invariant l h is (omega (arith, c.loop-hit.invariant.few, c.requires)) (ap (passes_with p e) x ∙ (sym w.check.ensures ∙ w.if-check.true)))
      | in-Ok+else-check w ↦
          let x = element_some m h.number w.in-Ok.elder w.in-Ok.ensures in
          so_far_as p e m n hits (i + 1) _ _ _ _ w.own-is w.count-is (link_not p e m n hits i own count c.loop-hit.invariant l h is (ap (passes_with p e) x ∙ (sym w.check.ensures ∙ w.if-check.false)))
      | in_default w ↦
          let x = element_none m h.number _ _ w.in_default.ensures in
          so_far_as p e m n hits (i + 1) _ _ _ _ w.own-is w.count-is (link_not p e m n hits i own count c.loop-hit.invariant l h is (ap (passes_with p e) x))
    ]

pub returns : goal.returns
returns g c = link_ends (g.C.Checker.passes c.args.checker.now) c.args.e.now (g.I.Index.meaning c.args.index.now) c.args.number c.args.hits.now c.loop-hit.hit-index c.loop-hit.own c.loop-hit.count c.loop-hit-test.false c.loop-hit.invariant
