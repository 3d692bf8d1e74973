use Rattle.std.proofs.Common.{◌≡◌, ◌+◌, ◌<◌, [], length, get_or, sym, ◌∙◌, arith, length-take}
use Rattle.std.proofs.lemmas.List.{get_or_default, get_or-take}
use Rattle.hits.specs.declared.Hit.{Hit}
use Rattle.links.specs.declared.Links.{Links}
use Rattle.links.specs.Records.{elders}
use Rattle.links.proofs.Resolving.{number_is, so_far_not, so_far_more, so_far_as, held_more, record_sound, elder_short, elder_less}
use Rattle.links.proofs.Records.resolve_one.Goals as goal
use Rattle.links.proofs.Records.resolve_one.Goals.{in-Some, in_default}

pub loop-elder-preserved : goal.loop-elder-preserved
loop-elder-preserved c =
    let links = c.args.self.now.all.now in
    let at = c.args.at in
    let old = c.args.edges.now in
    let made = c.args.made in
    let i = c.loop-elder.elder-index in
    let r : Links = get_or links at (record { number = 0; count = 0; elders = [] }) in
    let d : Hit = record { number = 0; distance = 0 } in
    let h : Hit = get_or (elders r) i d in
    let s = record_sound links at c.requires.inside.0 c.args.self.now.good.sound in
    let counts : i < r.count = omega (arith, c.loop-elder-test.true, length-take r.count r.elders) in
    let l : i < length r.elders = omega (arith, counts, s.places, s.count_bound) in
    let is : h ≡ get_or r.elders i h = get_or-take r.count r.elders i d counts ∙ get_or_default r.elders i d h l in
    elim c.match-elder_place.branch [
      | in-Some w ↦
          let room : c.loop-elder.all < length c.loop-elder.edges = omega (arith, counts, c.loop-elder.invariant.few, c.requires.inside.1, held_more links at c.requires.inside.0, c.requires.room, c.loop-elder.auto.edges) in
          let f = w.in-Some.ensures in
          so_far_as links r old made _ _ _ _ (i + 1) w.edges-is w.all-is
          (so_far_more links r old made c.loop-elder.edges c.loop-elder.all i c.loop-elder.invariant l h is w.in-Some.place at room f.0 c.requires.inside.0 f.1 (sym (number_is links at (record { number = 0; count = 0; elders = [] }) c.requires.inside.0)) (elder_short r i s c.loop-elder-test.true))
      | in_default w ↦
          so_far_as links r old made _ _ _ _ (i + 1) w.edges-is w.all-is
          (so_far_not links r old made c.loop-elder.edges c.loop-elder.all i c.loop-elder.invariant l h is w.in_default.ensures)
    ]

pub bounds-edges-all : goal.bounds-edges-all
bounds-edges-all c =
    let r : Links = get_or c.args.self.now.all.now c.args.at (record { number = 0; count = 0; elders = [] }) in
    omega (arith, c.loop-elder-test.true, length-take r.count r.elders, c.loop-elder.invariant.few, c.requires.inside.1, held_more c.args.self.now.all.now c.args.at c.requires.inside.0, c.requires.room, c.loop-elder.auto.edges)

-- an elder's number is less
pub elder_place-requires-clause-elder : goal.elder_place-requires-clause-elder
elder_place-requires-clause-elder c =
    let links = c.args.self.now.all.now in
    let s = record_sound links c.args.at c.requires.inside.0 c.args.self.now.good.sound in
    let r : Links = get_or links c.args.at (record { number = 0; count = 0; elders = [] }) in
    omega (arith, elder_less r c.loop-elder.elder-index s c.loop-elder-test.true, number_is links c.args.at (record { number = 0; count = 0; elders = [] }) c.requires.inside.0)
