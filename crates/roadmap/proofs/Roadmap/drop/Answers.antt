use Rattle.std.proofs.Common.{◌-◌, sym, refl, ◌∙◌}
use Rattle.index.proofs.Outcomes.{drop_done}
use Rattle.roadmap.specs.Roadmaps.{road_of}
use Rattle.roadmap.proofs.States.{Fields, fields, holds, drop_holds, drop_means, shrink_done}
use Rattle.roadmap.proofs.Roadmap.drop.Goals as goal

pub close_up-requires : goal.close_up-requires
close_up-requires g c = let p = c.in_ok-at.ensures in (p.0, c.args.self.now.used_bound)

pub invariant_of-self : goal.invariant_of-self
invariant_of-self g c =
    let r = c.args.self.now in
    let n = c.args.number in
    let p = c.in_ok-at.ensures in
    let ti = c.drop.ensures.leaves ∙ sym (drop_done (g.I.Index.meaning r.index) n p.2.0 p.2.1) in
    let t : Fields g.row.I.Denot = record { index = c.drop.new.self; k = r.k; links = c.close_up.new.list; used = r.used - 1 } in
    let s = drop_holds g.I.Index.meaning (fields r) (holds r) (g.I.Index.lawful r.index) n c.in_ok-at.at p.0 p.1 t ti refl c.close_up.ensures refl in
    record { k_low = s.k_low; k_high = s.k_high; used_bound = s.used_bound; room = s.room; records = s.records; numbered = s.numbered }

pub returns : goal.returns
returns g c =
    let r = c.args.self.now in
    let n = c.args.number in
    let law = g.I.Index.lawful r.index in
    let p = c.in_ok-at.ensures in
    let ti = c.drop.ensures.leaves ∙ sym (drop_done (g.I.Index.meaning r.index) n p.2.0 p.2.1) in
    let t : Fields g.row.I.Denot = record { index = c.drop.new.self; k = r.k; links = c.close_up.new.list; used = r.used - 1 } in
    record {
      answer = c.drop.ensures.answer;
      leaves = drop_means g.I.Index.meaning (fields r) (holds r) law n c.in_ok-at.at p.0 p.1 t ti refl c.close_up.ensures refl ∙ shrink_done (road_of g.I.Index.meaning r) n p.2.0 p.2.1;
    }
