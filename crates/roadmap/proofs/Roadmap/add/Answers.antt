use Rattle.std.proofs.Common.{◌≡◌, ℕ, ◌+◌, ◌-◌, take, set, sym, refl, ap, ◌∙◌, subst, arith, length-take}
use Rattle.index.specs.Outcomes.{gives, room_outcome}
use Rattle.index.specs.Calls.{near_hits}
use Rattle.index.proofs.Outcomes.{numbers_left}
use Rattle.roadmap.specs.Roadmaps.{road_of}
use Rattle.roadmap.specs.Calls.{LinkedTo}
use Rattle.roadmap.proofs.States.{Fields, fields, holds, room_used, held_count, add_holds, add_means, grow_done}
use Rattle.roadmap.proofs.Roadmap.add.Goals as goal

pub overflow_add-last : goal.overflow_add-last
overflow_add-last g c =
    let tl = c.tally-capacity.ensures in
    let law = g.I.Index.lawful c.args.self.now.index in
    let free = numbers_left c.tally-capacity.result.0 c.tally-capacity.result.1 c.tally-capacity.result.2 c.in_ok-room.ensures in
    omega (arith, ap (λ z. z.2) tl, law.last_bound, free)

pub nearest-found-requires : goal.nearest-found-requires
nearest-found-requires g c = (c.args.self.now.k_low, c.args.self.now.k_high)

pub link-own-requires : goal.link-own-requires
link-own-requires g c = simp length-take (omega (arith, c.nearest-found.ensures.count, c.args.self.now.k_high))

pub file-number-requires : goal.file-number-requires
file-number-requires g c = sym (c.in_ok-room.ensures ∙ ap (λ z. room_outcome z.0 z.1 z.2) c.tally-capacity.ensures)

pub bounds-self-self : goal.bounds-self-self
bounds-self-self g c =
    let r = c.args.self.now in
    room_used g.I.Index.meaning (fields r) (holds r) (g.I.Index.lawful r.index) g.I.Element.Metric.dist g.I.Element.Metric.GREATEST g.I.Element.Metric.laws (g.C.Checker.passes c.args.checker.now) c.args.e (c.in_ok-room.ensures ∙ ap (λ z. room_outcome z.0 z.1 z.2) c.tally-capacity.ensures)

pub invariant_of-self-2 : goal.invariant_of-self-2
invariant_of-self-2 g c =
    let r = c.args.self.now in
    let m = g.I.Index.meaning r.index in
    let dist = g.I.Element.Metric.dist in
    let p = g.C.Checker.passes c.args.checker.now in
    let tl = c.tally-capacity.ensures in
    let free = c.in_ok-room.ensures ∙ ap (λ z. room_outcome z.0 z.1 z.2) tl in
    let found = take (c.nearest-found.result - 0) c.nearest-found.new.hits in
    let z : c.nearest-found.result - 0 ≡ c.nearest-found.result = omega arith in
    let near : found ≡ near_hits dist m c.args.e r.k = ap (λ k. take k c.nearest-found.new.hits) z ∙ c.nearest-found.ensures.writes in
    let P : ℕ → Type 0 = λ k. LinkedTo p c.args.e m (k + 1) found c.link-own.result in
    let linked = subst P (ap (λ z. z.2) tl) c.link-own.ensures in
    let t : Fields g.row.I.Denot = record { index = c.file-number.new.index; k = r.k; links = set r.links.now r.used c.link-own.result; used = r.used + 1 } in
    let s = add_holds g.I.Index.meaning (fields r) (holds r) (g.I.Index.lawful r.index) dist g.I.Element.Metric.GREATEST g.I.Element.Metric.laws p c.args.e free found near c.link-own.result linked t c.file-number.ensures.leaves refl refl refl in
    record { k_low = s.k_low; k_high = s.k_high; used_bound = s.used_bound; room = s.room; records = s.records; numbered = s.numbered }

pub returns : goal.returns
returns g c =
    let r = c.args.self.now in
    let m = g.I.Index.meaning r.index in
    let dist = g.I.Element.Metric.dist in
    let p = g.C.Checker.passes c.args.checker.now in
    let law = g.I.Index.lawful r.index in
    let tl = c.tally-capacity.ensures in
    let free = c.in_ok-room.ensures ∙ ap (λ z. room_outcome z.0 z.1 z.2) tl in
    let found = take (c.nearest-found.result - 0) c.nearest-found.new.hits in
    let z : c.nearest-found.result - 0 ≡ c.nearest-found.result = omega arith in
    let near : found ≡ near_hits dist m c.args.e r.k = ap (λ k. take k c.nearest-found.new.hits) z ∙ c.nearest-found.ensures.writes in
    let P : ℕ → Type 0 = λ k. LinkedTo p c.args.e m (k + 1) found c.link-own.result in
    let linked = subst P (ap (λ z. z.2) tl) c.link-own.ensures in
    let t : Fields g.row.I.Denot = record { index = c.file-number.new.index; k = r.k; links = set r.links.now r.used c.link-own.result; used = r.used + 1 } in
    let done = grow_done dist p (road_of g.I.Index.meaning r) c.args.e free in
    let many = held_count g.I.Index.meaning (fields r) (holds r) law dist g.I.Element.Metric.GREATEST g.I.Element.Metric.laws p c.args.e free found near c.link-own.result linked in
    record {
      answer = (λ i. gives (c.file-number.ensures.number i, many i)) ∙ done.0;
      leaves = add_means g.I.Index.meaning (fields r) (holds r) law dist g.I.Element.Metric.GREATEST g.I.Element.Metric.laws p c.args.e free found near c.link-own.result linked t c.file-number.ensures.leaves refl refl refl ∙ done.1;
    }
