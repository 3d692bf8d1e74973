use Rattle.std.proofs.Common.{◌+◌, ◌-◌, ◌<◌, false, ◌++◌, length, take, sym, ap, ◌∙◌, arith, length-take, rules}
use Rattle.std.proofs.lemmas.List.{get_or-take, length_push}
use Rattle.std.proofs.lemmas.Slice.Zip.{zip_turn}
use Rattle.gnat_search.specs.Nodes.{open_rows}
use Rattle.gnat_search.proofs.Pushing.{open_struck, open_pushed}
use Rattle.gnat_search.proofs.push_open.Goals as goal

pub loop-row-preserved-then-not-struck : goal.loop-row-preserved-then-not-struck
loop-row-preserved-then-not-struck c =
    let rows = c.args.branch.now.pivots in
    let flags = c.args.struck.now in
    let count = c.args.branch.now.count in
    let i = length c.loop-row.yielded in
    let inv = c.loop-row.invariant in
    let t = zip_turn (take count rows) flags c.loop-row.yielded c.into_iter-row-iterator.result c.loop-row.row-iterator c.next.new.self c.next.result (search rules) (search rules) c.loop-row.yielded_by (c.in-Some.row, c.in-Some.struck) c.in-Some.is c.next.ensures.steps in
    let l : i < count = omega (arith, t.0, length-take count rows) in
    let more = length_push c.loop-row.yielded (c.in-Some.row, c.in-Some.struck) in (
      (tt, tt),
      tt,
      omega (arith, c.push.ensures.len, inv.2, more),
      ap (λ n. c.push.new.self.items ++ open_rows rows flags n (count - n)) more
          ∙ (ap (λ z. z ++ open_rows rows flags (i + 1) (count - (i + 1))) c.push.ensures.items
          ∙ (open_pushed rows flags i count l c.loop-row.pending.items c.in-Some.row.now (t.2 0 ∙ get_or-take count rows i 0 l) (sym (t.3 false) ∙ c.if-not-struck.true) ∙ inv.3)),
    )

pub loop-row-preserved : goal.loop-row-preserved
loop-row-preserved c =
    let rows = c.args.branch.now.pivots in
    let flags = c.args.struck.now in
    let count = c.args.branch.now.count in
    let i = length c.loop-row.yielded in
    let inv = c.loop-row.invariant in
    let t = zip_turn (take count rows) flags c.loop-row.yielded c.into_iter-row-iterator.result c.loop-row.row-iterator c.next.new.self c.next.result (search rules) (search rules) c.loop-row.yielded_by (c.in-Some.row, c.in-Some.struck) c.in-Some.is c.next.ensures.steps in
    let l : i < count = omega (arith, t.0, length-take count rows) in
    let more = length_push c.loop-row.yielded (c.in-Some.row, c.in-Some.struck) in (
      (tt, tt),
      tt,
      omega (arith, inv.2, more),
      ap (λ n. c.loop-row.pending.items ++ open_rows rows flags n (count - n)) more
          ∙ (ap (λ z. c.loop-row.pending.items ++ z) (open_struck rows flags i count l (sym (t.3 false) ∙ c.if-not-struck.false)) ∙ inv.3),
    )
