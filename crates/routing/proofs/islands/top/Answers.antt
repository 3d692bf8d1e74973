use Rattle.std.proofs.Common.{◌≡◌, slice_index, set, sym, subst, arith}
use Rattle.std.proofs.lemmas.List.{get_or-set_same}
use Rattle.routing.specs.Forests.{Top, ends}
use Rattle.routing.proofs.Climbing.{Climbing, climb_starts, climb_step, top_one, top_below}
use Rattle.routing.proofs.islands.top.Goals as goal

pub loop-parents-init : goal.loop-parents-init
loop-parents-init c = climb_starts c.args.from c.args.parents.now c.requires.forest c.requires.inside

pub loop-parents-preserved : goal.loop-parents-preserved
loop-parents-preserved c =
    let parents = c.loop-parents.parents in
    let at = c.loop-parents.at in
    let to = slice_index parents (slice_index parents at) in
    let inv = c.loop-parents.invariant in
    subst (Climbing c.args.from c.args.parents.now (set parents at to)) (sym (get_or-set_same parents at to 0 inv.inside)) (climb_step c.args.from c.args.parents.now parents at inv c.loop-parents-test.true)

pub returns : goal.returns
returns c =
    let parents = c.loop-parents.parents in
    let at = c.loop-parents.at in
    let inv = c.loop-parents.invariant in
    let own : slice_index parents at ≡ at = omega (arith, inv.forest at inv.inside, c.loop-parents-test.false) in
    let is = top_one parents at inv.last at inv.at_top (ends at own) in
    let top = subst (Top parents c.args.from) is inv.from_top in
    record { long = inv.long; forest = inv.forest; top = top; below = top_below parents c.args.from at top; same = inv.same; grown = inv.grown }
