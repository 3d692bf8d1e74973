use Rattle.std.proofs.Common.{◌+◌, ◌/◌, ◌<◌, ◌≤◌, sym, ◌∙◌, arith}
use Rattle.gnat_order.proofs.Numbers.{may_read, was_read, smaller_before, larger_behind, not_listed, larger_from}
use Rattle.gnat_order.proofs.find.Goals as goal
use Rattle.gnat_order.proofs.find.Goals.{else-low-standing-via-then-low-standing+else-number_at-number-2, else-low-standing-via-else-low-standing}

pub number_at-requires : goal.number_at-requires
number_at-requires g c = may_read c.args.rows.now c.args.standing c.args.number c.requires.fits c.requires.within c.requires.rise ((c.loop-low.low + c.loop-low.high) / 2) (omega (arith, c.loop-low.invariant.1))

pub loop-low-preserved-then-number_at-number : goal.loop-low-preserved-then-number_at-number
loop-low-preserved-then-number_at-number g c =
    let rows = c.args.rows.now in
    let standing = c.args.standing in
    let n = c.args.number in
    let middle = (c.loop-low.low + c.loop-low.high) / 2 in
    let inside : middle < standing = omega (arith, c.loop-low.invariant.1) in
    let read = was_read rows standing n c.requires.fits c.requires.within c.requires.rise middle c.number_at.result inside c.number_at.ensures in
    (omega arith, c.loop-low.invariant.1, smaller_before rows standing n c.requires.fits c.requires.within c.requires.rise middle c.number_at.result inside read c.if-number_at-number.true, c.loop-low.invariant.3)

pub loop-low-preserved : goal.loop-low-preserved
loop-low-preserved g c =
    let rows = c.args.rows.now in
    let standing = c.args.standing in
    let n = c.args.number in
    let middle = (c.loop-low.low + c.loop-low.high) / 2 in
    let inside : middle < standing = omega (arith, c.loop-low.invariant.1) in
    let read = was_read rows standing n c.requires.fits c.requires.within c.requires.rise middle c.number_at.result inside c.number_at.ensures in
    (omega arith, omega arith, c.loop-low.invariant.2, larger_behind rows standing n c.requires.fits c.requires.within c.requires.rise middle c.number_at.result read c.if-number_at-number.false)

pub number_at-requires-then-low-standing : goal.number_at-requires-then-low-standing
number_at-requires-then-low-standing g c = may_read c.args.rows.now c.args.standing c.args.number c.requires.fits c.requires.within c.requires.rise c.loop-low.low c.if-low-standing.true

pub returns-then-number_at-number-2 : goal.returns-then-number_at-number-2
returns-then-number_at-number-2 g c =
    let h = c.number_at-then-low-standing.ensures in
    (c.if-low-standing.true, (h.0, h.1, sym h.2 ∙ c.if-number_at-number-2.true))

pub returns-else-low-standing : goal.returns-else-low-standing
returns-else-low-standing g c =
    let rows = c.args.rows.now in
    let standing = c.args.standing in
    let n = c.args.number in
    let low = c.loop-low.low in
    elim c.else-low-standing.branch [
      | else-low-standing-via-then-low-standing+else-number_at-number-2 w ↦
          (let inside = w.if-low-standing.true in
          let read = was_read rows standing n c.requires.fits c.requires.within c.requires.rise low w.number_at-then-low-standing.result inside w.number_at-then-low-standing.ensures in
          let large : n ≤ w.number_at-then-low-standing.result = omega (arith, read, c.loop-low.invariant.3 low (omega arith) inside) in
          not_listed rows standing n c.requires.fits c.requires.within c.requires.rise low c.loop-low.invariant.2 (larger_from rows standing n c.requires.fits c.requires.within c.requires.rise low w.number_at-then-low-standing.result read large w.if-number_at-number-2.false))
      | else-low-standing-via-else-low-standing w ↦ not_listed rows standing n c.requires.fits c.requires.within c.requires.rise low c.loop-low.invariant.2 (λ k a b. absurd (omega (arith, w.if-low-standing.false)))
    ]
