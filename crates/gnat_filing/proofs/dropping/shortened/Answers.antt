use Rattle.std.proofs.Common.{◌≡◌, ◌+◌, ◌≤◌, not, eqb, [], ◌∷◌, ◌++◌, length, get_or, take, sym, ap, ◌∙◌, subst, arith, rules}
use Rattle.std.proofs.lemmas.List.Elements.{filter_more}
use Rattle.std.proofs.lemmas.List.{append-nil, length-take, length-take-le, take_all}
use Rattle.std.proofs.lemmas.Bool.{eq-eqb, ne_eqb, cond-true, cond-false}
use Rattle.gnat_rows.specs.declared.Leaf.{Leaf as LeafRecord}
use Rattle.gnat_rows.specs.Shows.{held}
use Rattle.gnat_filing.specs.Dropping.{without_row}
use Rattle.gnat_filing.proofs.dropping.shortened.Goals as goal
use Rattle.gnat_filing.proofs.dropping.shortened.Goals.{then-row-at, else-row-at}

pub pushed-rest-requires : goal.pushed-rest-requires
pushed-rest-requires c = omega (arith, c.loop-row.invariant.0, c.loop-row-test.true, length-take c.args.l.count c.args.l.rows, c.requires)

pub loop-row-preserved : goal.loop-row-preserved
loop-row-preserved c =
    let rows = take c.args.l.count c.args.l.rows in
    let at = c.args.at in
    let i = c.loop-row.row-index in
    let inv = c.loop-row.invariant in
    let x = get_or rows i 0 in
    let lt = c.loop-row-test.true in
    let more = filter_more (λ k. not (eqb k at)) rows i 0 lt in
    let Step : LeafRecord → Type 0 = λ r. (r.count ≤ i + 1) × (length r.rows ≡ 32) × (held r ≡ without_row at (take (i + 1) rows)) in
    elim c.if-row-at.branch [
      | then-row-at w ↦ subst Step (sym w.rest-is) (
        omega (arith, inv.0, w.pushed-rest.ensures.count),
        w.pushed-rest.ensures.thirty_two,
        w.pushed-rest.ensures.rows ∙ (ap (λ z. z ++ (x ∷ [])) inv.2 ∙ sym (more ∙ ap (λ z. without_row at (take i rows) ++ z) (cond-true (not (eqb x at)) (x ∷ []) [] (ap not (ne_eqb x at w.if-row-at.true))))),
      )
      | else-row-at w ↦ subst Step (sym w.rest-is) (
        omega (arith, inv.0),
        inv.1,
        inv.2 ∙ sym (more ∙ ap (λ z. without_row at (take i rows) ++ z) (cond-false (not (eqb x at)) (x ∷ []) [] (ap not (eq-eqb x at w.if-row-at.false))) ∙ append-nil (without_row at (take i rows))),
      )
    ]

pub returns : goal.returns
returns c =
    let rows = take c.args.l.count c.args.l.rows in
    let inv = c.loop-row.invariant in
    let long : length c.args.l.rows ≡ 32 = search rules in
    let whole : length rows ≡ c.args.l.count = length-take-le c.args.l.count c.args.l.rows (omega (arith, c.requires)) in
    record {
      rows = inv.2 ∙ ap (without_row c.args.at) (take_all c.loop-row.row-index rows c.loop-row-test.false);
      count = omega (arith, inv.0, whole, c.loop-row.auto.row-index-end);
      thirty_two = inv.1;
    }
