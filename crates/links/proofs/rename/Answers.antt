use Rattle.std.proofs.Common.{◌<◌, [], map, length, get_or, sym, ap, ◌∙◌, arith, below_more}
use Rattle.std.proofs.lemmas.List.{get_or-set_same, get_or-set_other, ext_get_or, get_or-map, length-map}
use Rattle.std.proofs.ByRecursion.{All-get_or}
use Rattle.links.specs.Records.{number_at}
use Rattle.links.proofs.Resolving.{number_is}
use Rattle.links.proofs.rename.Goals as goal

pub bounds-links-place : goal.bounds-links-place
bounds-links-place c = omega (arith, c.loop-place.invariant.1 c.loop-place.place-index (omega arith), All-get_or (λ at. at < length c.args.links.now) c.args.list.now c.loop-place.place-index 0 c.loop-place-test.true c.requires)

pub loop-place-preserved : goal.loop-place-preserved
loop-place-preserved c =
    let links = c.args.links.now in
    let list = c.loop-place.list in
    let old = c.args.list.now in
    let i = c.loop-place.place-index in
    let same = c.loop-place.invariant.1 i (omega arith) in
    let k = c.loop-place.auto.list in
    let inside : get_or list i 0 < length links = omega (arith, same, All-get_or (λ at. at < length links) old i 0 c.loop-place-test.true c.requires) in (
      below_more _ _
          (λ j h. get_or-set_other list i j _ 0 (λ e. omega arith) ∙ c.loop-place.invariant.0 j h)
          (get_or-set_same list i _ 0 (omega (arith, c.loop-place-test.true)) ∙ (number_is links (get_or list i 0) (record { number = 0; count = 0; elders = [] }) inside ∙ ap (number_at links) same)),
      λ j h. get_or-set_other list i j _ 0 (λ e. omega arith) ∙ c.loop-place.invariant.1 j (omega arith),
    )

pub returns : goal.returns
returns c =
    let old = c.args.list.now in
    let k = c.loop-place.auto.list in
    ext_get_or 0 c.loop-place.list (map (number_at c.args.links.now) old) (k ∙ sym (length-map old (number_at c.args.links.now)))
    (λ j l. c.loop-place.invariant.0 j (omega (arith, c.loop-place-test.false)) ∙ sym (get_or-map (number_at c.args.links.now) old j 0 0 (omega arith)))
