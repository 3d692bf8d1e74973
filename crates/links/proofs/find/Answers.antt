use Rattle.std.proofs.Common.{rules, subst, sym}
use Rattle.std.proofs.lemmas.List.Sorted.{answers_always}
use Rattle.links.specs.Records.{Found}
use Rattle.links.proofs.Resolving.{found_by}
use Rattle.links.proofs.find.Goals as goal

pub returns : goal.returns
returns c =
    let found = found_by c.args.links.now c.requires c.args.number c.binary_search_by_key.result c.binary_search_by_key.ensures.bound
    (c.binary_search_by_key.ensures.position (λ r. r.number) (answers_always _ _ _ (λ f a r f' t. search rules))) in
    subst (λ place. Found c.args.number c.args.links.now place) (sym c.ok.ensures.value) found
