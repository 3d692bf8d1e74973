use Rattle.std.proofs.Common.{◌∷◌, [], ◌++◌, List, get_or, take, ap, ◌∙◌, arith}
use Rattle.hits.specs.declared.Hit.{Hit}
use Rattle.answers.proofs.Lists.{more_hits}
use Rattle.answers.proofs.numbers.push_hits.Goals as goal

blank : Hit
blank = record { number = 0; distance = 0 }

pub loop-hit-preserved : goal.loop-hit-preserved
unfolding blank
loop-hit-preserved c =
    let hits : List Hit = take c.min.result c.args.hits.now in
    record {
      items = c.push-in-loop-hit.ensures.items ∙ (ap (λ ns. ns ++ ((get_or hits c.loop-hit.hit-index blank).distance ∷ [])) c.push.ensures.items ∙ more_hits c.args.numbers.now.items c.loop-hit.numbers.items hits blank c.loop-hit.hit-index c.from.result (omega arith) c.from.ensures c.loop-hit.invariant.items);
      len = omega arith;
    }
