use Rattle.std.proofs.Common.{ℕ, ◌∙◌, rules, tests}
use Rattle.std.proofs.lemmas.Iterator.{YieldsList-from_slice, YieldsList-from_zip}
use Rattle.std.proofs.lemmas.Iterator.Consumers.{YieldsList-at}
use Rattle.std.proofs.lemmas.Iterator.Search.{any_from_yields_List}
use Rattle.checker.proofs.Zipped.{any_zipped_three}
use Rattle.card_checker.specs.Passes.{free, clear}
use Rattle.card_checker.proofs.CardWall.is_clear.Goals as goal

pub returns : goal.returns
unfolding clear
returns c =
    let first = c.args.a.now.slots in
    let second = c.args.b.now.slots in
    any_from_yields_List (λ (p : ℕ × (ℕ × ℕ)). free p.0 p.1.0 p.1.1) c.any.new.self _ c.any.result c.any.ensures.ran (YieldsList-from_zip (YieldsList-from_slice c.args.self.now.slots cc) (YieldsList-at c.zip-2.ensures.second (YieldsList-from_zip (YieldsList-from_slice first cc) (YieldsList-from_slice second cc)))) (λ x b q k. search (rules, tests))
    ∙ any_zipped_three free 0 0 0 8 c.args.self.now.slots first second (search rules) (search rules) (search rules)
