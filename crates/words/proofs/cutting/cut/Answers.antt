use Rattle.std.proofs.Common.{◌≡◌, ◌≢◌, arith, rules}
use borrow.Author.Tests.{tests}
use Rattle.std.proofs.lemmas.Iterator.{YieldsList-from_slice, IsFirst-from_position}
use Rattle.std.proofs.lemmas.List.{take_rest, length-take, length-drop}
use Rattle.words.proofs.Splits.{First, split_not_found, split_found}
use Rattle.words.proofs.cutting.cut.Goals as goal

pub returns-in_err-at : goal.returns-in_err-at
returns-in_err-at c =
    let first : First c.args.mark c.args.text.now c.position.result = IsFirst-from_position _ _ c.position.result (λ b. b ≡ c.args.mark) (λ b. b ≢ c.args.mark) c.position.ensures.ran (YieldsList-from_slice c.args.text.now c.iter.ensures.rest) (λ x q k. search (rules, tests)) (λ x q k. search (rules, tests)) in
    rw c.from_residual.ensures (split_not_found c.args.mark c.args.text.now c.position.result first c.in_err-at.was)

pub returns : goal.returns
returns c =
    let first : First c.args.mark c.args.text.now c.position.result = IsFirst-from_position _ _ c.position.result (λ b. b ≡ c.args.mark) (λ b. b ≢ c.args.mark) c.position.ensures.ran (YieldsList-from_slice c.args.text.now c.iter.ensures.rest) (λ x q k. search (rules, tests)) (λ x q k. search (rules, tests)) in
    let at = split_found c.args.mark c.args.text.now c.in_ok-at.at c.position.result first c.in_ok-at.was in
    (simp take_rest at.1, simp (length-take, length-drop) (omega (arith, at.0)))
