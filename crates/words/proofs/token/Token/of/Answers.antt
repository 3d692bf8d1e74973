use Rattle.std.proofs.Common.{◌≡◌, sym, refl, ◌∙◌, rules}
use borrow.Author.Tests.{tests}
use Rattle.std.proofs.lemmas.Iterator.{YieldsList-from_slice}
use Rattle.std.proofs.lemmas.Iterator.Search.{all_from_yields_List}
use Rattle.level_theory.specs.Words.{letter, digit, all_bytes}
use Rattle.words.proofs.Every.{every, word_tested}
use Rattle.words.proofs.token.Token.of.Goals as goal

pub returns-then-all : goal.returns-then-all
returns-then-all c =
    let e : c.all.result ≡ all_bytes letter c.args.word.now = all_from_yields_List letter _ _ c.all.result c.all.ensures.ran (YieldsList-from_slice c.args.word.now c.iter.ensures.rest) (λ x b q k. search (rules, tests)) ∙ every letter c.args.word.now in
    word_tested c.args.word.now c.args.place _ (all_bytes digit c.args.word.now) (sym c.if-is_empty.false ∙ c.is_empty.ensures) (sym c.if-all.true ∙ e) refl

pub returns-then-all-2 : goal.returns-then-all-2
returns-then-all-2 c =
    let e : c.all.result ≡ all_bytes letter c.args.word.now = all_from_yields_List letter _ _ c.all.result c.all.ensures.ran (YieldsList-from_slice c.args.word.now c.iter.ensures.rest) (λ x b q k. search (rules, tests)) ∙ every letter c.args.word.now in
    let f : c.all-else-all.result ≡ all_bytes digit c.args.word.now = all_from_yields_List digit _ _ c.all-else-all.result c.all-else-all.ensures.ran (YieldsList-from_slice c.args.word.now c.iter-else-all.ensures.rest) (λ x b q k. search (rules, tests)) ∙ every digit c.args.word.now in
    word_tested c.args.word.now c.args.place _ _ (sym c.if-is_empty.false ∙ c.is_empty.ensures) (sym c.if-all.false ∙ e) (sym c.if-all-2.true ∙ f)

pub returns-else-all-2 : goal.returns-else-all-2
returns-else-all-2 c =
    let e : c.all.result ≡ all_bytes letter c.args.word.now = all_from_yields_List letter _ _ c.all.result c.all.ensures.ran (YieldsList-from_slice c.args.word.now c.iter.ensures.rest) (λ x b q k. search (rules, tests)) ∙ every letter c.args.word.now in
    let f : c.all-else-all.result ≡ all_bytes digit c.args.word.now = all_from_yields_List digit _ _ c.all-else-all.result c.all-else-all.ensures.ran (YieldsList-from_slice c.args.word.now c.iter-else-all.ensures.rest) (λ x b q k. search (rules, tests)) ∙ every digit c.args.word.now in
    word_tested c.args.word.now c.args.place _ _ (sym c.if-is_empty.false ∙ c.is_empty.ensures) (sym c.if-all.false ∙ e) (sym c.if-all-2.false ∙ f)
