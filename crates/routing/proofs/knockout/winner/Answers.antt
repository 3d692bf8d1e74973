use Rattle.std.proofs.Common.{◌≡◌, ◌+◌, ◌*◌, true, false, cond, Some, sym, ap, ◌∙◌, arith}
use Rattle.std.proofs.lemmas.Bool.Decides.{nat_tests}
use Rattle.routing.specs.Ranks.{cheaper}
use Rattle.routing.specs.Knockouts.{winner_of, entry}
use Rattle.routing.proofs.knockout.winner.Goals as goal

less : (c : goal.Then-lt) → cheaper c.in-Some-matches.second.cost c.in-Some.first.cost ≡ true
unfolding cheaper
less c = grind (arith, nat_tests)

not_less : (c : goal.Else-lt) → cheaper c.in-Some-matches.second.cost c.in-Some.first.cost ≡ false
unfolding cheaper
not_less c = grind (arith, nat_tests)

pub returns-then-lt-clause-winner : goal.returns-then-lt-clause-winner
returns-then-lt-clause-winner c =
    let m = c.args.matches.now in
    let a = c.in-Some.first in
    let b = c.in-Some-matches.second in
    c.in-Some-matches.is ∙ sym (ap (λ x. winner_of x (entry m (2 * c.args.at + 1))) c.in-Some.is ∙ (ap (winner_of (Some a)) c.in-Some-matches.is ∙ ap (λ t. cond t (Some b) (Some a)) (less c)))

pub returns-else-lt-clause-winner : goal.returns-else-lt-clause-winner
returns-else-lt-clause-winner c =
    let m = c.args.matches.now in
    let a = c.in-Some.first in
    let b = c.in-Some-matches.second in
    c.in-Some.is ∙ sym (ap (λ x. winner_of x (entry m (2 * c.args.at + 1))) c.in-Some.is ∙ (ap (winner_of (Some a)) c.in-Some-matches.is ∙ ap (λ t. cond t (Some b) (Some a)) (not_less c)))
