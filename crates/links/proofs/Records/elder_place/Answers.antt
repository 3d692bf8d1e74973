use Rattle.std.proofs.Common.{◌≡◌, ◌+◌, ◌-◌, ℕ, ◌<◌, false, List, [], length, get_or, take, drop, Some, sym, ap, ◌∙◌, subst, arith}
use Rattle.links.specs.declared.Links.{Links}
use Rattle.links.specs.Records.{number_at, numbers, has, Found}
use Rattle.links.proofs.Resolving.{number_is}
use Rattle.links.proofs.Nearby.{rises_part, nowhere_else, found_here, before_long}
use Rattle.links.proofs.Records.elder_place.Goals as goal

pub overflow_sub-gap : goal.overflow_sub-gap
overflow_sub-gap c = omega (arith, number_is c.args.self.now.all.now c.args.at (record { number = 0; count = 0; elders = [] }) c.requires.at, c.requires.elder)

pub find-requires : goal.find-requires
find-requires c = rises_part c.args.self.now.all.now _ _ c.args.self.now.good.rises

-- where it begins to look, by the numbers
begins : (links : List Links) (at n r : ℕ) → at < length links → r ≡ at - ((get_or links at (record { number = 0; count = 0; elders = [] })).number - n) → r ≡ at - (number_at links at - n)
begins links at n r l e = e ∙ ap (λ z. at - (z - n)) (number_is links at (record { number = 0; count = 0; elders = [] }) l)

pub returns-in_err-find : goal.returns-in_err-find
returns-in_err-find c =
    let links = c.args.self.now.all.now in
    let at = c.args.at in
    let is = begins links at c.args.number c.saturating_sub-first.result c.requires.at c.saturating_sub-first.ensures in
    let none : has (numbers (take (at - c.saturating_sub-first.result) (drop c.saturating_sub-first.result links))) c.args.number ≡ false = c.in_err-find.ensures in
    subst (Found c.args.number links) (sym c.from_residual.ensures)
    (nowhere_else links c.args.self.now.good.rises at c.args.number c.requires.at c.requires.elder (subst (λ z. has (numbers (take (at - z) (drop z links))) c.args.number ≡ false) is none))

pub returns : goal.returns
returns c =
    let links = c.args.self.now.all.now in
    let at = c.args.at in
    let n = c.args.number in
    let k = c.in_ok-find.field-0 in
    let rise = c.args.self.now.good.rises in
    let is = begins links at n c.saturating_sub-first.result c.requires.at c.saturating_sub-first.ensures in
    let f : Found n (take (at - c.saturating_sub-first.result) (drop c.saturating_sub-first.result links)) (Some k) = c.in_ok-find.ensures in
    let g = subst (λ z. Found n (take (at - z) (drop z links)) (Some k)) is f in
    subst (λ z. Found n links (Some (z + k))) (sym is) (found_here links rise at n c.requires.at c.requires.elder k (omega (arith, g.0, before_long links rise at n c.requires.at c.requires.elder)) g.1)
