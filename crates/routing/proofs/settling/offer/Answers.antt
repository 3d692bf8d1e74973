use Rattle.std.proofs.Common.{◌≡◌, ℕ, ◌<◌, ◌⊎◌, true, List, length, set, None, Some, Option, sym, refl, ap, ◌∙◌, subst, inl, inr, arith}
use Rattle.std.proofs.lemmas.List.{length-set, get_or-set_same, get_or-set_other}
use Rattle.std.proofs.lemmas.Bool.{cases_eq}
use Rattle.routing.specs.declared.cost.Cost.{Cost}
use Rattle.routing.specs.declared.knockout.Waiting.{Waiting}
use Rattle.routing.specs.Ranks.{lowers, cost_of}
use Rattle.routing.specs.Knockouts.{Below, PutIn, waits}
use Rattle.routing.specs.Settles.{Agrees, kept, lowered}
use Rattle.routing.proofs.Winning.{cost_or}
use Rattle.routing.proofs.settling.offer.Goals as goal

-- what lowers a cost costs less than the place that waits with it
below_by : (costs : List (Option Cost)) (waiting : List (Option Waiting)) (p : ℕ) (cost : Cost) → Agrees costs waiting → p < length costs → lowers cost (cost_of costs p) ≡ true → Below cost (waits waiting p)
below_by costs waiting p cost a l e = go (waits waiting p) refl
  where
    go : (x : Option Waiting) → waits waiting p ≡ x → Below cost x
    go None s = tt
    go (Some w) s = subst (λ z. lowers cost z ≡ true) (a.same p w l s) e

-- a cost and its place change together
agrees_on : (costs : List (Option Cost)) (waiting after : List (Option Waiting)) (p : ℕ) (cost : Cost) → Agrees costs waiting → p < length costs → PutIn p cost waiting after → Agrees (set costs p (Some cost)) after
agrees_on costs waiting after p cost a l t =
    let long = length-set costs p (Some cost) in
    record { knockout = t.knockout; twice = omega (arith, t.only.long, a.twice); few = omega (arith, a.few); same = λ q w m s. go q w (omega (arith, m)) s (cases_eq q p) }
  where
    go : (q : ℕ) (w : Waiting) → q < length costs → waits after q ≡ Some w → (q ≡ p) ⊎ (q ≡ p → ⊥) → cost_of (set costs p (Some cost)) q ≡ Some w.cost
    go q w m s (inl e) =
        let is : Some w ≡ Some (record { cost = cost; place = p }) = sym s ∙ (ap (waits after) e ∙ t.waits) in
        ap (cost_of (set costs p (Some cost))) e ∙ (get_or-set_same costs p (Some cost) None l ∙ ap Some (sym (ap (cost_or cost) is)))
    go q w m s (inr n) =
        get_or-set_other costs p q (Some cost) None n ∙ a.same q w m (sym (t.only.others q (omega (arith, a.twice)) (λ z. n z)) ∙ s)

pub put-requires-clause-below : goal.put-requires-clause-below
put-requires-clause-below c = below_by c.args.costs.now c.args.waiting.now c.args.place c.args.cost c.requires.agree c.requires.inside (sym c.lowers.ensures ∙ c.if-not-lowers.false)

pub returns-clause-agree : goal.returns-clause-agree
returns-clause-agree c = agrees_on c.args.costs.now c.args.waiting.now c.put.new.matches c.args.place c.args.cost c.requires.agree c.requires.inside c.put.ensures

pub returns-clause-offered : goal.returns-clause-offered
returns-clause-offered c = lowered c.put.new.matches (sym c.lowers.ensures ∙ c.if-not-lowers.false) c.put.ensures

pub returns-then-not-lowers-clause-offered : goal.returns-then-not-lowers-clause-offered
returns-then-not-lowers-clause-offered c = kept (sym c.lowers.ensures ∙ c.if-not-lowers.true)
