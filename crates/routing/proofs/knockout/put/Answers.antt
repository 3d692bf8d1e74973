use Rattle.std.proofs.Common.{◌≡◌, ℕ, ◌+◌, ◌*◌, ◌<◌, ◌≤◌, ◌≢◌, length, List, None, Some, Option, sym, ap, ◌∙◌, subst, arith}
use Rattle.std.proofs.lemmas.List.{get_or-set_same, get_or-set_other, length-set}
use Rattle.routing.specs.declared.cost.Cost.{Cost}
use Rattle.routing.specs.declared.knockout.Waiting.{Waiting}
use Rattle.routing.specs.Knockouts.{entry, places, DecidedBut, IsKnockout, PutIn}
use Rattle.routing.proofs.Winning.{open_stops, open_wins, open_above, wins_below, decided_above, all_but, place_or, changed_here, changed_only, changed_knockout}
use Rattle.routing.proofs.knockout.put.Goals as goal

pub loop-at-init : goal.loop-at-init
loop-at-init c =
    let m = c.args.matches.now in
    let k = c.requires.knockout in
    let w : Waiting = record { cost = c.args.cost; place = c.args.place } in
    let at = places m + c.args.place in
    let l = c.requires.inside in
    let inside : at < length m = omega (arith, k.even) in
    let but : DecidedBut at m = λ i a b n. k.decided i a b (λ z. omega arith) in (
      omega arith,
      decided_above m at (Some w) (omega arith) but (λ h. absurd (omega arith)),
      λ h. open_above w at m inside k.even h but c.requires.below,
      get_or-set_same m at (Some w) None inside,
      λ i h n. get_or-set_other m at i (Some w) None (λ z. n z),
    )

pub loop-at-preserved : goal.loop-at-preserved
loop-at-preserved c =
    let m = c.loop-at.matches in
    let at = c.loop-at.at in
    let w : Waiting = record { cost = c.args.cost; place = c.args.place } in
    let inv = c.loop-at.invariant in
    let low = c.loop-at-test.true in
    let long = c.loop-at.auto.matches in
    let first = length-set c.args.matches.now (places c.args.matches.now + c.args.place) (Some w) in
    let even = c.requires.knockout.even in
    let in_m : at < length m = omega (arith, inv.0) in
    let even_m : length m ≡ 2 * places m = omega arith in
    let beats = wins_below c.args.cost (entry m at) (sym c.wins.ensures ∙ c.if-wins.true) in (
      omega (arith, inv.0),
      decided_above m at (Some w) (omega arith) inv.1 (λ h. open_wins w at m in_m (inv.2 (omega arith)) (omega arith) beats),
      λ h. open_above w at m in_m even_m h inv.1 beats,
      get_or-set_other m at (places c.args.matches.now + c.args.place) (Some w) None (λ z. omega (arith, inv.0)) ∙ inv.3,
      λ i h n. get_or-set_other m at i (Some w) None (λ z. omega (arith, inv.0)) ∙ inv.4 i h n,
    )

-- all matches are decided, and only this place waits otherwise
put_in : (m m' : List (Option Waiting)) (p : ℕ) (cost : Cost) → IsKnockout m → p < places m → length m' ≡ length m → DecidedBut 0 m' → entry m' (places m + p) ≡ Some (record { cost = cost; place = p })
    → ((i : ℕ) → places m ≤ i → i ≢ (places m + p) → entry m' i ≡ entry m i) → PutIn p cost m m'
put_in m m' p cost k l long decided here others =
    let w : Waiting = record { cost = cost; place = p } in
    let named : (v : Waiting) → Some w ≡ Some v → v.place ≡ p = λ v e. sym (ap (place_or p) e) in
    record {
      knockout = changed_knockout m m' p k l long decided (Some w) here others named;
      only = changed_only m m' p k l long decided (Some w) here others named;
      waits = changed_here m m' p k l long decided (Some w) here others named;
    }

pub returns-else-wins : goal.returns-else-wins
returns-else-wins c =
    let m = c.args.matches.now in
    let m' = c.loop-at.matches in
    let w : Waiting = record { cost = c.args.cost; place = c.args.place } in
    let inv = c.loop-at.invariant in
    let long : length m' ≡ length m = c.loop-at.auto.matches ∙ length-set m (places m + c.args.place) (Some w) in
    let stops = open_stops w c.loop-at.at m' (inv.2 (omega (arith, c.loop-at-test.true))) (sym c.wins.ensures ∙ c.if-wins.false) in
    put_in m m' c.args.place c.args.cost c.requires.knockout c.requires.inside long (all_but c.loop-at.at m' inv.1 stops) inv.3 inv.4

pub returns-after-loop-at : goal.returns-after-loop-at
returns-after-loop-at c =
    let m = c.args.matches.now in
    let m' = c.loop-at.matches in
    let w : Waiting = record { cost = c.args.cost; place = c.args.place } in
    let inv = c.loop-at.invariant in
    let long : length m' ≡ length m = c.loop-at.auto.matches ∙ length-set m (places m + c.args.place) (Some w) in
    let none : c.loop-at.at ≡ 0 = omega (arith, c.loop-at-test.false) in
    put_in m m' c.args.place c.args.cost c.requires.knockout c.requires.inside long (subst (λ z. DecidedBut z m') none inv.1) inv.3 inv.4

pub overflow_cast-waiting : goal.overflow_cast-waiting
overflow_cast-waiting c = omega (arith, c.requires.inside, c.requires.few)
