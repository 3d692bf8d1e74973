use Rattle.std.proofs.Common.{◌≡◌, ℕ, ◌+◌, ◌<◌, ◌≤◌, ◌≢◌, length, None, Some, is_some, true≢false, sym, ap, ◌∙◌, subst, arith}
use Rattle.std.proofs.lemmas.List.{get_or-set_same, get_or-set_other, length-set}
use Rattle.routing.specs.declared.knockout.Waiting.{Waiting}
use Rattle.routing.specs.Knockouts.{entry, places, waits, NoDearer, Taken, nobody, least}
use Rattle.routing.proofs.Winning.{first_waits, all_dearer, nobody_waits, decided_above, changed_here, changed_only, changed_knockout, places_set}
use Rattle.routing.proofs.knockout.take.Goals as goal

pub returns-in_err-least : goal.returns-in_err-least
returns-in_err-least c =
    subst (λ r. Taken c.args.matches.now r c.args.matches.now) (sym c.from_residual.ensures) (nobody (nobody_waits c.args.matches.now c.requires.knockout c.in_err-least.was))

pub bounds-matches-at : goal.bounds-matches-at
bounds-matches-at c =
    let w = first_waits c.args.matches.now c.requires.knockout c.requires.some c.in_ok-least.least c.in_ok-least.was in
    omega (arith, w.0, c.requires.knockout.even)

pub replay-requires-clause-inside : goal.replay-requires-clause-inside
replay-requires-clause-inside c =
    let m = c.args.matches.now in
    let w = first_waits m c.requires.knockout c.requires.some c.in_ok-least.least c.in_ok-least.was in
    omega (arith, w.0, places_set m (places m + c.in_ok-least.least.place) None)

pub replay-requires-clause-few : goal.replay-requires-clause-few
replay-requires-clause-few c = omega (arith, c.requires.few, places_set c.args.matches.now (places c.args.matches.now + c.in_ok-least.least.place) None)

pub replay-requires-clause-even : goal.replay-requires-clause-even
replay-requires-clause-even c =
    let m = c.args.matches.now in
    omega (arith, c.requires.knockout.even, length-set m (places m + c.in_ok-least.least.place) None)

pub replay-requires-clause-others : goal.replay-requires-clause-others
replay-requires-clause-others c =
    let m = c.args.matches.now in
    let at = places m + c.in_ok-least.least.place in
    decided_above m at None (omega (arith, c.requires.some)) (λ i a b n. c.requires.knockout.decided i a b (λ z. omega arith)) (λ k. absurd (omega arith))

pub returns : goal.returns
returns c =
    let m = c.args.matches.now in
    let w = c.in_ok-least.least in
    let k = c.requires.knockout in
    let f = first_waits m k c.requires.some w c.in_ok-least.was in
    let at = places m + w.place in
    let r = c.replay.ensures in
    let many = places_set m at None in
    let inside : at < length m = omega (arith, f.0, k.even) in
    let here : entry c.replay.new.matches at ≡ None = r.same at (omega (arith, many)) ∙ get_or-set_same m at None None inside in
    let others : (i : ℕ) → places m ≤ i → i ≢ at → entry c.replay.new.matches i ≡ entry m i = λ i h n. r.same i (omega (arith, many, h)) ∙ get_or-set_other m at i None None (λ z. n z) in
    let long : length c.replay.new.matches ≡ length m = r.long ∙ length-set m at None in
    let named : (v : Waiting) → None ≡ Some v → v.place ≡ w.place = λ v e. absurd (true≢false (ap is_some (sym e))) in
    least w c.replay.new.matches f.0 f.1 (λ p l. subst (λ x. NoDearer x (waits m p)) c.in_ok-least.was (all_dearer m k p l))
    (changed_knockout m c.replay.new.matches w.place k f.0 long r.decided None here others named)
    (changed_only m c.replay.new.matches w.place k f.0 long r.decided None here others named)
    (changed_here m c.replay.new.matches w.place k f.0 long r.decided None here others named)
