use Rattle.std.proofs.Common.{◌<◌, [], ◌∷◌, ◌++◌, length, sym, subst, arith, rules}
use Rattle.gnat_theory.specs.Searching.Sight.{seen}
use Rattle.gnat_search.specs.Nodes.{Flags}
use Rattle.gnat_search.proofs.Flagging.{quiet_flags, strikes_none, tested_all}
use Rattle.gnat_search.proofs.striking.strike.Goals as goal

pub returns-in_default : goal.returns-in_default
returns-in_default c = λ ss long f. quiet_flags c.args.branch.now c.args.struck.now ss _ (strikes_none c.args.reach c.args.distance c.in_default.not-Some) f

pub returns : goal.returns
returns c = λ ss long f.
    let b = c.args.branch.now in
    let i = c.args.pivot in
    let d = c.args.distance in
    let R = c.in-Some.radius in
    let before = c.args.struck.now in
    let after = c.loop-child.struck in
    let lows : i < length b.low = search rules in
    let highs : i < length b.high = search rules in
    subst (λ o. Flags b after (ss ++ (seen d o ∷ []))) (sym c.in-Some.is)
    (tested_all b i d R before after c.requires.pivot lows highs (λ j l. c.loop-child.invariant.1 d R c.around-band.ensures j (omega (arith, l, c.requires.few, c.loop-child-test.false))) ss long f)
