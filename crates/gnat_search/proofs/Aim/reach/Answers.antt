use Rattle.std.proofs.Common.{length, sym, ap, ◌∙◌}
use Rattle.gnat_search.specs.Wants.{want}
use Rattle.gnat_search.proofs.Keeping.{last_reach}
use Rattle.gnat_search.proofs.Aim.reach.Goals as goal

pub returns-in_ok-farthest-in-Nearest : goal.returns-in_ok-farthest-in-Nearest
returns-in_ok-farthest-in-Nearest c = λ old st k.
    c.then_some.ensures
    ∙ (last_reach old c.args.list.now c.args.so_far st k c.in_ok-farthest-in-Nearest.farthest.now (sym c.in_ok-farthest-in-Nearest.ensures.value)
    ∙ ap (λ a. (want a (length c.args.list.now)).reach st.kept) (sym c.in-Nearest.is))
