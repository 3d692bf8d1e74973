use Rattle.std.proofs.Common.{suc, cond, length, sym, subst}
use Rattle.gnat_theory.specs.Searching.{State, measure}
use Rattle.gnat_rows.specs.Shows.{sample_in}
use Rattle.gnat_search.specs.Wants.{want, Kept}
use Rattle.gnat_search.proofs.Quest.count_pivot.Goals as goal

pub returns-clause-keeps : goal.returns-clause-keeps
returns-clause-keeps g c = λ q far old st k.
    let w = want c.args.self.now.aim (length c.args.list.now) in
    subst (λ t. Kept old c.count_sample.new.list c.count_sample.result (cond {A = State} t (record { kept = st.kept; measured = suc st.measured }) (measure g.E.Metric.dist q w (sample_in c.args.row.now) st))) (sym c.if-row.false)
    (c.count_sample.ensures.keeps q far old st k)
