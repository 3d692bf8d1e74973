use Rattle.std.proofs.Common.{◌≡◌, ℕ, ◌≤◌, sym, refl, ap, subst, inl, inr, arith}
use Rattle.std.proofs.lemmas.Result.{err_from_is_err_and}
use Rattle.roadmap.specs.Roadmaps.{road_of}
use Rattle.history_theory.specs.History.{start}
use Rattle.history.specs.Turns.{Lent, lent, Ran}
use Rattle.history_theory.proofs.Reaching.{reached_new}
use Rattle.history.proofs.Playing.{alone, whole, judged_first, judged_second}
use Rattle.history.proofs.compare.Goals as goal

pub returns : goal.returns
returns g c =
    let dist = g.I.Element.Metric.dist in
    let a = c.in_ok-one.ensures in
    let b = c.in_ok-two.ensures in
    record {
      judged = (c.if-answers-calls.false, c.if-again-others.false, a.0, a.1, a.2, b.2);
      kept = λ u e. absurd (let z : ◌≡◌ {A = ℕ} 0 1 = cc in omega arith);
      one_run = λ ok. alone dist g.I.Element.Metric.GREATEST g.I.Element.Metric.laws g.C.Checker.passes g.C.Checker.symmetric c.args.k (g.I.Index.meaning c.args.first) (road_of g.I.Index.meaning c.in_ok-one.one) _ c.args.calls.now (lent c.args.list.now c.args.numbers.now) (lent c.run.new.list c.run.new.numbers) c.run.new.answers (g.I.Index.lawful c.args.first).capacity_bound a.3 c.run.ensures.ran;
      other_run = λ ok. alone dist g.I.Element.Metric.GREATEST g.I.Element.Metric.laws g.D.Checker.passes g.D.Checker.symmetric c.args.k (g.J.Index.meaning c.args.second) (road_of g.J.Index.meaning c.in_ok-two.two) _ c.args.others.now (lent c.args.copy.now c.args.twins.now) (lent c.run-2.new.list c.run-2.new.numbers) c.run-2.new.answers (g.J.Index.lawful c.args.second).capacity_bound b.3 c.run-2.ensures.ran;
      law = λ ok size x y s e f.
          let small : size ≤ 1024 = omega (arith, ap (λ z. z.capacity) x, (g.I.Index.lawful c.args.first).capacity_bound) in
          let same : lent c.args.copy.now c.args.twins.now ≡ lent c.args.list.now c.args.numbers.now = (λ i. lent (sym e i) (sym f i)) in
          let P : Lent → Type 0 = λ z. Ran dist g.D.Checker.passes (road_of g.J.Index.meaning c.in_ok-two.two) c.args.others.now z c.run-2.new.answers (lent c.run-2.new.list c.run-2.new.numbers) (road_of g.J.Index.meaning c.run-2.new.road) in
          whole dist g.I.Element.Metric.GREATEST g.I.Element.Metric.laws g.C.Checker.passes g.C.Checker.symmetric g.D.Checker.passes g.D.Checker.symmetric (start c.args.k size) (road_of g.I.Index.meaning c.in_ok-one.one) (road_of g.J.Index.meaning c.in_ok-two.two) _ _ c.args.calls.now c.args.others.now (lent c.args.list.now c.args.numbers.now) (lent c.run.new.list c.run.new.numbers) (lent c.run-2.new.list c.run-2.new.numbers) c.run.new.answers c.run-2.new.answers
          (reached_new dist c.args.k size small (road_of g.I.Index.meaning c.in_ok-one.one) (g.I.Index.meaning c.args.first) a.3 x)
          (reached_new dist c.args.k size small (road_of g.J.Index.meaning c.in_ok-two.two) (g.J.Index.meaning c.args.second) b.3 y)
          s c.run.ensures.ran (subst P same c.run-2.ensures.ran);
    }

pub returns-then-answers-calls : goal.returns-then-answers-calls
returns-then-answers-calls g c = record {
  judged = inl (refl, c.if-answers-calls.true);
  kept = λ u e. (refl, refl, refl, refl, refl, refl);
  one_run = λ ok. absurd (let z : ◌≡◌ {A = ℕ} 0 1 = cc in omega arith);
  other_run = λ ok. absurd (let z : ◌≡◌ {A = ℕ} 0 1 = cc in omega arith);
  law = λ ok. absurd (let z : ◌≡◌ {A = ℕ} 0 1 = cc in omega arith);
}

pub returns-then-again-others : goal.returns-then-again-others
returns-then-again-others g c = record {
  judged = inr (c.if-answers-calls.false, refl, c.if-again-others.true);
  kept = λ u e. (refl, refl, refl, refl, refl, refl);
  one_run = λ ok. absurd (let z : ◌≡◌ {A = ℕ} 0 1 = cc in omega arith);
  other_run = λ ok. absurd (let z : ◌≡◌ {A = ℕ} 0 1 = cc in omega arith);
  law = λ ok. absurd (let z : ◌≡◌ {A = ℕ} 0 1 = cc in omega arith);
}

pub returns-in_err-one : goal.returns-in_err-one
returns-in_err-one g c =
    let p = err_from_is_err_and c.from_residual.result c.from_residual.ensures.1 in
    rw (p.1, p.2) (record {
      judged = judged_first g.I.Index g.I.Element.Metric g.I.Index.meaning c.args.first c.args.k _ _ _ _ _ _ _ c.in_err-one.field-0.0 c.if-answers-calls.false c.if-again-others.false c.in_err-one.ensures;
      kept = λ u e. (refl, refl, refl, refl, refl, refl);
      one_run = λ ok. absurd (let z : ◌≡◌ {A = ℕ} 0 1 = cc in omega arith);
      other_run = λ ok. absurd (let z : ◌≡◌ {A = ℕ} 0 1 = cc in omega arith);
      law = λ ok. absurd (let z : ◌≡◌ {A = ℕ} 0 1 = cc in omega arith);
    })

pub returns-in_err-two : goal.returns-in_err-two
returns-in_err-two g c =
    let a = c.in_ok-one.ensures in
    let p = err_from_is_err_and c.from_residual-in_err-two.result c.from_residual-in_err-two.ensures.1 in
    rw (p.1, p.2) (record {
      judged = judged_second g.J.Index g.I.Element.Metric g.J.Index.meaning c.args.second c.args.k _ _ _ _ _ _ _ c.in_err-two.field-0.0 c.if-answers-calls.false c.if-again-others.false a.2 c.in_err-two.ensures;
      kept = λ u e. (refl, refl, refl, refl, refl, refl);
      one_run = λ ok. absurd (let z : ◌≡◌ {A = ℕ} 0 1 = cc in omega arith);
      other_run = λ ok. absurd (let z : ◌≡◌ {A = ℕ} 0 1 = cc in omega arith);
      law = λ ok. absurd (let z : ◌≡◌ {A = ℕ} 0 1 = cc in omega arith);
    })
