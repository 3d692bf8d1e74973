use Rattle.std.proofs.Common.{◌≡◌, ℕ, length, sym, refl, ap, ◌∙◌, inl, inr, arith}
use Rattle.std.proofs.lemmas.Result.{err_from_is_err_and}
use Rattle.history.specs.Fitting.{unless, fitting}
use Rattle.history.proofs.Fitting.{fitting_lists}
use Rattle.history.proofs.Playing.{judged_fit, judged_unfit}
use Rattle.history.proofs.compare_fitting.Goals as goal

pub returns : goal.returns
returns g c = record {
  judged = judged_fit _ _ _ _ _ _ _ _ _ _ _ _ c.if-answers-calls.false c.if-again-wanted.false (sym c.in_ok-all_fit.ensures) (sym c.in_ok-all_fit-2.ensures) c.compare.ensures.judged;
  kept = c.compare.ensures.kept;
  one_run = c.compare.ensures.one_run;
  other_run = c.compare.ensures.other_run;
  law = c.compare.ensures.law;
}

pub returns-then-answers-calls : goal.returns-then-answers-calls
returns-then-answers-calls g c = record {
  judged = inl (refl, c.if-answers-calls.true);
  kept = λ u e. (refl, refl, refl, refl, refl, refl);
  one_run = λ ok. absurd (let z : ◌≡◌ {A = ℕ} 0 1 = cc in omega arith);
  other_run = λ ok. absurd (let z : ◌≡◌ {A = ℕ} 0 1 = cc in omega arith);
  law = λ ok. absurd (let z : ◌≡◌ {A = ℕ} 0 1 = cc in omega arith);
}

pub returns-then-again-wanted : goal.returns-then-again-wanted
returns-then-again-wanted g c = record {
  judged = inr (c.if-answers-calls.false, refl, c.if-again-wanted.true);
  kept = λ u e. (refl, refl, refl, refl, refl, refl);
  one_run = λ ok. absurd (let z : ◌≡◌ {A = ℕ} 0 1 = cc in omega arith);
  other_run = λ ok. absurd (let z : ◌≡◌ {A = ℕ} 0 1 = cc in omega arith);
  law = λ ok. absurd (let z : ◌≡◌ {A = ℕ} 0 1 = cc in omega arith);
}

pub returns-in_err-all_fit : goal.returns-in_err-all_fit
returns-in_err-all_fit g c =
    let p = err_from_is_err_and c.from_residual.result c.from_residual.ensures.1 in
    let again = fitting (length c.args.copy.now) (length c.args.twins.now) c.args.others.now in
    let e = sym c.in_err-all_fit.ensures in
    rw (p.1, p.2) (record {
      judged = judged_unfit c.args.k (length c.args.calls.now) (length c.args.answers.now) (length c.args.others.now) (length c.args.again.now) (fitting (length c.args.list.now) (length c.args.numbers.now) c.args.calls.now) again (g.I.Index.meaning c.args.first).capacity (length c.args.links.now) (g.J.Index.meaning c.args.second).capacity (length c.args.spare.now) c.in_err-all_fit.field-0.0 c.if-answers-calls.false c.if-again-wanted.false (ap (λ z. unless z again) e) (fitting_lists _ _ c.args.calls.now _ e);
      kept = λ u e. (refl, refl, refl, refl, refl, refl);
      one_run = λ ok. absurd (let z : ◌≡◌ {A = ℕ} 0 1 = cc in omega arith);
      other_run = λ ok. absurd (let z : ◌≡◌ {A = ℕ} 0 1 = cc in omega arith);
      law = λ ok. absurd (let z : ◌≡◌ {A = ℕ} 0 1 = cc in omega arith);
    })

pub returns-in_err-all_fit-2 : goal.returns-in_err-all_fit-2
returns-in_err-all_fit-2 g c =
    let p = err_from_is_err_and c.from_residual-in_err-all_fit-2.result c.from_residual-in_err-all_fit-2.ensures.1 in
    let again = fitting (length c.args.copy.now) (length c.args.twins.now) c.args.others.now in
    let e = sym c.in_err-all_fit-2.ensures in
    rw (p.1, p.2) (record {
      judged = judged_unfit c.args.k (length c.args.calls.now) (length c.args.answers.now) (length c.args.others.now) (length c.args.again.now) (fitting (length c.args.list.now) (length c.args.numbers.now) c.args.calls.now) again (g.I.Index.meaning c.args.first).capacity (length c.args.links.now) (g.J.Index.meaning c.args.second).capacity (length c.args.spare.now) c.in_err-all_fit-2.field-0.0 c.if-answers-calls.false c.if-again-wanted.false (ap (λ z. unless z again) (sym c.in_ok-all_fit.ensures) ∙ e) (fitting_lists _ _ c.args.others.now _ e);
      kept = λ u e. (refl, refl, refl, refl, refl, refl);
      one_run = λ ok. absurd (let z : ◌≡◌ {A = ℕ} 0 1 = cc in omega arith);
      other_run = λ ok. absurd (let z : ◌≡◌ {A = ℕ} 0 1 = cc in omega arith);
      law = λ ok. absurd (let z : ◌≡◌ {A = ℕ} 0 1 = cc in omega arith);
    })
