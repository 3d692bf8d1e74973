use Rattle.std.proofs.Common.{List, ℕ, map, sym, refl, ◌∙◌, lit≤, subst, rules}
use Rattle.std.proofs.lemmas.Result.{err_from_is_err_and}
use Rattle.index.specs.Outcomes.{gives}
use Rattle.roadmap.specs.Roadmaps.{road_of}
use Rattle.history_theory.specs.History.{start}
use Rattle.history.specs.Turns.{lent}
use Rattle.history_theory.proofs.Reaching.{reached_new}
use Rattle.play_theory.specs.Answering.{set_call, Answered}
use Rattle.player.specs.Calls.{line_call, blank_lists, told_calls, calls_end}
use Rattle.player.proofs.Running.{kept_end, step_more, step_full, step_done, counted_full}
use Rattle.player.proofs.calls.play_on.Goals as goal

pub loop-i-init : goal.loop-i-init
loop-i-init g c =
    let made = c.in-Ok.ensures in
    record {
      places = (refl, refl);
      same_reference = refl;
      end = c.new-output.ensures.len;
      going = record {
        history = start c.args.k 64;
        reached = reached_new g.I.Element.Metric.dist c.args.k 64 (lit≤ tt) (road_of g.I.Index.meaning c.in-Ok.road) (g.I.Index.meaning c.args.index) made.3 c.requires.fresh;
        back = λ o end after x. (let P : List ℕ → Type 0 = λ bytes. Answered g.I.Element.Metric.dist (start c.args.k 64) (map (λ line. set_call g.C.Checker.passes (line_call line c.args.checker)) c.args.lines.now) blank_lists 0 0 bytes o end after in subst P c.new-output.ensures.bytes x);
      };
    }

pub returns-in_err-end : goal.returns-in_err-end
returns-in_err-end g c =
    let made = err_from_is_err_and c.from_residual.result c.from_residual.ensures.1 in
    let P : List ℕ → Type 0 = λ o. Answered g.I.Element.Metric.dist (start c.args.k 64) (map (λ line. set_call g.C.Checker.passes (line_call line c.args.checker)) c.args.lines.now) blank_lists 0 0 c.args.out.now (told_calls c.from_residual.result) (calls_end c.from_residual.result o) o in
    subst P {x = c.answer_call-answered.new.out.bytes.now} (search rules) (rw (made.1, made.2) (counted_full _ _ _ _ _ _ _ _ (step_full g.I.Element.Metric.dist g.I.Element.Metric.GREATEST g.I.Element.Metric.laws g.C.Checker.passes g.C.Checker.symmetric c.args.checker _
    c.args.lines.now c.index-lines-i.result c.loop-i.i c.loop-i.end c.call_of-call.result _ _ (lent c.loop-i.hits c.loop-i.numbers) _ c.loop-i.output.bytes.now _ c.loop-i-test.true c.index-lines-i.is c.call_of-call.ensures c.answer_call-answered.result c.loop-i.output.len _ c.in_err-end.field-0.0 c.loop-i.invariant.end (sym c.ok_or.ensures.value ∙ c.in_err-end.was) refl c.answer_call-answered.ensures.answers c.loop-i.invariant.going)))

pub loop-i-preserved : goal.loop-i-preserved
loop-i-preserved g c =
    let x = c.answer_call-answered.ensures in
    let was = sym c.ok_or.ensures.value ∙ c.in_ok-end.was in
    record {
      places = (c.answer_call-answered.auto.hits ∙ c.loop-i.invariant.places.0, c.answer_call-answered.auto.numbers ∙ c.loop-i.invariant.places.1);
      same_reference = x.same_reference ∙ c.loop-i.invariant.same_reference;
      end = kept_end c.answer_call-answered.result _ c.loop-i.output.len c.answer_call-answered.new.out.len c.in_ok-end.end was x.len;
      going = step_more g.I.Element.Metric.dist g.I.Element.Metric.GREATEST g.I.Element.Metric.laws g.C.Checker.passes g.C.Checker.symmetric c.args.checker _
          c.args.lines.now c.index-lines-i.result c.loop-i.i c.loop-i.end c.call_of-call.result _ _ (lent c.loop-i.hits c.loop-i.numbers) _ c.loop-i.output.bytes.now _ c.loop-i-test.true c.index-lines-i.is c.call_of-call.ensures c.answer_call-answered.result c.loop-i.output.len c.in_ok-end.end _ c.loop-i.invariant.end was x.answers c.loop-i.invariant.going;
    }

pub returns : goal.returns
returns g c =
    let P : List ℕ → Type 0 = λ o. Answered g.I.Element.Metric.dist (start c.args.k 64) (map (λ line. set_call g.C.Checker.passes (line_call line c.args.checker)) c.args.lines.now) blank_lists 0 0 c.args.out.now (gives c.loop-i.end) c.loop-i.end o in
    subst P {x = c.loop-i.output.bytes.now} (search rules) (step_done g.I.Element.Metric.dist g.I.Element.Metric.GREATEST g.I.Element.Metric.laws g.C.Checker.passes g.C.Checker.symmetric c.args.checker _
    c.args.lines.now c.loop-i.i c.loop-i.end _ (lent c.loop-i.hits c.loop-i.numbers) c.loop-i.output.bytes.now c.loop-i-test.false c.loop-i.invariant.going)
