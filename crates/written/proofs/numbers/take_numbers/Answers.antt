use Rattle.std.proofs.Common.{◌≡◌, ◌-◌, ◌<◌, ◌≤◌, [], ◌∷◌, length, take, sym, ap, ◌∙◌, arith}
use native.Mathlib.Nat.{sub-zero}
use Rattle.std.proofs.lemmas.List.{length-set, length-replicate, take_all, append-nil}
use Rattle.std.proofs.lemmas.List.Elements.{AllWithin-more_set}
use Rattle.std.proofs.lemmas.Result.{err_from_is_err_and}
use Rattle.level_theory.specs.Words.{a_number}
use Rattle.level_theory.specs.Reading.{number_wants}
use Rattle.words.specs.Cursors.{words_left, got, part}
use Rattle.words.proofs.Parts.{in_front}
use Rattle.written.proofs.Runs.{front_none, takes, stops}
use Rattle.written.proofs.numbers.take_numbers.Goals as goal

pub loop-number-init : goal.loop-number-init
loop-number-init g c = (
  length-replicate g.row.N 0,
  λ k d l h. absurd (omega arith),
  ap (λ n. part (number_wants n c.args.largest) (words_left c.args.words.now) c.args.words.now.place) (sym (sub-zero g.row.N)) ∙ front_none _,
)

pub loop-number-preserved : goal.loop-number-preserved
loop-number-preserved g c =
    let room : c.loop-number.number-index < length c.loop-number.number-items = omega arith in
    let most : c.in_ok-number.field-0 ≤ c.args.largest = omega (arith, c.in_ok-number.ensures.most) in (
      simp length-set c.loop-number.invariant.0,
      AllWithin-more_set c.loop-number.number-items c.loop-number.number-index c.in_ok-number.field-0 room (λ n. n ≤ c.args.largest) c.loop-number.invariant.1 most,
      takes g.row.N c.loop-number.number-index c.args.largest c.loop-number.number-items _ _ _ c.loop-number-test.true c.loop-number.invariant.2 c.in_ok-number.field-0 _ _ room
          (c.in_ok-number.ensures.taken ∙ ap (λ l. part (a_number l ∷ []) (words_left c.loop-number.words) c.loop-number.words.place) c.from.ensures),
    )

pub returns : goal.returns
returns g c =
    let none : g.row.N - c.loop-number.number-index ≡ 0 = omega arith in
    record {
      taken = sym (c.loop-number.invariant.2
          ∙ ap (λ k. in_front (take c.loop-number.number-index c.loop-number.number-items) (part (number_wants k c.args.largest) (words_left c.loop-number.words) c.loop-number.words.place)) none
          ∙ ap (λ ns. got ns (words_left c.loop-number.words) c.loop-number.words.place) (append-nil (take c.loop-number.number-index c.loop-number.number-items) ∙ take_all c.loop-number.number-index c.loop-number.number-items (omega arith)));
      most = λ k h. c.loop-number.invariant.1 k 0 (omega arith) (omega arith);
    }

pub returns-in_err-number : goal.returns-in_err-number
returns-in_err-number g c =
    let p = err_from_is_err_and c.from_residual.result c.from_residual.ensures.1 in
    rw (p.1, p.2) (record {
      taken = stops g.row.N c.loop-number.number-index c.args.largest c.loop-number.number-items _ _ _ c.loop-number-test.true c.loop-number.invariant.2 _ _ _
          (c.in_err-number.ensures.taken ∙ ap (λ l. part (a_number l ∷ []) (words_left c.loop-number.words) c.loop-number.words.place) c.from.ensures);
      most = tt;
    })
