use Rattle.std.proofs.Common.{◌≡◌, ℕ, zero, suc, ◌+◌, ◌<◌, false, List, length, get_or, replicate, take, Some, sym, refl, ap, ◌∙◌, subst, arith, length-take, rules}
use Rattle.std.proofs.lemmas.List.{get_or-take}
use Rattle.std.specs.List.{slice_get}
use Rattle.gnat_theory.specs.Searching.{measure_pivot}
use Rattle.gnat_rows.specs.declared.Branch.{Branch}
use Rattle.gnat_rows.specs.declared.Row.{Row}
use Rattle.gnat_rows.specs.Shows.{pivot_in}
use Rattle.std.proofs.lemmas.Option.{slice_get_within, slice_get-get_or}
use Rattle.gnat_search.specs.Wants.{want, Kept, Counted}
use Rattle.gnat_search.specs.Nodes.{BranchShown}
use Rattle.gnat_search.proofs.Surveys.{none_surveyed, struck_surveyed, seen_surveyed, surveyed_as, all_surveyed, pivot_at}
use Rattle.gnat_search.proofs.Quest.survey.Goals as goal
use Rattle.gnat_search.proofs.Quest.survey.Goals.{then-not-struck-i, else-not-struck-i}

no_flags : (n j : ℕ) → get_or (replicate n false) j false ≡ false
no_flags zero j = refl
no_flags (suc n) zero = refl
no_flags (suc n) (suc j) = no_flags n j

pub loop-i-init : goal.loop-i-init
loop-i-init g c = (
  refl,
  omega arith,
  λ ps fs n s old st k. none_surveyed c.args.self.now.rows.now g.E.Metric.dist c.args.self.now.q.now (want c.args.self.now.aim (length c.args.list.now)) c.args.branch.now ps st old fs (replicate 8 false) c.args.list.now c.args.so_far n s (no_flags 8) k,
)

-- the pivot i
pivot_is : (b : Branch) (i : ℕ) → i < length (take b.count b.pivots) → (i < b.count) × (get_or (take b.count b.pivots) i 0 ≡ get_or b.pivots i 0)
pivot_is b i l =
    let k : i < b.count = omega (arith, length-take b.count b.pivots, l) in
    (k, get_or-take b.count b.pivots i 0 k)

-- its row is there
in_range : {E : Type 0} (rows : List (Row E)) (b : Branch) (i : ℕ) → BranchShown rows b → i < length (take b.count b.pivots) → get_or (take b.count b.pivots) i 0 < length rows
in_range rows b i shown l =
    let is = pivot_is b i l in
    let at = pivot_at rows b shown.0 0 i shown.1 shown.4 (omega (arith, is.0, shown.2)) in
    let same : 0 + i ≡ i = omega arith in
    subst (λ n. n < length rows) (sym is.1) (slice_get_within rows (get_or b.pivots i 0) at.0 (ap (λ n. slice_get rows (get_or b.pivots n 0)) (sym same) ∙ at.1))

pub offset_bounds-self-at : goal.offset_bounds-self-at
offset_bounds-self-at g c = let h = in_range c.args.self.now.rows.now c.args.branch.now c.loop-i.i c.requires.shown c.loop-i-test.true in search rules

pub bounds-self-at : goal.bounds-self-at
bounds-self-at g c = in_range c.args.self.now.rows.now c.args.branch.now c.loop-i.i c.requires.shown c.loop-i-test.true

pub loop-i-preserved : goal.loop-i-preserved
loop-i-preserved g c =
    let dist = g.E.Metric.dist in
    let q = c.args.self.now.q.now in
    let rows = c.args.self.now.rows.now in
    let b = c.args.branch.now in
    let i = c.loop-i.i in
    let aim = c.args.self.now.aim in
    let w = want aim (length c.args.list.now) in
    let is = pivot_is b i c.loop-i-test.true in
    elim c.if-not-struck-i.branch [
      | then-not-struck-i s ↦
          let counted = s.count_pivot-counted.ensures in
          let at = get_or (take b.count b.pivots) i 0 in
          let row = get_or rows at s.index-self-at.result in
          let there : slice_get rows (get_or b.pivots i 0) ≡ Some row = ap (slice_get rows) (sym is.1) ∙ slice_get-get_or rows at s.index-self-at.result (in_range rows b i c.requires.shown c.loop-i-test.true) in
          let far : s.distance-distance.result ≡ dist q row.element = s.distance-distance.ensures in
          let long : length s.count_pivot-counted.new.list ≡ length c.args.list.now = s.count_pivot-counted.auto.list ∙ c.loop-i.auto.list in (
            ap length s.struck-is ∙ s.strike.array_long,
            subst (λ z. Counted c.args.so_far z (i + 1)) (sym s.so_far-is) (omega (arith, counted.counts, c.loop-i.invariant.1)),
            (λ ps fs n t old st k.
                surveyed_as rows dist q w b ps st old (i + 1) s.strike.new.struck c.if-not-struck-i.struck s.count_pivot-counted.new.list c.if-not-struck-i.list s.count_pivot-counted.result c.if-not-struck-i.so_far s.struck-is s.list-is s.so_far-is
                (seen_surveyed rows dist q w b ps st old i c.loop-i.struck c.loop-i.list c.loop-i.so_far is.0 row s.distance-distance.result s.reach-within.result s.strike.new.struck s.count_pivot-counted.new.list s.count_pivot-counted.result
                s.if-not-struck-i.true there far
                (λ st k. subst (λ n. Kept old s.count_pivot-counted.new.list s.count_pivot-counted.result (measure_pivot dist q (want aim n) (pivot_in row) st)) c.loop-i.auto.list (counted.keeps q far old st k))
                (λ st k. s.reach-within.ensures old st k ∙ ap (λ n. (want aim n).reach st.kept) long)
                s.strike.ensures
                (c.loop-i.invariant.2 ps fs n t old st k))),
          )
      | else-not-struck-i s ↦ (
        ap length s.struck-is ∙ c.loop-i.invariant.0,
        subst (λ z. Counted c.args.so_far z (i + 1)) (sym s.so_far-is) (omega (arith, c.loop-i.invariant.1)),
        (λ ps fs n t old st k.
            surveyed_as rows dist q w b ps st old (i + 1) c.loop-i.struck c.if-not-struck-i.struck c.loop-i.list c.if-not-struck-i.list c.loop-i.so_far c.if-not-struck-i.so_far s.struck-is s.list-is s.so_far-is
            (struck_surveyed rows dist q w b ps st old i c.loop-i.struck c.loop-i.list c.loop-i.so_far is.0 s.if-not-struck-i.false (c.loop-i.invariant.2 ps fs n t old st k))),
      )
    ]

pub returns-clause-keeps : goal.returns-clause-keeps
returns-clause-keeps g c = λ ps fs n s old st k.
    let b = c.args.branch.now in
    let long : length b.pivots ≡ 8 = search rules in
    let all : length (take b.count b.pivots) ≡ b.count = length-take b.count b.pivots ∙ omega (arith, long, c.requires.shown.3) in
    all_surveyed c.args.self.now.rows.now g.E.Metric.dist c.args.self.now.q.now (want c.args.self.now.aim (length c.args.list.now)) b ps st old c.loop-i.i c.loop-i.struck c.loop-i.list c.loop-i.so_far (omega (arith, all, c.loop-i-test.false))
    (c.loop-i.invariant.2 ps fs n s old st k)
