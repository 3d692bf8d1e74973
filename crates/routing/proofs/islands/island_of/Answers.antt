use Rattle.std.proofs.Common.{◌≡◌, ℕ, ◌<◌, List, length, take, slice_index, sym, ◌∙◌, subst, arith}
use Rattle.std.specs.List.{AllByRecursion}
use Rattle.std.proofs.ByRecursion.{All-weaker, All-more}
use Rattle.std.proofs.lemmas.List.{take_all}
use Rattle.chains.specs.declared.Edge.{Edge}
use Rattle.chains.specs.Chains.{Island}
use Rattle.chains.specs.Edges.{edge, Inside, Linked}
use Rattle.routing.specs.Forests.{Grown, JoinedIn, Together, Climbed}
use Rattle.routing.proofs.Climbing.{itself, one_edge, top_joined, joined_together, top_one, top_below}
use Rattle.routing.proofs.islands.island_of.Goals as goal

pub loop-edge-init : goal.loop-edge-init
loop-edge-init c =
    let ps = c.loop-place.parents in
    let long = c.loop-place.auto.parents in
    let own : (p : ℕ) → p < length ps → slice_index ps p ≡ p = λ p l. c.loop-place.invariant p (omega (arith, c.loop-place-test.false)) in (
      λ p l. omega (arith, own p l),
      record {
        inside = subst (λ n. AllByRecursion (Inside n) c.args.edges.now) (sym long) c.requires.inside;
        joined = λ p l. subst (JoinedIn (length ps) c.args.edges.now p) (sym (own p l)) (itself (length ps) c.args.edges.now p l);
      },
      tt,
    )

pub loop-edge-preserved : goal.loop-edge-preserved
loop-edge-preserved c =
    let es = c.args.edges.now in
    let i = c.loop-edge.edge-index in
    let ps = c.loop-edge.parents in
    let inv = c.loop-edge.invariant in
    let u = c.unite.ensures in (
      u.forest,
      u.grown es (one_edge (length ps) es i c.loop-edge-test.true inv.1.inside) inv.1,
      All-more (λ e. Together c.unite.new.parents e.elder e.younger) es i (edge 0 0 0) c.loop-edge-test.true
          (All-weaker (λ e. Together ps e.elder e.younger) (λ e. Together c.unite.new.parents e.elder e.younger) (λ e t. u.still e.elder e.younger t) (take i es) inv.2) u.together,
    )

-- the end of the way up is the smallest that a chain joins
island_is : (edges : List Edge) (before parents : List ℕ) (n at r : ℕ) → length before ≡ n → at < n → Grown edges before → AllByRecursion (λ e. Together before e.elder e.younger) edges → Climbed at before parents r → Island (λ i. i < n) (Linked edges) at r
island_is edges before parents n at r long l g all k = subst (λ m. Island (λ i. i < m) (Linked edges) at r) (k.long ∙ long) (record {
  joined = top_joined edges parents k.forest (k.grown edges g) at r (omega (arith, k.long)) k.top;
  smallest = λ j x.
      let t = joined_together edges parents k.forest (All-weaker (λ e. Together before e.elder e.younger) (λ e. Together parents e.elder e.younger) (λ e y. (y.0, k.same e.elder y.0 y.1, k.same e.younger y.0 y.2)) edges all) at j x in
      omega (arith, top_one parents at r t.0 k.top t.1, top_below parents j t.0 t.2);
})

pub returns-clause-forest : goal.returns-clause-forest
returns-clause-forest c = c.top.ensures.forest

pub returns-clause-island : goal.returns-clause-island
returns-clause-island c =
    let es = c.args.edges.now in
    let inv = c.loop-edge.invariant in
    island_is es c.loop-edge.parents c.top.new.parents (length c.args.parents.now) c.args.at c.top.result (c.loop-edge.auto.parents ∙ c.loop-place.auto.parents) c.requires.at inv.1
    (subst (λ z. AllByRecursion (λ e. Together c.loop-edge.parents e.elder e.younger) z) (take_all c.loop-edge.edge-index es c.loop-edge-test.false) inv.2) c.top.ensures
