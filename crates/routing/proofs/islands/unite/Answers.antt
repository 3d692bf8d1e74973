use Rattle.std.proofs.Common.{◌≡◌, ℕ, ◌<◌, ◌≤◌, ◌⊎◌, List, length, set, sym, refl, ◌∙◌, subst, inl, inr, arith}
use Rattle.std.proofs.lemmas.List.{length-set}
use Rattle.routing.specs.Forests.{Top, JoinedIn, Climbed, United}
use Rattle.routing.proofs.Climbing.{link_together, link_still, link_forest, link_grown, same_parent}
use Rattle.routing.proofs.islands.unite.Goals as goal

-- the greater of the two ends gets the smaller as its parent
united : (before middle after : List ℕ) (one other a b low high : ℕ) → one < length before → other < length before → Climbed one before middle a → Climbed other middle after b → low ≤ high → high < length after
    → ((a ≡ low) × (b ≡ high)) ⊎ ((a ≡ high) × (b ≡ low)) → United one other before (set after high low)
united before middle after one other a b low high l m x y order inside which = record {
  long = length-set after high low ∙ (y.long ∙ x.long);
  forest = link_forest after y.forest low high one other order inside (tops which);
  together = link_together after y.forest low high one other order inside (tops which);
  still = λ p q t. link_still after y.forest low high one other order inside (tops which) p q (t.0, y.same p t.0 (x.same p t.0 t.1), y.same q t.0 (x.same q t.0 t.2));
  grown = λ edges j g. link_grown after y.forest low high one other order inside (tops which) edges (omega (arith, x.long, y.long)) (omega (arith, x.long, y.long)) (subst (λ n. JoinedIn n edges one other) (sym (y.long ∙ x.long)) j) (y.grown edges (x.grown edges g));
}
  where
    tops : ((a ≡ low) × (b ≡ high)) ⊎ ((a ≡ high) × (b ≡ low)) → (Top after one low × Top after other high) ⊎ (Top after one high × Top after other low)
    tops (inl e) = inl (subst (Top after one) e.0 (y.same one a x.top), subst (Top after other) e.1 y.top)
    tops (inr e) = inr (subst (Top after one) e.0 (y.same one a x.top), subst (Top after other) e.1 y.top)

pub returns-then-one-other : goal.returns-then-one-other
returns-then-one-other c =
    let x = c.top-one.ensures in
    let y = c.top-other.ensures in
    united c.args.parents.now c.top-one.new.parents c.top-other.new.parents c.args.one c.args.other c.top-one.result c.top-other.result c.top-one.result c.top-other.result c.requires.inside.0 c.requires.inside.1 x y
    (omega (arith, c.if-one-other.true)) (omega (arith, y.below, x.long, y.long, c.requires.inside.1)) (inl (refl, refl))

pub returns-else-one-other : goal.returns-else-one-other
returns-else-one-other c =
    let x = c.top-one.ensures in
    let y = c.top-other.ensures in
    united c.args.parents.now c.top-one.new.parents c.top-other.new.parents c.args.one c.args.other c.top-one.result c.top-other.result c.top-other.result c.top-one.result c.requires.inside.0 c.requires.inside.1 x y
    c.if-one-other.false (omega (arith, x.below, x.long, y.long, c.requires.inside.0)) (inr (refl, refl))

pub returns-then-parents-one : goal.returns-then-parents-one
returns-then-parents-one c =
    let parents = c.args.parents.now in
    record {
      long = refl;
      forest = c.requires.forest;
      together = same_parent parents c.requires.forest c.args.one c.args.other c.requires.inside.0 c.requires.inside.1 c.if-parents-one.true;
      still = λ p q t. t;
      grown = λ edges j g. g;
    }
