-- A motion and many walls. Assumes nothing.
use Rattle.std.proofs.Common.{◌≡◌, ℕ, ◌+◌, ◌<◌, ◌≤◌, Bool, true, false, not, ◌&&◌, ◌||◌, List, [], ◌∷◌, length, get_or, take, Option, None, Some, sym, refl, ap, ◌∙◌, arith}
use Rattle.std.specs.Prelude.{is_none, is_some, unwrap_or}
use Rattle.std.specs.List.{list_all, range_with_len}
use mathlib.Core.Bool.{or-true}
use Rattle.std.proofs.lemmas.List.Folds.{list_all_more}
use Rattle.arm.specs.declared.Arm.{Arm}
use Rattle.checker.proofs.Seen.{every_map, every_same}
use Rattle.turning.specs.Motions.{pose_at, steps_of, motion}
use Rattle.walls.specs.declared.wall.Wall.{Wall}
use Rattle.walls.specs.Walls.{in_wall}
use Rattle.arm_checkers.specs.declared.way.Way.{Way}
use Rattle.arm_checkers.specs.First.{first_from}
use Rattle.arm_checkers.specs.Meetings.{way_pose, first_met, first_met_of}
use Rattle.arm_checkers.specs.Passes.{outside, step_passes}
use Rattle.arm_checkers.proofs.Firsts.{first_none, first_some, none_each, some_first, first_same, none_all}

-- two tests of each element are one test after the other
every_both : {X : Type 0} (p q : X → Bool) (xs : List X) → list_all (λ x. p x && q x) xs ≡ (list_all p xs && list_all q xs)
every_both p q [] = refl
every_both p q (x ∷ xs) = ap (λ b. (p x && q x) && b) (every_both p q xs) ∙ mixed (p x) (q x) (list_all p xs) (list_all q xs)
  where
    mixed : (a b c d : Bool) → ((a && b) && (c && d)) ≡ ((a && c) && (b && d))
    mixed true true c d = refl
    mixed true false true d = refl
    mixed true false false d = refl
    mixed false b c d = refl

every_true : {X : Type 0} (xs : List X) → list_all (λ x. true) xs ≡ true
every_true [] = refl
every_true (x ∷ xs) = every_true xs

-- each of some against each of others, one way round or the other
every_exchange : {X Y : Type 0} (r : X → Y → Bool) (xs : List X) (ys : List Y) → list_all (λ x. list_all (r x) ys) xs ≡ list_all (λ y. list_all (λ x. r x y) xs) ys
every_exchange r [] ys = sym (every_true ys)
every_exchange r (x ∷ xs) ys = ap (λ b. list_all (r x) ys && b) (every_exchange r xs ys) ∙ sym (every_both (r x) (λ y. list_all (λ z. r z y) xs) ys)

not_not : (b : Bool) → not (not b) ≡ b
not_not true = refl
not_not false = refl

module _ (e f : Arm) where
  -- a motion passes a wall that it never meets
  pub passes_each : (walls : List Wall) → step_passes walls e f ≡ list_all (λ w. is_none (first_met w e f)) walls
  unfolding step_passes motion outside first_met
  passes_each walls =
      every_map (outside walls) (pose_at e f (steps_of e f)) (range_with_len 0 (steps_of e f + 1))
      ∙ every_exchange (λ t w. not (in_wall w (pose_at e f (steps_of e f) t))) (range_with_len 0 (steps_of e f + 1)) walls
      ∙ every_same _ _ (λ w. sym (none_all (λ t. in_wall w (pose_at e f (steps_of e f) t)) (steps_of e f))) walls

  -- and walls of which it never meets any
  pub passes_all : (walls : List Wall) → is_none (first_met_of walls e f) ≡ step_passes walls e f
  unfolding step_passes motion first_met_of
  passes_all walls =
      none_all (λ t. not (outside walls (pose_at e f (steps_of e f) t))) (steps_of e f)
      ∙ every_same _ _ (λ t. not_not (outside walls (pose_at e f (steps_of e f) t))) (range_with_len 0 (steps_of e f + 1))
      ∙ sym (every_map (outside walls) (pose_at e f (steps_of e f)) (range_with_len 0 (steps_of e f + 1)))

  -- the motion, joint by joint, is the same
  module _ (way : Way) (steps : way.steps ≡ steps_of e f) (poses : (t : ℕ) → way_pose way t ≡ pose_at e f (steps_of e f) t) where
    pub way_met : (w : Wall) → first_from (λ t. in_wall w (way_pose way t)) 0 way.steps ≡ first_met w e f
    unfolding first_met
    way_met w = ap (first_from (λ t. in_wall w (way_pose way t)) 0) steps ∙ first_same _ _ 0 (steps_of e f) (λ t. ap (in_wall w) (poses t))

    pub way_met_of : (walls : List Wall) → first_from (λ t. not (outside walls (way_pose way t))) 0 way.steps ≡ first_met_of walls e f
    unfolding first_met_of
    way_met_of walls = ap (first_from (λ t. not (outside walls (way_pose way t))) 0) steps ∙ first_same _ _ 0 (steps_of e f) (λ t. ap (λ x. not (outside walls x)) (poses t))

-- the first step so far at which p is true, and the last step that counts from now on
module _ (p : ℕ → Bool) (n last : ℕ) (first : Option ℕ) (known : first ≡ first_from p 0 n) (until : last ≡ unwrap_or first n) where
  pub in_time : last ≤ n
  in_time = elim first as (λ r. r ≡ first_from p 0 n → last ≡ unwrap_or r n → last ≤ n) [
    | None ↦ λ k u. omega arith
    | Some t ↦ λ k u. let f = some_first p 0 n t (sym k) in omega (arith, f.ended)
  ] known until

  not_yet : (s : ℕ) → s < last → p s ≡ false
  not_yet s h = elim first as (λ r. r ≡ first_from p 0 n → last ≡ unwrap_or r n → p s ≡ false) [
    | None ↦ λ k u. none_each p 0 n (sym k) s (omega arith) (omega arith)
    | Some t ↦ λ k u. let f = some_first p 0 n t (sym k) in f.before s (omega arith) (omega arith)
  ] known until

  -- q is asked at the steps that count
  module _ (q : ℕ → Bool) where
    abbrev either : ℕ → Bool
    either t = p t || q t

    -- it is true at one of them
    pub sooner : (t : ℕ) → Some t ≡ first_from q 0 last → Some t ≡ first_from either 0 n
    sooner t e =
        let f = some_first q 0 last t (sym e) in
        sym (first_some either 0 n t (omega arith) (omega (arith, in_time, f.ended)) (ap (λ b. p t || b) f.here ∙ or-true (p t))
        (λ s l h. ap (λ b. b || q s) (not_yet s (omega (arith, f.ended))) ∙ f.before s l h))

    -- or at none
    pub no_sooner : None ≡ first_from q 0 last → first ≡ first_from either 0 n
    no_sooner e = elim first as (λ r. r ≡ first_from p 0 n → last ≡ unwrap_or r n → r ≡ first_from either 0 n) [
      | None ↦ λ k u. sym (first_none either 0 n (λ s l h. ap (λ b. b || q s) (none_each p 0 n (sym k) s l h) ∙ none_each q 0 last (sym e) s l (omega arith)))
      | Some t ↦ λ k u.
          let f = some_first p 0 n t (sym k) in
          sym (first_some either 0 n t (omega arith) f.ended (ap (λ b. b || q t) f.here) (λ s l h. ap (λ b. b || q s) (f.before s l h) ∙ none_each q 0 last (sym e) s l (omega arith)))
    ] known until

-- one more wall
pub outside_more : (walls : List Wall) (i : ℕ) (d : Wall) (e : Arm) → i < length walls → not (outside (take (i + 1) walls) e) ≡ (not (outside (take i walls) e) || in_wall (get_or walls i d) e)
unfolding outside
outside_more walls i d e h = ap not (list_all_more (λ w. not (in_wall w e)) walls i d h) ∙ split (list_all (λ w. not (in_wall w e)) (take i walls)) (in_wall (get_or walls i d) e)
  where
    split : (a b : Bool) → not (a && not b) ≡ (not a || b)
    split true b = not_not b
    split false b = refl

pub outside_none : (e : Arm) → not (outside [] e) ≡ false
unfolding outside
outside_none e = refl

pub some_or_none : (o : Option ℕ) → is_none o ≡ not (is_some o)
some_or_none None = refl
some_or_none (Some t) = refl

-- one more wall is asked, at the steps that still count
module _ (way : Way) (walls : List Wall) (i : ℕ) (d : Wall) (low : i < length walls) (first : Option ℕ) (last : ℕ) (known : first ≡ first_from (λ t. not (outside (take i walls) (way_pose way t))) 0 way.steps) (until : last ≡ unwrap_or first way.steps) where
  abbrev with_it : ℕ → Bool
  with_it t = not (outside (take (i + 1) walls) (way_pose way t))

  abbrev this : ℕ → Bool
  this t = in_wall (get_or walls i d) (way_pose way t)

  pub wall_sooner : (t : ℕ) → Some t ≡ first_from this 0 last → Some t ≡ first_from with_it 0 way.steps
  wall_sooner t e = sooner _ way.steps last first known until this t e ∙ sym (first_same _ _ 0 way.steps (λ s. outside_more walls i d (way_pose way s) low))

  pub wall_no_sooner : None ≡ first_from this 0 last → first ≡ first_from with_it 0 way.steps
  wall_no_sooner e = no_sooner _ way.steps last first known until this e ∙ sym (first_same _ _ 0 way.steps (λ s. outside_more walls i d (way_pose way s) low))

pub no_walls : (way : Way) (walls : List Wall) → None ≡ first_from (λ t. not (outside (take 0 walls) (way_pose way t))) 0 way.steps
no_walls way walls = sym (first_none _ 0 way.steps (λ s l h. outside_none (way_pose way s)))
