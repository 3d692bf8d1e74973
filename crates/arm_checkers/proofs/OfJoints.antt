-- What is done of a joint's turn at a step, and where the joint then is. Assumes nothing.
use Rattle.std.proofs.Common.{◌≡◌, ℕ, zero, suc, ◌+◌, ◌-◌, ◌*◌, ◌/◌, ◌%◌, ◌<◌, ◌≤◌, Bool, true, false, leb, None, Some, pos, ◌+ℤ◌, nat_abs, sym, refl, ap, ◌∙◌, ⊎_elim, mul_comm, mul-le-mul_left, arith}
use native.Mathlib.Nat.{le-div_iff_mul-le, div-lt_iff_lt-mul}
use Rattle.std.proofs.lemmas.Bool.{cases_lt, leb-true, leb-false, le-leb, lt-leb}
use Rattle.turning.specs.Circle.{wrap, ahead}
use Rattle.turning.specs.Arcs.{within}
use Rattle.turning.proofs.Circles.{wrap_pos, ahead_is}
use Rattle.arm_checkers.specs.declared.joint.Joint.{Joint}
use Rattle.arm_checkers.specs.First.{first_from}
use Rattle.arm_checkers.specs.Joints.{directed, part_done, joint_angle, angle_after, short, way_left}
use Rattle.arm_checkers.proofs.Firsts.{IsFirst, first_none, first_some, none_each, some_first}
use Rattle.arm_checkers.proofs.Parts.{part, turned_part, directed_size, part_whole, part_grows, part_slow, reached, unreached}

pub part_is : (j : Joint) (t : ℕ) → part_done j t ≡ part j.upward j.size j.steps t
unfolding part_done
part_is j t = ap nat_abs (turned_part j.upward j.size j.steps t) ∙ directed_size j.upward _

pub angle_is : (j : Joint) (t : ℕ) → joint_angle j t ≡ angle_after j (part_done j t)
unfolding joint_angle angle_after
angle_is j t = ap (λ z. wrap (pos j.start +ℤ z)) (turned_part j.upward j.size j.steps t) ∙ ap (λ k. wrap (pos j.start +ℤ directed j.upward k)) (sym (part_is j t))

pub done_grows : (j : Joint) (s t : ℕ) → s ≤ t → part_done j s ≤ part_done j t
done_grows j s t l = omega (arith, part_is j s, part_is j t, part_grows j.upward j.size j.steps s t l)

pub done_slow : (j : Joint) (t : ℕ) → part_done j (t + 1) ≤ part_done j t + 1
done_slow j t = omega (arith, part_is j t, part_is j (t + 1), part_slow j.upward j.size j.steps t j.slow)

-- so much of the turn done, without signs
pub after_up : (j : Joint) (k : ℕ) → j.upward ≡ true → angle_after j k ≡ (j.start + k % 4096) % 4096
unfolding angle_after
after_up j k way = ap (λ b. wrap (pos j.start +ℤ directed b k)) way ∙ wrap_pos (j.start + k) ∙ omega arith

pub after_down : (j : Joint) (k : ℕ) → j.upward ≡ false → angle_after j k ≡ (j.start + (4096 - k % 4096)) % 4096
unfolding angle_after ahead
after_down j k way =
    let round = j.round in
    ap (λ b. wrap (pos j.start +ℤ directed b k)) way ∙ ahead_is k j.start ∙ omega arith

-- the first step at which at least k of the turn is done
module _ (j : Joint) (k last : ℕ) (some : 0 < k) where
  abbrev enough : ℕ → Bool
  enough t = leb k (part_done j t)

  not_yet : (t : ℕ) → 0 < j.steps → j.size * t ≤ short j.upward j.steps k → enough t ≡ false
  not_yet t many l = lt-leb k (part_done j t) (omega (arith, part_is j t, unreached j.upward j.size j.steps t k many some l))

  pub never : last ≤ j.steps → j.size < k → None ≡ first_from enough 0 last
  never within more = sym (first_none enough 0 last (λ t l h. lt-leb k (part_done j t) (omega (arith, part_is j t, part_whole j.upward j.size j.steps t (omega arith)))))

  module _ (size limit : ℕ) (is : size ≡ j.size) (whole : k ≤ size) (limited : limit ≡ short j.upward j.steps k) where
    some_size : 0 < size
    some_size = omega arith

    many : 0 < j.steps
    many = let slow = j.slow in omega (arith, some_size)

    pub late : size * last ≤ limit → None ≡ first_from enough 0 last
    late l = sym (first_none enough 0 last (λ t g h. let less : j.size * t ≤ j.size * last = mul-le-mul_left j.size h in not_yet t many (omega (arith, ap (λ s. s * last) is))))

    pub soon : limit < size * last → Some (limit / size + 1) ≡ first_from enough 0 last
    soon l =
        let t : ℕ = limit / size + 1 in
        let in_time : limit / size < last = (div-lt_iff_lt-mul some_size).1 (omega (arith, mul_comm size last)) in
        let past : limit < t * size = (div-lt_iff_lt-mul some_size).0 (omega arith) in
        let here : k ≤ part j.upward j.size j.steps t = reached j.upward j.size j.steps t k many some (omega (arith, mul_comm t size, ap (λ s. s * t) is)) in
        sym (first_some enough 0 last t (omega arith) (omega arith) (le-leb k (part_done j t) (omega (arith, part_is j t)))
        (λ s g h.
        let less : s * size ≤ limit = (le-div_iff_mul-le some_size).0 (omega arith) in
        not_yet s many (omega (arith, mul_comm s size, ap (λ z. z * s) is))))

-- a joint that is outside an arc, with e < 4,096 the arc's extent, so far ahead of the arc's start, and the part of its turn at which it comes to the arc
module _ (j : Joint) (x e k ahead' : ℕ) (small : e < 4096) (here : ahead' ≡ ahead x (angle_after j k)) (out : e < ahead') where
  far_up : j.upward ≡ true → (i : ℕ) → ahead x (angle_after j i) ≡ (ahead x j.start + i) % 4096
  far_up way i = ap (ahead x) (after_up j i way) ∙ omega (arith, ahead_is x ((j.start + i % 4096) % 4096), ahead_is x j.start)

  far_down : j.upward ≡ false → (i : ℕ) → ahead x (angle_after j i) ≡ (ahead x j.start + (4096 - i % 4096)) % 4096
  far_down way i = ap (ahead x) (after_down j i way) ∙ omega (arith, ahead_is x ((j.start + (4096 - i % 4096)) % 4096), ahead_is x j.start)

  pub still_out : (i : ℕ) → k ≤ i → i < k + way_left j.upward e ahead' → e < ahead x (angle_after j i)
  still_out i g h = elim (j.upward) as (λ b. j.upward ≡ b → i < k + way_left b e ahead' → e < ahead x (angle_after j i)) [
    | true ↦ λ way near. omega (arith, far_up way i, far_up way k)
    | false ↦ λ way near. omega (arith, far_down way i, far_down way k)
  ] refl h

  pub then_in : ahead x (angle_after j (k + way_left j.upward e ahead')) ≤ e
  then_in = elim (j.upward) as (λ b. j.upward ≡ b → ahead x (angle_after j (k + way_left b e ahead')) ≤ e) [
    | true ↦ λ way. omega (arith, far_up way (k + (4096 - ahead')), far_up way k)
    | false ↦ λ way. omega (arith, far_down way (k + (ahead' - e)), far_down way k)
  ] refl

-- the first step from one on at which a joint is in an arc that it is outside of there: the first at which it comes to the arc
module _ (j : Joint) (x extent from last : ℕ) where
  abbrev inside : ℕ → Bool
  inside t = within x extent (joint_angle j t)

  inside_is : (t : ℕ) → inside t ≡ leb (ahead x (angle_after j (part_done j t))) (extent % 4096)
  unfolding within
  inside_is t = ap (λ a. leb (ahead x a) (extent % 4096)) (angle_is j t)

  abbrev part_to : ℕ → ℕ
  part_to ahead' = part_done j from + way_left j.upward (extent % 4096) ahead'

  module _ (ahead' : ℕ) (here : ahead' ≡ ahead x (angle_after j (part_done j from))) (out : extent % 4096 < ahead') (some : 0 < way_left j.upward (extent % 4096) ahead') where
    not_before : (s : ℕ) → from ≤ s → part_done j s < part_to ahead' → inside s ≡ false
    not_before s l h =
        inside_is s
        ∙ lt-leb _ (extent % 4096) (still_out j x (extent % 4096) (part_done j from) ahead' (omega arith) here out (part_done j s) (done_grows j from s l) h)

    -- so much is done at the first step at which no less is
    just : (t : ℕ) → IsFirst (λ s. leb (part_to ahead') (part_done j s)) 0 last t → part_done j t ≡ part_to ahead'
    just zero f = let l = leb-true (part_to ahead') (part_done j 0) f.here in let g = done_grows j 0 from (omega arith) in absurd (omega arith)
    just (suc t) f =
        let l = leb-true (part_to ahead') (part_done j (suc t)) f.here in
        let less = leb-false (part_to ahead') (part_done j t) (f.before t (omega arith) (omega arith)) in
        let next : t + 1 ≡ suc t = omega arith in
        let slow = rw next at (done_slow j t) in
        omega arith

    then_inside : (t : ℕ) → IsFirst (λ s. leb (part_to ahead') (part_done j s)) 0 last t → inside t ≡ true
    then_inside t f =
        inside_is t
        ∙ le-leb _ (extent % 4096) (rw (just t f) (then_in j x (extent % 4096) (part_done j from) ahead' (omega arith) here out))

    later : (t : ℕ) → IsFirst (λ s. leb (part_to ahead') (part_done j s)) 0 last t → from ≤ t
    later t f = ⊎_elim
        (λ h. let g = done_grows j t from (omega arith) in let e = just t f in absurd (omega arith))
        (λ h. h)
        (cases_lt t from)

    pub comes_in : first_from (λ t. leb (part_to ahead') (part_done j t)) 0 last ≡ first_from (λ t. within x extent (joint_angle j t)) from last
    comes_in = elim (first_from (λ t. leb (part_to ahead') (part_done j t)) 0 last) as (λ r. first_from (λ t. leb (part_to ahead') (part_done j t)) 0 last ≡ r → r ≡ first_from (λ t. within x extent (joint_angle j t)) from last) [
      | None ↦ λ e. sym (first_none inside from last (λ s l h. not_before s l (leb-false _ _ (none_each _ 0 last e s (omega arith) h))))
      | Some t ↦ λ e.
          let f = some_first _ 0 last t e in
          sym (first_some inside from last t (later t f) f.ended (then_inside t f) (λ s l h. not_before s l (leb-false _ _ (f.before s (omega arith) h))))
    ] refl

-- it is in the arc at once
pub at_once : (j : Joint) (x extent from last : ℕ) → from ≤ last → ahead x (angle_after j (part_done j from)) ≤ extent % 4096 → Some from ≡ first_from (λ t. within x extent (joint_angle j t)) from last
at_once j x extent from last l h = sym (first_some _ from last from (omega arith) l (inside_is j x extent from last from ∙ le-leb _ _ h) (λ s g k. absurd (omega arith)))
