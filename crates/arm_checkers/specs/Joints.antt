-- One joint of a motion: where it is at each step, and how much of its turn is done.
use Rattle.std.specs.Prelude.{◌≡◌, ℕ, ◌-◌, ◌*◌, ◌<◌, Bool, cond, List, slice_index_or, ℤ, pos, ◌+ℤ◌, neg_ℤ, unsigned_abs}
use Rattle.turning.specs.Circle.{wrap}
use Rattle.turning.specs.Motions.{turned}
use Rattle.arm_checkers.specs.declared.joint.Joint.{Joint}

-- so much, upward or downward
abbrev pub directed : Bool → ℕ → ℤ
directed upward k = cond upward (pos k) (neg_ℤ (pos k))

-- what is done of the joint's turn at a step, upward positive
abbrev pub joint_turned : Joint → ℕ → ℤ
joint_turned j t = turned (directed j.upward j.size) j.steps t

-- how much of it that is, whichever way the joint goes
unfoldable pub part_done : Joint → ℕ → ℕ
part_done j t = unsigned_abs (joint_turned j t)

-- the joint's angle at a step
unfoldable pub joint_angle : Joint → ℕ → ℕ
joint_angle j t = wrap (pos j.start +ℤ joint_turned j t)

-- its angle when so much of its turn is done
unfoldable pub angle_after : Joint → ℕ → ℕ
angle_after j k = wrap (pos j.start +ℤ directed j.upward k)

-- the greatest product of size and step at which less than k is done, with n steps in all
abbrev pub short : Bool → ℕ → ℕ → ℕ
short upward n k = cond upward (k * n - 1) ((k - 1) * n)

-- how far it is to an arc's start going up, or to its end going down
abbrev pub way_left : Bool → ℕ → ℕ → ℕ
way_left upward extent ahead = cond upward (4096 - ahead) (ahead - extent)

-- six joints have as many steps each
abbrev pub Together : List Joint → ℕ → Type 0
Together six steps = (i : ℕ) (d : Joint) → i < 6 → (slice_index_or six i d).steps ≡ steps
