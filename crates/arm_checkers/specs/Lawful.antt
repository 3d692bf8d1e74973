-- Step and Box pass a pair both ways round or not at all. Assumes nothing.
use Rattle.std.specs.Prelude.{◌≡◌, ℕ, List}
use Rattle.std.proofs.Common.{ap, sym, ◌∙◌}
use Rattle.arm.specs.declared.Arm.{Arm}
use Rattle.arm.specs.Swings.{swing_symmetric}
use Rattle.std.specs.List.{list_all}
use Rattle.checker.proofs.Seen.{every_reverse}
use Rattle.turning.specs.Motions.{motion}
use Rattle.turning.proofs.Reversal.{joints_same, motion_back}
use Rattle.turning.proofs.Sweeps.{swept_back}
use Rattle.walls.specs.declared.arc.Arc.{Arc}
use Rattle.walls.specs.declared.wall.Wall.{Wall}
use Rattle.walls.specs.Walls.{angle_at, apart}
use Rattle.arm_checkers.specs.Passes.{outside, step_passes, swept, swept_box, box_passes}

pub step_symmetric : (walls : List Wall) (e f : Arm) → step_passes walls e f ≡ step_passes walls f e
unfolding step_passes
step_symmetric walls e f = sym (ap (list_all (outside walls)) (motion_back e f) ∙ every_reverse (outside walls) (motion e f))

swept_same : (a b : ℕ) → swept b a ≡ swept a b
unfolding swept
swept_same a b = let from = swept_back a b in let size = swing_symmetric b a in cc

-- the way back sweeps the same arcs
box_back : (e f : Arm) → swept_box f e ≡ swept_box e f
unfolding swept_box
box_back e f =
    let same = joints_same (λ i. swept (angle_at f i) (angle_at e i)) (λ i. swept (angle_at e i) (angle_at f i)) (λ i h. swept_same (angle_at e i) (angle_at f i)) in
    ap (λ (arcs : List Arc). record { arcs = arcs }) same

pub box_symmetric : (walls : List Wall) (e f : Arm) → box_passes walls e f ≡ box_passes walls f e
unfolding box_passes
box_symmetric walls e f = ap (λ box. list_all (λ w. apart w box) walls) (sym (box_back e f))
