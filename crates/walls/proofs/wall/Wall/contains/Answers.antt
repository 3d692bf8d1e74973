use Rattle.std.proofs.Common.{ℕ, ◌∙◌, rules, tests}
use Rattle.std.proofs.lemmas.Iterator.{YieldsList-from_slice, YieldsList-from_zip}
use Rattle.std.proofs.lemmas.Iterator.Search.{all_from_yields_List}
use Rattle.checker.proofs.Zipped.{all_zipped}
use Rattle.walls.specs.declared.arc.Arc.{Arc}
use Rattle.walls.specs.Arcs.{in_arc}
use Rattle.walls.specs.Walls.{in_wall}
use Rattle.walls.proofs.wall.Wall.contains.Goals as goal

pub returns : goal.returns
unfolding in_wall
returns c =
    let angles = c.args.pose.now.angles in
    all_from_yields_List (λ (p : Arc × ℕ). in_arc p.0 p.1) c.all.new.self _ c.all.result c.all.ensures.ran (YieldsList-from_zip (YieldsList-from_slice c.args.self.now.arcs cc) (YieldsList-from_slice angles cc)) (λ x b q k. search (rules, tests))
    ∙ all_zipped in_arc (record { start = 0; extent = 0 }) 0 6 c.args.self.now.arcs angles (search rules) (search rules)
