use Rattle.std.proofs.Common.{not, ◌∙◌, rules, tests}
use Rattle.std.proofs.lemmas.Iterator.{YieldsList-from_slice, YieldsList-from_zip}
use Rattle.std.proofs.lemmas.Iterator.Search.{any_from_yields_List}
use Rattle.checker.proofs.Zipped.{any_zipped}
use Rattle.walls.specs.declared.arc.Arc.{Arc}
use Rattle.walls.specs.Arcs.{meet}
use Rattle.walls.specs.Walls.{apart}
use Rattle.walls.proofs.wall.Wall.is_apart.Goals as goal

pub returns : goal.returns
unfolding apart
returns c =
    let other = c.args.other.now.arcs in
    let none : Arc = record { start = 0; extent = 0 } in
    any_from_yields_List (λ (p : Arc × Arc). not (meet p.0 p.1)) c.any.new.self _ c.any.result c.any.ensures.ran (YieldsList-from_zip (YieldsList-from_slice c.args.self.now.arcs cc) (YieldsList-from_slice other cc)) (λ x b q k. search (rules, tests))
    ∙ any_zipped (λ a b. not (meet a b)) none none 6 c.args.self.now.arcs other (search rules) (search rules)
