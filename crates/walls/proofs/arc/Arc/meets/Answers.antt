use Rattle.std.proofs.Common.{◌||◌, ap, ◌∙◌}
use Rattle.turning.specs.Arcs.{meeting}
use Rattle.walls.specs.Arcs.{in_arc}
use Rattle.walls.proofs.arc.Arc.meets.Goals as goal

pub returns-then-contains : goal.returns-then-contains
unfolding meeting
returns-then-contains c = c.if-contains.true ∙ ap (λ t. t || in_arc c.args.other.now c.args.self.now.start) c.if-contains.ensures

pub returns-else-contains : goal.returns-else-contains
unfolding meeting
returns-else-contains c = c.contains-else-contains.ensures ∙ ap (λ t. t || in_arc c.args.other.now c.args.self.now.start) c.if-contains.ensures
