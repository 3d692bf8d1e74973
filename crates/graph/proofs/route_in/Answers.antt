use Rattle.std.proofs.Common.{◌≡◌, ℕ, ◌<◌, List, length, take, None, Option, refl, sym, subst, ◌∙◌, arith}
use Rattle.std.specs.List.{AllByRecursion}
use Rattle.chains.specs.declared.Edge.{Edge}
use Rattle.chains.specs.Edges.{Inside}
use Rattle.chains.specs.Costs.{Settled, none, cost_at}
use Rattle.routing.specs.declared.cost.Cost.{Cost}
use Rattle.routing.specs.declared.neighbours.Neighbour.{Neighbour}
use Rattle.routing.specs.Ranks.{cost_of, ranks}
use Rattle.routing.specs.Layouts.{LaidOut}
use Rattle.routing.specs.Settles.{FewSteps}
use Rattle.routing.specs.Walks.{Walked}
use Rattle.links.specs.declared.Links.{Links}
use Rattle.links.specs.Records.{Resolved}
use Rattle.graph.proofs.Surveying.{none_from, routed_apart, routed_short, routed_written, walked_inside, front_long, reached}
use Rattle.graph.proofs.route_in.Goals as goal

-- what is known of the costs: they are settled over the edges that were laid out
record Known (links : List Links) (edges : List Edge) (made goal : ℕ) (costs : List (Option Cost)) : Type 0 where
  pub long : length costs ≡ length links
  pub settled : Settled (take made edges) goal (ranks costs)
  pub steps : FewSteps costs

known : (links : List Links) (edges : List Edge) (made goal : ℕ) (ends ends' : List ℕ) (all all' : List Neighbour) (old costs : List (Option Cost)) → Resolved links (length links) edges made → length old ≡ length links → length costs ≡ length old
    → ends' ≡ ends → all' ≡ all → LaidOut (take made edges) ends all → FewSteps costs → ((es : List Edge) → LaidOut es ends' all' → AllByRecursion (Inside (length old)) es → Settled es goal (ranks costs)) → Known links edges made goal costs
known links edges made goal ends ends' all all' old costs r l m e a laid steps f = record {
  long = m ∙ l;
  settled = f (take made edges) (subst (λ z. LaidOut (take made edges) z all') (sym e) (subst (LaidOut (take made edges) ends) (sym a) laid)) (subst (λ n. AllByRecursion (Inside n) (take made edges)) (sym l) r.inside);
  steps = steps;
}

pub returns-in_default : goal.returns-in_default
returns-in_default g c =
    let links = c.args.records.now.all.now in
    let r = c.resolve-made.ensures.resolved in
    let k = known links c.resolve-made.new.edges c.resolve-made.result c.args.goal c.lay_out.new.ends c.new-neighbours.result.ends.now c.lay_out.new.all c.new-neighbours.result.all.now _ c.settle.new.costs r (front_long None (length links) g.row.PLACES c.requires.places.0) c.settle.auto.costs
    c.new-neighbours.ensures.ends c.new-neighbours.ensures.all c.lay_out.ensures.laid c.settle.ensures.few c.settle.ensures.settled in
    routed_apart links c.args.records.now.good c.resolve-made.new.edges c.resolve-made.result r c.args.goal c.settle.new.costs k.long k.settled k.steps c.args.start c.requires.ends.0 c.requires.ends.1 c.args.list.now
    (none_from (cost_of c.settle.new.costs c.args.start) c.in_default.not-Some)

pub returns-then-list-count : goal.returns-then-list-count
returns-then-list-count g c =
    let links = c.args.records.now.all.now in
    let r = c.resolve-made.ensures.resolved in
    let k = known links c.resolve-made.new.edges c.resolve-made.result c.args.goal c.lay_out.new.ends c.new-neighbours.result.ends.now c.lay_out.new.all c.new-neighbours.result.all.now _ c.settle.new.costs r (front_long None (length links) g.row.PLACES c.requires.places.0) c.settle.auto.costs
    c.new-neighbours.ensures.ends c.new-neighbours.ensures.all c.lay_out.ensures.laid c.settle.ensures.few c.settle.ensures.settled in
    routed_short links c.args.records.now.good c.resolve-made.new.edges c.resolve-made.result r c.args.goal c.settle.new.costs k.long k.settled k.steps c.args.start c.requires.ends.0 c.requires.ends.1 c.args.list.now
    c.in-Some.cost c.in-Some.is c.if-list-count.true

-- what was walked is the chosen chain
walked : (links : List Links) (edges : List Edge) (made goal start : ℕ) (ends ends' : List ℕ) (all all' : List Neighbour) (costs : List (Option Cost)) (list middle : List ℕ) → Known links edges made goal costs → Resolved links (length links) edges made → cost_at (ranks costs) start < none
    → ends' ≡ ends → all' ≡ all → LaidOut (take made edges) ends all
    → ((es : List Edge) (goal : ℕ) → LaidOut es ends' all' → AllByRecursion (Inside (length costs)) es → Settled es goal (ranks costs) → cost_at (ranks costs) start < none → Walked es (length costs) start goal list middle) → Walked (take made edges) (length costs) start goal list middle
walked links edges made goal start ends ends' all all' costs list middle k r l e a laid f =
    f (take made edges) goal (subst (λ z. LaidOut (take made edges) z all') (sym e) (subst (LaidOut (take made edges) ends) (sym a) laid)) (subst (λ n. AllByRecursion (Inside n) (take made edges)) (sym k.long) r.inside) k.settled l

pub rename-requires : goal.rename-requires
rename-requires g c =
    let links = c.args.records.now.all.now in
    let good = c.args.records.now.good in
    let es = c.resolve-made.new.edges in
    let made = c.resolve-made.result in
    let r = c.resolve-made.ensures.resolved in
    let costs = c.settle.new.costs in
    let start = c.args.start in
    let k = known links es made c.args.goal c.lay_out.new.ends c.new-neighbours.result.ends.now c.lay_out.new.all c.new-neighbours.result.all.now _ costs r (front_long None (length links) g.row.PLACES c.requires.places.0) c.settle.auto.costs
    c.new-neighbours.ensures.ends c.new-neighbours.ensures.all c.lay_out.ensures.laid c.settle.ensures.few c.settle.ensures.settled in
    let l = reached links good es made r c.args.goal costs k.long k.settled k.steps start c.requires.ends.0 c.requires.ends.1 c.args.list.now c.in-Some.cost c.in-Some.is in
    let w = walked links es made c.args.goal start c.lay_out.new.ends c.new-neighbours.result.ends.now c.lay_out.new.all c.new-neighbours.result.all.now costs c.args.list.now c.walk.new.list k r l c.new-neighbours.ensures.ends c.new-neighbours.ensures.all c.lay_out.ensures.laid c.walk.ensures in
    walked_inside links good es made r c.args.goal costs k.long k.settled k.steps start c.requires.ends.0 c.requires.ends.1 c.args.list.now c.in-Some.cost c.in-Some.is c.walk.new.list w _ refl

pub returns : goal.returns
returns g c =
    let links = c.args.records.now.all.now in
    let good = c.args.records.now.good in
    let es = c.resolve-made.new.edges in
    let made = c.resolve-made.result in
    let r = c.resolve-made.ensures.resolved in
    let costs = c.settle.new.costs in
    let start = c.args.start in
    let k = known links es made c.args.goal c.lay_out.new.ends c.new-neighbours.result.ends.now c.lay_out.new.all c.new-neighbours.result.all.now _ costs r (front_long None (length links) g.row.PLACES c.requires.places.0) c.settle.auto.costs
    c.new-neighbours.ensures.ends c.new-neighbours.ensures.all c.lay_out.ensures.laid c.settle.ensures.few c.settle.ensures.settled in
    let l = reached links good es made r c.args.goal costs k.long k.settled k.steps start c.requires.ends.0 c.requires.ends.1 c.args.list.now c.in-Some.cost c.in-Some.is in
    let w = walked links es made c.args.goal start c.lay_out.new.ends c.new-neighbours.result.ends.now c.lay_out.new.all c.new-neighbours.result.all.now costs c.args.list.now c.walk.new.list k r l c.new-neighbours.ensures.ends c.new-neighbours.ensures.all c.lay_out.ensures.laid c.walk.ensures in
    routed_written links good es made r c.args.goal costs k.long k.settled k.steps start c.requires.ends.0 c.requires.ends.1 c.args.list.now c.in-Some.cost c.in-Some.is c.walk.new.list w _ refl c.rename.new.list (omega arith) c.rename.ensures
