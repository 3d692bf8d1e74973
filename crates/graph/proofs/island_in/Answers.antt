use Rattle.std.proofs.Common.{ℕ, ◌<◌, [], length, take, subst, sym, arith}
use Rattle.std.proofs.lemmas.List.{length-replicate}
use Rattle.chains.specs.declared.Edge.{Edge}
use Rattle.chains.specs.Chains.{Island}
use Rattle.chains.specs.Edges.{Linked}
use Rattle.links.specs.Records.{number_at, edges_of}
use Rattle.links.proofs.Resolving.{number_is, held_few}
use Rattle.graph.specs.Routes.{Standing}
use Rattle.graph.proofs.Surveying.{island_named, island_inside, front_long}
use Rattle.graph.proofs.island_in.Goals as goal

abbrev zero' : ℕ
zero' = 0

no_edge : Edge
no_edge = record { elder = 0; younger = 0; length = 0 }

pub resolve-made-requires : goal.resolve-made-requires
resolve-made-requires g c = omega (arith, length-replicate g.row.EDGES no_edge, held_few c.args.records.now.all.now c.args.records.now.good.sound, c.requires.edges.0)

pub bounds-records-place : goal.bounds-records-place
bounds-records-place g c =
    let links = c.args.records.now.all.now in
    island_inside links c.args.records.now.good c.resolve-made.new.edges c.resolve-made.result c.resolve-made.ensures.resolved c.args.at c.island_of-place.result _ (front_long zero' (length links) g.row.PLACES c.requires.places.0) c.island_of-place.ensures.island

pub offset_bounds-records-place : goal.offset_bounds-records-place
offset_bounds-records-place g c =
    let links = c.args.records.now.all.now in
    let i = island_inside links c.args.records.now.good c.resolve-made.new.edges c.resolve-made.result c.resolve-made.ensures.resolved c.args.at c.island_of-place.result _ (front_long zero' (length links) g.row.PLACES c.requires.places.0) c.island_of-place.ensures.island in
    omega (arith, c.args.records.now.good.few)

pub returns : goal.returns
returns g c =
    let links = c.args.records.now.all.now in
    let good = c.args.records.now.good in
    let es = c.resolve-made.new.edges in
    let made = c.resolve-made.result in
    let r = c.island_of-place.result in
    let resolved = c.resolve-made.ensures.resolved in
    let long = front_long zero' (length links) g.row.PLACES c.requires.places.0 in
    let i = island_inside links good es made resolved c.args.at r _ long c.island_of-place.ensures.island in
    subst (Island (Standing links) (Linked (edges_of links)) (number_at links c.args.at)) (sym (number_is links r (record { number = 0; count = 0; elders = [] }) i))
    (island_named links good es made resolved c.args.at r (subst (λ n. Island (λ i. i < n) (Linked (take made es)) c.args.at r) long c.island_of-place.ensures.island))
