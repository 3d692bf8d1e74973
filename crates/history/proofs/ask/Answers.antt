use Rattle.std.proofs.Common.{refl, ap}
use Rattle.std.proofs.lemmas.Result.{err_from_is_err_and}
use Rattle.history_theory.specs.History.{nears, reply_of}
use Rattle.history.proofs.Asking.{does_as, near_does, within_does, island_does, route_does}
use Rattle.history.proofs.ask.Goals as goal

pub returns-in_ok-near-in-Near : goal.returns-in_ok-near-in-Near
returns-in_ok-near-in-Near g c = record { does = does_as g.I.Element.Metric.dist g.C.Checker.passes _ _ _ _ _ _ _ c.in-Near.is (near_does g.I.Element.Metric.dist g.C.Checker.passes _ c.in-Near.q c.in-Near.k c.in-Near.places c.min-places.result c.args.list.now c.near.new.list c.args.numbers.now _ c.min-places.ensures (ap (reply_of nears) c.in_ok-near-in-Near.ensures.answer) c.near.ensures.writes) }

pub returns-in_err-near-in-Near : goal.returns-in_err-near-in-Near
returns-in_err-near-in-Near g c =
    let p = err_from_is_err_and c.from_residual-in_err-near-in-Near.result c.from_residual-in_err-near-in-Near.ensures.1 in
    record { does = rw (p.1, p.2) (does_as g.I.Element.Metric.dist g.C.Checker.passes _ _ _ _ _ _ _ c.in-Near.is (near_does g.I.Element.Metric.dist g.C.Checker.passes _ c.in-Near.q c.in-Near.k c.in-Near.places c.min-places.result c.args.list.now c.near.new.list c.args.numbers.now _ c.min-places.ensures (ap (reply_of nears) c.in_err-near-in-Near.ensures.answer) c.near.ensures.writes)) }

pub returns-in-Within : goal.returns-in-Within
returns-in-Within g c = record { does = does_as g.I.Element.Metric.dist g.C.Checker.passes _ _ _ _ _ _ _ c.in-Within.is (within_does g.I.Element.Metric.dist g.C.Checker.passes _ c.in-Within.q c.in-Within.radius c.in-Within.places c.min-places-in-Within.result c.within.result c.args.list.now c.within.new.list c.args.numbers.now _ c.min-places-in-Within.ensures refl c.within.ensures.answer c.within.ensures.writes) }

pub returns-in_ok-island-in-Island : goal.returns-in_ok-island-in-Island
returns-in_ok-island-in-Island g c = record { does = does_as g.I.Element.Metric.dist g.C.Checker.passes _ _ _ _ _ _ _ c.in-Island.is (island_does g.I.Element.Metric.dist g.C.Checker.passes _ c.in-Island.number _ _ _ refl c.in_ok-island-in-Island.ensures) }

pub returns-in_err-island-in-Island : goal.returns-in_err-island-in-Island
returns-in_err-island-in-Island g c =
    let p = err_from_is_err_and c.from_residual-in_err-island-in-Island.result c.from_residual-in_err-island-in-Island.ensures.1 in
    record { does = rw (p.1, p.2) (does_as g.I.Element.Metric.dist g.C.Checker.passes _ _ _ _ _ _ _ c.in-Island.is (island_does g.I.Element.Metric.dist g.C.Checker.passes _ c.in-Island.number _ _ _ refl c.in_err-island-in-Island.ensures)) }

pub returns-in_ok-length-in-Route : goal.returns-in_ok-length-in-Route
returns-in_ok-length-in-Route g c = record { does = does_as g.I.Element.Metric.dist g.C.Checker.passes _ _ _ _ _ _ _ c.in-Route.is (route_does g.I.Element.Metric.dist g.C.Checker.passes _ c.in-Route.a c.in-Route.b c.in-Route.places c.min-places-in-Route.result c.args.list.now c.args.numbers.now c.route.new.list _ _ c.min-places-in-Route.ensures refl c.in_ok-length-in-Route.ensures) }

pub returns-in_err-length-in-Route : goal.returns-in_err-length-in-Route
returns-in_err-length-in-Route g c =
    let p = err_from_is_err_and c.from_residual-in_err-length-in-Route.result c.from_residual-in_err-length-in-Route.ensures.1 in
    record { does = rw (p.1, p.2) (does_as g.I.Element.Metric.dist g.C.Checker.passes _ _ _ _ _ _ _ c.in-Route.is (route_does g.I.Element.Metric.dist g.C.Checker.passes _ c.in-Route.a c.in-Route.b c.in-Route.places c.min-places-in-Route.result c.args.list.now c.args.numbers.now c.route.new.list _ _ c.min-places-in-Route.ensures refl c.in_err-length-in-Route.ensures)) }
