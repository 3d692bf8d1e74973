use Rattle.std.proofs.Common.{arith}
use Rattle.std.proofs.lemmas.Result.{err_from_is_err_and}
use Rattle.index.specs.Outcomes.{told}
use Rattle.roadmap.specs.Calls.{no_start, no_goal}
use Rattle.roadmap.proofs.States.{records_length, route_told}
use Rattle.roadmap.proofs.Roadmap.route.Goals as goal

pub route-requires : goal.route-requires
route-requires g c =
    let l = records_length c.args.self.now c.records.result.all.now c.records.ensures in
    (omega (arith, c.in_ok-start.ensures.0), omega (arith, c.in_ok-goal.ensures.0))

pub returns : goal.returns
returns g c =
    let p = c.in_ok-start.ensures in
    let q = c.in_ok-goal.ensures in
    route_told c.args.self.now c.records.result.all.now c.records.ensures c.args.a c.args.b c.in_ok-start.start c.in_ok-goal.goal p.1 p.2 q.1 q.2 c.args.list.now (told c.route.result) c.route.new.list c.route.ensures

pub returns-in_err-start : goal.returns-in_err-start
returns-in_err-start g c =
    let p = err_from_is_err_and c.from_residual.result c.from_residual.ensures.1 in
    rw (p.1, p.2, c.in_err-start.ensures.0) (no_start c.in_err-start.ensures.1)

pub returns-in_err-goal : goal.returns-in_err-goal
returns-in_err-goal g c =
    let p = err_from_is_err_and c.from_residual-in_err-goal.result c.from_residual-in_err-goal.ensures.1 in
    rw (p.1, p.2, c.in_err-goal.ensures.0) (no_goal c.in_ok-start.ensures.2 c.in_err-goal.ensures.1)
