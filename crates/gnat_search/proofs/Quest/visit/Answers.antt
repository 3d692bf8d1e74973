use Rattle.std.proofs.Common.{◌-◌}
use Rattle.arrayvec.specs.ArrayVec.{array_vec_len}
use Rattle.gnat_search.proofs.Visiting.{leaf_shown, leaf_visited, branch_shown, branch_fits, branch_visited}
use Rattle.gnat_search.proofs.Quest.visit.Goals as goal

pub measure_leaf-requires-clause-shown : goal.measure_leaf-requires-clause-shown
measure_leaf-requires-clause-shown g c = leaf_shown c.args.self.now.rows.now (1024 - array_vec_len c.args.pending.now) c.args.node.now c.requires.shown c.in-Leaf.leaf c.in-Leaf.is

pub survey-view-requires-clause-shown : goal.survey-view-requires-clause-shown
survey-view-requires-clause-shown g c = branch_shown c.args.self.now.rows.now (1024 - array_vec_len c.args.pending.now) c.args.node.now c.requires.shown c.in-Branch.branch c.in-Branch.is

pub push_open-requires-clause-few : goal.push_open-requires-clause-few
push_open-requires-clause-few g c = (branch_shown c.args.self.now.rows.now (1024 - array_vec_len c.args.pending.now) c.args.node.now c.requires.shown c.in-Branch.branch c.in-Branch.is).3

pub push_open-requires-clause-room : goal.push_open-requires-clause-room
push_open-requires-clause-room g c = branch_fits c.args.self.now.rows.now (1024 - array_vec_len c.args.pending.now) c.args.node.now c.requires.shown c.in-Branch.branch c.in-Branch.is

pub returns-in-Leaf-clause-keeps : goal.returns-in-Leaf-clause-keeps
returns-in-Leaf-clause-keeps g c =
    leaf_visited c.args.self.now.rows.now g.E.Metric.dist c.args.self.now.q.now c.args.self.now.aim c.args.node.now c.in-Leaf.leaf c.in-Leaf.is c.args.pending.now.items c.args.list.now c.measure_leaf.new.list c.args.so_far c.measure_leaf.result c.measure_leaf.ensures.keeps

pub returns-in-Branch-clause-keeps : goal.returns-in-Branch-clause-keeps
returns-in-Branch-clause-keeps g c =
    branch_visited c.args.self.now.rows.now g.E.Metric.dist c.args.self.now.q.now c.args.self.now.aim c.args.node.now c.in-Branch.branch c.in-Branch.is c.args.pending.now.items c.push_open.new.pending.items c.args.list.now c.survey-view.new.list c.args.so_far c.survey-view.result.so_far
    c.survey-view.result.struck c.survey-view.ensures.keeps c.push_open.ensures
