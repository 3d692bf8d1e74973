use Rattle.std.proofs.Common.{refl, ap, ◌∙◌}
use Rattle.std.proofs.lemmas.Result.{err_from_is_err_and}
use Rattle.index.specs.Outcomes.{gives}
use Rattle.index.proofs.Outcomes.{add_refused, add_done}
use Rattle.gnat.specs.States.{meaning_of}
use Rattle.gnat.specs.Leaving.{tree_with_at}
use Rattle.gnat.proofs.Calls.{room_is}
use Rattle.gnat.specs.Gnats.{state_of}
use Rattle.gnat.proofs.Laid.{laid_out, files_in}
use Rattle.gnat.proofs.gnat.GnatIndex.add.Goals as goal

pub returns-in_err-room : goal.returns-in_err-room
returns-in_err-room g c =
    let s = state_of c.args.self.now in
    let p = err_from_is_err_and c.from_residual.result c.from_residual.ensures.1 in
    let full = c.in_err-room.ensures ∙ room_is g.E.Metric.dist s (laid_out g.E.Metric.dist s c.args.self.now.sound) c.capacity.result c.capacity.ensures in
    let r = add_refused (meaning_of s) c.args.e _ _ full in
    rw (p.1, p.2) (record { answer = r.0; leaves = r.1; tree = ap (tree_with_at g.E.Metric.dist s c.args.e) full; right = files_in g.E.Metric.dist s c.args.self.now.sound; settings = refl })

pub returns : goal.returns
returns g c =
    let s = state_of c.args.self.now in
    let free = c.in_ok-room.ensures ∙ room_is g.E.Metric.dist s (laid_out g.E.Metric.dist s c.args.self.now.sound) c.capacity.result c.capacity.ensures in
    let r = add_done (meaning_of s) c.args.e free in
    let new = c.insert.ensures in
    record {
      answer = ap gives new.last ∙ r.0;
      leaves = new.means ∙ r.1;
      tree = new.tree ∙ ap (tree_with_at g.E.Metric.dist s c.args.e) free;
      right = files_in g.E.Metric.dist (state_of c.insert.new.self) c.insert.new.self.sound;
      settings = new.settings;
    }
