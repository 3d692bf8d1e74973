use Rattle.std.proofs.Common.{sym, refl, ap, ◌∙◌}
use Rattle.std.proofs.lemmas.Result.{err_from_is_err_and}
use Rattle.index.proofs.Outcomes.{call_absent, call_standing, drop_absent, drop_done}
use Rattle.gnat.specs.States.{meaning_of}
use Rattle.gnat.specs.Leaving.{tree_without_at}
use Rattle.gnat.proofs.Calls.{found_element}
use Rattle.gnat.specs.Gnats.{state_of}
use Rattle.gnat.proofs.Laid.{laid_out, files_in}
use Rattle.gnat.proofs.gnat.GnatIndex.drop.Goals as goal

pub returns : goal.returns
returns g c =
    let s = state_of c.args.self.now in
    let n = c.args.number in
    let here = c.in_ok-at.ensures.ok in
    let r = here.1 in
    let e = found_element g.E.Metric.dist s (laid_out g.E.Metric.dist s c.args.self.now.sound) n c.in_ok-at.at here.0 r.0 r.1 r.2 in
    let out = c.take_away.ensures n here in
    record {
      answer = call_standing (meaning_of s) n (λ _. tt) r.0.element e;
      leaves = out.means ∙ drop_done (meaning_of s) n r.0.element e;
      tree = out.tree ∙ ap (tree_without_at s n) (sym e);
      right = files_in g.E.Metric.dist (state_of c.take_away.new.self) c.take_away.new.self.sound;
      settings = out.settings;
    }

pub returns-in_err-at : goal.returns-in_err-at
returns-in_err-at g c =
    let s = state_of c.args.self.now in
    let n = c.args.number in
    let p = err_from_is_err_and c.from_residual.result c.from_residual.ensures.1 in
    let said = c.in_err-at.ensures.err in
    rw (p.1, p.2, said.0) (record {
      answer = call_absent (meaning_of s) n (λ _. tt) said.1;
      leaves = drop_absent (meaning_of s) n said.1;
      tree = ap (tree_without_at s n) (sym said.1);
      right = files_in g.E.Metric.dist s c.args.self.now.sound;
      settings = refl;
    })
