use Rattle.std.proofs.Common.{refl}
use Rattle.gnat.proofs.Rebuilding.{may_refile, rebuild_means, rebuild_tree, rebuild_sound}
use Rattle.gnat.specs.Gnats.{state_of}
use Rattle.gnat.proofs.Laid.{laid_out, sound_of}
use Rattle.gnat.proofs.gnat.Gnat.rebuild.Goals as goal

pub refile-self-requires : goal.refile-self-requires
refile-self-requires g c =
    let s = state_of c.args.self.now in
    let r = may_refile g.E.Metric.dist s (laid_out g.E.Metric.dist s c.args.self.now.sound) in
    record { fits = r.fits; within = r.within; apart = r.apart }

pub returns : goal.returns
returns g c =
    let s = state_of c.args.self.now in
    let dist = g.E.Metric.dist in
    let o = laid_out g.E.Metric.dist s c.args.self.now.sound in
    record {
      means = rebuild_means dist s o c.refile-self.new.rows c.refile-self.result c.refile-self.ensures;
      tree = rebuild_tree dist s o c.refile-self.new.rows c.refile-self.result c.refile-self.ensures;
      settings = refl;
      standing = refl;
      marked = refl;
      last = refl;
    }

pub invariant_of-self : goal.invariant_of-self
invariant_of-self g c =
    let s = state_of c.args.self.now in
    let dist = g.E.Metric.dist in
    let o = laid_out g.E.Metric.dist s c.args.self.now.sound in
    record { sound = sound_of dist _ (rebuild_sound dist s o c.refile-self.new.rows c.refile-self.result c.refile-self.ensures _ refl refl refl refl refl refl) }
