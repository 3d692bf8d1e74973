use Rattle.std.proofs.Common.{◌≡◌, length, refl, arith, rules}
use Rattle.gnat.proofs.Adding.{free_within}
use Rattle.gnat.proofs.Filing.{may_file_new, new_means, new_tree, new_sound}
use Rattle.gnat.specs.Gnats.{state_of}
use Rattle.gnat.proofs.Laid.{laid_out, sound_of}
use Rattle.gnat.proofs.gnat.Gnat.file_new.Goals as goal

pub enlist-at-requires : goal.enlist-at-requires
enlist-at-requires g c =
    let s = state_of c.args.self.now in
    record { order = omega arith; fits = omega (arith, c.requires.room); within = free_within g.E.Metric.dist s (laid_out g.E.Metric.dist s c.args.self.now.sound) c.requires.room }

pub file-self-requires : goal.file-self-requires
file-self-requires g c =
    let s = state_of c.args.self.now in
    let o = laid_out g.E.Metric.dist s c.args.self.now.sound in
    (_, _, may_file_new g.E.Metric.dist s o c.requires.room c.args.e c.enlist-at.new.rows c.enlist-at.result c.enlist-at.ensures.leaves c.enlist-at.ensures.row)

pub returns : goal.returns
returns g c =
    let s = state_of c.args.self.now in
    let dist = g.E.Metric.dist in
    let o = laid_out g.E.Metric.dist s c.args.self.now.sound in
    let e = c.args.e in
    let new = c.enlist-at.new.rows in
    let at = c.enlist-at.result in
    let later = c.file-self.new.rows in
    let root = c.file-self.result in
    let long : length later ≡ length new = search (rules, c.file-self.auto) in
    record {
      means = new_means dist s o c.requires.room e new at c.enlist-at.ensures.leaves c.enlist-at.ensures.row later root c.file-self.ensures long;
      tree = new_tree dist s o c.requires.room e new at c.enlist-at.ensures.leaves c.enlist-at.ensures.row later root c.file-self.ensures long;
      settings = refl;
      last = refl;
    }

pub invariant_of-self : goal.invariant_of-self
invariant_of-self g c =
    let s = state_of c.args.self.now in
    let dist = g.E.Metric.dist in
    let o = laid_out g.E.Metric.dist s c.args.self.now.sound in
    let e = c.args.e in
    let new = c.enlist-at.new.rows in
    let at = c.enlist-at.result in
    let later = c.file-self.new.rows in
    let root = c.file-self.result in
    let long : length later ≡ length new = search (rules, c.file-self.auto) in
    record { sound = sound_of dist _ (new_sound dist s o c.requires.room e new at c.enlist-at.ensures.leaves c.enlist-at.ensures.row later root c.file-self.ensures long c.requires.numbers _ refl refl refl refl refl refl) }
