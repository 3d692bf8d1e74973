use Rattle.gnat_search.proofs.Answering.{within_found, within_written}
use Rattle.gnat.specs.States.{standing_in}
use Rattle.gnat.proofs.Calls.{may_search, ranked}
use Rattle.gnat.specs.Gnats.{state_of}
use Rattle.gnat.proofs.Laid.{laid_out}
use Rattle.gnat.proofs.gnat.GnatIndex.within.Goals as goal

pub search-found-requires : goal.search-found-requires
search-found-requires g c =
    let s = state_of c.args.self.now in
    may_search g.E.Metric.dist s (laid_out g.E.Metric.dist s c.args.self.now.sound)

pub returns : goal.returns
returns g c =
    let s = state_of c.args.self.now in
    let dist = g.E.Metric.dist in
    let o = laid_out g.E.Metric.dist s c.args.self.now.sound in
    let q = c.args.q.now in
    let list = c.args.list.now in
    let done = c.search-found.ensures o.tree o.lies o.shows in
    record {
      answer = within_found _ dist g.E.Metric.laws s.settings.degree s.settings.bucket (standing_in s) o.tree q o.files list c.search-found.new.list c.search-found.result c.args.radius done;
      writes = within_written _ dist g.E.Metric.laws s.settings.degree s.settings.bucket (standing_in s) o.tree q o.files list c.search-found.new.list c.search-found.result c.args.radius done;
      ranked = ranked dist s o q;
    }
