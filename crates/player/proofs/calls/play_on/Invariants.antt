use Rattle.std.proofs.Common.{◌≡◌, map, length, drop}
use Rattle.roadmap.specs.Roadmaps.{road_of}
use Rattle.history_theory.specs.History.{start}
use Rattle.history.specs.Turns.{lent}
use Rattle.play_theory.specs.Answering.{set_call, Answered}
use Rattle.play_theory.proofs.Going.{Going}
use Rattle.player.specs.Calls.{line_call, blank_lists}
use Rattle.player.proofs.calls.play_on.Given as goal

abbrev pub invariant-loop-i : goal.invariant-loop-i
invariant-loop-i g l =
    record {
      places : (length l.hits ≡ 16) × (length l.numbers ≡ 64);
      same_reference : l.output.bytes.ghost_name ≡ l.initial.output.bytes.ghost_name;
      end : l.output.len ≡ l.end;
      going : Going g.I.Element.Metric.dist (λ o end after. Answered g.I.Element.Metric.dist (start l.k 64) (map (λ line. set_call g.C.Checker.passes (line_call line l.checker)) l.lines) blank_lists 0 0 l.fn.out o end after) (map (λ line. set_call g.C.Checker.passes (line_call line l.checker)) (drop l.i l.lines)) (road_of g.I.Index.meaning l.road) (lent l.hits l.numbers) l.end l.i l.output.bytes.now;
    }
