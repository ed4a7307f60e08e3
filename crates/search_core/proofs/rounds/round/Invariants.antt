use Rattle.std.proofs.Common.{List, Ok, map, ◌++◌}
use Rattle.cable_definitions.specs.Tree.{Item}
use Rattle.cable_definitions.specs.Core.{Take, Work, Runs}
use Rattle.run_definitions.specs.Rounds.{numbers_below}
use Rattle.search_core.specs.State.{IsRunning, KeepsParts, core}
use Rattle.search_parts.specs.Ended.{IsRootFloored}
use Rattle.search_core.specs.Advances.{Advances}
use Rattle.search_core.proofs.rounds.round.Given as goal

abbrev pub invariant-loop-lane : goal.invariant-loop-lane
invariant-loop-lane g l = record {
  running : IsRunning g.F.Fn g.G.Fn l.search;
  parts : KeepsParts l.fn.search l.search;
  floored : IsRootFloored l.fn.search.site l.fn.search.progress.tree.nodes → IsRootFloored l.fn.search.site l.search.progress.tree.nodes;
  advances : (items : List Item) → Advances {A = Unit {0}} (Ok tt) l.fn.search.site l.fn.search.arcs l.fn.search.progress.budget (core items l.fn.search)
      (Runs l.fn.search.site l.fn.search.arcs l.fn.search.progress.budget (core items l.fn.search) (map Take (numbers_below l.lanes) ++ map Work (numbers_below l.lane))) (λ more. core more l.search)
      (g.O.Sink.state l.fn.out) (g.O.Sink.state l.out);
}
