use Rattle.std.proofs.Common.{List, map}
use Rattle.cable_definitions.specs.Tree.{Item}
use Rattle.cable_definitions.specs.Core.{Take, Runs}
use Rattle.run_definitions.specs.Rounds.{numbers_below}
use Rattle.search_core.specs.State.{IsRunning, KeepsParts, core}
use Rattle.search_core.proofs.rounds.take_all.Given as goal

abbrev pub invariant-loop-lane : goal.invariant-loop-lane
invariant-loop-lane g l = record {
  running : IsRunning g.F.Fn g.G.Fn l.search;
  parts : KeepsParts l.initial.search l.search;
  takes : (items : List Item) → Runs l.initial.search.site l.initial.search.arcs l.initial.search.progress.budget (core items l.initial.search) (map Take (numbers_below l.lane)) (core items l.search);
}
