use Rattle.std.proofs.Common.{ℕ, ◌-◌, List, Ok}
use Rattle.cable_definitions.specs.Tree.{Item}
use Rattle.search_core.specs.State.{IsRunning, KeepsParts, core}
use Rattle.search_parts.specs.Ended.{IsRootFloored}
use Rattle.search_parts.specs.Rounds.{IsIdle}
use Rattle.search_core.specs.Advances.{Advances}
use Rattle.search_parts.proofs.Rounding.{AreRounds}
use Rattle.search_core.proofs.rounds.work_all.Given as goal

abbrev pub invariant-loop-alloc : goal.invariant-loop-alloc
invariant-loop-alloc g l = record {
  running : IsRunning g.F.Fn g.G.Fn l.search;
  parts : KeepsParts l.initial.search l.search;
  idle : (items : List Item) × IsIdle l.initial.search.site l.initial.search.arcs l.initial.search.progress.budget l.lanes (core items l.search);
  floored : IsRootFloored l.initial.search.site l.initial.search.progress.tree.nodes → IsRootFloored l.initial.search.site l.search.progress.tree.nodes;
  advances : (items : List Item) → Advances {A = Unit {0}} (Ok tt) l.initial.search.site l.initial.search.arcs l.initial.search.progress.budget (core items l.initial.search)
      (λ after. (rounds : ℕ) × AreRounds l.initial.search.site l.initial.search.arcs l.initial.search.progress.budget l.lanes rounds (core items l.initial.search) after) (λ more. core more l.search)
      (g.O.Sink.state l.initial.out) (g.O.Sink.state l.out);
}

abbrev pub decreases-loop-alloc : goal.decreases-loop-alloc
decreases-loop-alloc g l = l.search.progress.budget - l.search.progress.tree.works
