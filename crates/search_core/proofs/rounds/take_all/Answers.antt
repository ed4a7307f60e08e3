use Rattle.std.proofs.Common.{List, ℕ}
use Rattle.cable_definitions.specs.declared.cable.Arc.{Arc}
use Rattle.cable_definitions.specs.Site.{Site}
use Rattle.cable_definitions.specs.Core.{Take, Steps}
use Rattle.search_core.specs.State.{core}
use Rattle.search_core.proofs.CoreSteps.{keeps-then, kept-parts, did-no_work, runs-more}
use Rattle.search_core.proofs.rounds.take_all.Goals as goal

pub loop-lane-preserved : goal.loop-lane-preserved
loop-lane-preserved g c = record {
  running = c.step.ensures.running;
  parts = keeps-then c.loop-lane.invariant.parts c.step.ensures.parts;
  takes = λ items.
      let old = c.args.search.now in
      runs-more old.site old.arcs old.progress.budget (core items old) (core items c.loop-lane.search) (core items c.step.new.self) Take c.loop-lane.lane (c.loop-lane.invariant.takes items)
      (kept-parts (λ (s : Site) (arcs : List Arc) (n : ℕ). Steps s arcs n (core items c.loop-lane.search) (Take c.loop-lane.lane) (core items c.step.new.self)) c.loop-lane.invariant.parts
      (did-no_work _ _ _ _ _ _ _ items (λ lane e. cc) c.in_ok-step.ensures.did));
}
