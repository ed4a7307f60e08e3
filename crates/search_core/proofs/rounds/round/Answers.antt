use Rattle.std.proofs.Common.{refl, ℕ, [], ◌∷◌, ◌≡◌, ◌++◌, map, subst, arith}
use Rattle.cable_definitions.specs.Core.{Core, Take, Work, Runs}
use Rattle.run_definitions.specs.Rounds.{numbers_below}
use Rattle.search_core.specs.State.{core}
use Rattle.search_core.proofs.Advancing.{advances-then, advances-failed, advances-memory, advances-silent, advances-reached}
use Rattle.search_core.proofs.Flooring.{floored-same, floored-at, takes-nodes}
use Rattle.search_core.proofs.CoreSteps.{keeps-then, advances-moved, takes-first, works-more}
use Rattle.search_core.proofs.rounds.round.Goals as goal

pub returns-in_err-take_all-clause-advances : goal.returns-in_err-take_all-clause-advances
returns-in_err-take_all-clause-advances g c = λ items. advances-memory c.from_residual.result _ _ _ _ _ _ _ c.from_residual.ensures.0 c.from_residual.ensures.1

pub loop-lane-init : goal.loop-lane-init
loop-lane-init g c = record {
  running = c.take_all.ensures.running;
  parts = c.take_all.ensures.parts;
  floored = λ h.
      let old = c.args.search.now in
      floored-same old.site old.progress.tree.nodes c.take_all.new.search.progress.tree.nodes
      (takes-nodes old.site old.arcs old.progress.budget (numbers_below c.args.lanes) (core [] old) (core [] c.take_all.new.search) (c.in_ok-take_all.ensures.takes [])) h;
  advances = λ items.
      let old = c.args.search.now in
      let now : Core = core items c.take_all.new.search in
      advances-silent tt old.site old.arcs old.progress.budget (core items old) _ (λ more. core more c.take_all.new.search) _ (map Take (numbers_below c.args.lanes)) now
      (c.in_ok-take_all.ensures.takes items) refl (takes-first old.site old.arcs old.progress.budget c.args.lanes (core items old) now (c.in_ok-take_all.ensures.takes items)) refl;
}

pub returns-in_err-work_and_write-clause-advances : goal.returns-in_err-work_and_write-clause-advances
returns-in_err-work_and_write-clause-advances g c = λ items.
    advances-failed c.from_residual-in_err-work_and_write.ensures.0 c.from_residual-in_err-work_and_write.ensures.1
    (advances-then {Second = λ more new. Runs c.args.search.now.site c.args.search.now.arcs c.args.search.now.progress.budget (core more c.loop-lane.search) (Work c.loop-lane.lane ∷ []) new} {Both = λ new. Unit {0}}
    {mid = λ more. core more c.loop-lane.search} (λ more. refl) (c.loop-lane.invariant.advances items)
    (λ more. advances-moved (Work c.loop-lane.lane ∷ []) c.loop-lane.invariant.parts (c.in_err-work_and_write.ensures.advances more)) (λ more new before step. tt))

pub loop-lane-preserved : goal.loop-lane-preserved
loop-lane-preserved g c = record {
  running = c.work_and_write.ensures.running;
  parts = keeps-then c.loop-lane.invariant.parts c.work_and_write.ensures.parts;
  floored = λ h. floored-at c.loop-lane.search.progress.tree.nodes c.work_and_write.new.search.progress.tree.nodes c.loop-lane.invariant.parts.site c.in_ok-work_and_write.ensures.floored (c.loop-lane.invariant.floored h);
  advances = λ items.
      let old = c.args.search.now in
      advances-then {mid = λ more. core more c.loop-lane.search} (λ more. refl) (c.loop-lane.invariant.advances items)
      (λ more. advances-moved (Work c.loop-lane.lane ∷ []) c.loop-lane.invariant.parts (c.in_ok-work_and_write.ensures.advances more))
      (λ more new before step. works-more old.site old.arcs old.progress.budget c.args.lanes c.loop-lane.lane (core items old) (core more c.loop-lane.search) new before step);
}

pub returns-clause-advances : goal.returns-clause-advances
returns-clause-advances g c = λ items.
    let old = c.args.search.now in
    let all : c.loop-lane.lane ≡ c.args.lanes = (let end = c.loop-lane.auto.lane-end in let test = c.loop-lane-test.false in omega (arith, end, test)) in
    advances-reached
    (λ new runs. subst (λ (k : ℕ). Runs old.site old.arcs old.progress.budget (core items old) (map Take (numbers_below c.args.lanes) ++ map Work (numbers_below k)) new) all runs)
    (c.loop-lane.invariant.advances items)
