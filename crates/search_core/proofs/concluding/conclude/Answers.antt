use Rattle.std.proofs.Common.{refl}
use Rattle.cable_definitions.specs.Core.{Found}
use Rattle.search_core.specs.State.{core}
use Rattle.search_core.proofs.CoreSteps.{did-no_work}
use Rattle.search_parts.proofs.Outcomes.{concluded-none}
use Rattle.search_parts.proofs.Closing.{start-part, part-fits, concluded-open, concluded-best, steps-at}
use Rattle.search_core.proofs.concluding.conclude.Goals as goal

pub returns-in_default : goal.returns-in_default
returns-in_default g c = λ items ended. (
  core items c.args.search.now,
  concluded-none c.args.site.now c.args.arcs.now c.args.search.now.progress.budget c.args.start (core items c.args.search.now) c.in_ok-new.field-0 _ ended c.in_default.ensures.none c.in_ok-new.ensures refl,
)

pub part_plan-requires-clause-part : goal.part_plan-requires-clause-part
part_plan-requires-clause-part g c =
    let items = c.requires.ended.0 in
    start-part c.args.site.now c.args.start (core items c.args.search.now).known c.requires.ended.1.no_dearer (c.in_default-best.ensures.none items)

pub part_plan-requires-clause-small : goal.part_plan-requires-clause-small
part_plan-requires-clause-small g c =
    part-fits c.args.site.now c.args.arcs.now c.args.search.now.progress.budget c.args.start (core c.requires.ended.0 c.args.search.now) c.in-Some.bound c.requires.ended.1 c.in-Some.ensures.not_negative
    c.in-Some.ensures.some

pub returns-in_default-best : goal.returns-in_default-best
returns-in_default-best g c = λ items ended. (
  core items c.args.search.now,
  concluded-open c.args.site.now c.args.arcs.now c.args.search.now.progress.budget c.args.start (core items c.args.search.now) c.part_plan.result.layout c.in-Some.bound c.part_plan.result.claim ended
      c.in-Some.ensures.not_negative (c.in-Some.ensures.some) (c.in_default-best.ensures.none items) c.requires.begins c.part_plan.ensures,
)

pub returns : goal.returns
returns g c = λ items ended. (
  core items c.step.new.self,
  concluded-best c.args.site.now c.args.arcs.now c.args.search.now.progress.budget c.args.start (core items c.args.search.now) (core items c.step.new.self) c.in-Some-best.known.now c.in_ok-settled.settled.layout
      c.in_ok-settled.settled.cost c.in-Some.bound c.claim_of-claim.result ended c.in-Some.ensures.not_negative (c.in-Some.ensures.some) (c.in-Some-best.ensures.some items) c.in_ok-settled.ensures
      c.claim_of-claim.ensures
      (steps-at c.args.search.now.progress.budget (core items c.args.search.now) (Found c.in_ok-settled.settled.layout) (core items c.step.new.self) c.requires.site c.requires.arcs_of_site
      (did-no_work _ _ _ _ _ _ _ items (λ lane e. cc) c.in_ok-step.ensures.did)),
)
