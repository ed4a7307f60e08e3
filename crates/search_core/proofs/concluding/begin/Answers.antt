use Rattle.search_core.specs.State.{core}
use Rattle.search_core.proofs.CoreSteps.{did-no_work}
use Rattle.search_parts.proofs.Closing.{begin-runs}
use Rattle.search_core.proofs.concluding.begin.Goals as goal

pub returns-in_ok-step-in-Known-clause-begins : goal.returns-in_ok-step-in-Known-clause-begins
returns-in_ok-step-in-Known-clause-begins g c = λ items.
    begin-runs c.args.search.now.site c.args.search.now.arcs c.args.search.now.progress.budget (core items c.args.search.now) (core items c.step.new.self) c.args.start.now c.in-Known.first c.in-Known.is
    (did-no_work _ _ _ _ _ _ _ items (λ lane e. cc) c.in_ok-step-in-Known.ensures.did)
