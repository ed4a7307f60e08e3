use Rattle.std.proofs.Common.{subst}
use Rattle.cable_definitions.specs.declared.claim.Cause.{Cause}
use Rattle.cable_definitions.specs.Refusal.{IsWorkRefused}
use Rattle.document_laws.proofs.Accepted.{work-stands}
use Rattle.proof_checker.specs.State.{CheckerState, kept_from}
use Rattle.proof_checker.proofs.checker.Checker.feed_work.Goals as goal

pub returns-in-Ok-clause-no_cause : goal.returns-in-Ok-clause-no_cause
returns-in-Ok-clause-no_cause c =
    let x = c.self.inside in
    let work = c.args.work.now in
    subst (λ (checker : CheckerState). (cause : Cause) → ¬ (IsWorkRefused checker.site checker.arcs checker.budget checker.state work.node work.weights work.act cause)) c.self.view_is
    (λ cause. work-stands x.site.now x.arcs x.budget (kept_from x.pool x.tree) work.node work.weights work.act (kept_from x.pool c.do_work.new.tree) cause c.in-Ok.ensures.worked)
