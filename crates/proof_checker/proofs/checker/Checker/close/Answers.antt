use Rattle.std.proofs.Common.{List, Option, ap, subst}
use Rattle.cable_definitions.specs.declared.claim.Cause.{Cause}
use Rattle.cable_definitions.specs.Tree.{Item, IsAccepted, Agrees, Says}
use Rattle.cable_definitions.specs.Refusal.{IsClaimRefused}
use Rattle.cable_definitions.specs.declared.claim.Refusal.{Refusal}
use Rattle.proof_laws.proofs.Sound.{sound-accepted, says-sound}
use Rattle.document_laws.proofs.Accepted.{claim-stands}
use Rattle.proof_checker.specs.State.{CheckerState, kept_from, Refuses}
use Rattle.proof_checker.specs.Answers.{IsClosingBound}
use Rattle.proof_checker.proofs.Keeping.{refuses}
use Rattle.proof_checker.proofs.checker.Checker.close.Goals as goal

pub returns-in-Ok-clause-agrees : goal.returns-in-Ok-clause-agrees
returns-in-Ok-clause-agrees c =
    subst (λ (checker : CheckerState). Agrees checker.site checker.budget checker.state c.args.layout.now c.args.claim) c.self.view_is (c.in-Ok.ensures.agrees c.self.inside.pool)

pub returns-in-Ok-clause-bound : goal.returns-in-Ok-clause-bound
returns-in-Ok-clause-bound c = subst (λ (checker : CheckerState). IsClosingBound checker.state c.in-Ok.bound) c.self.view_is (c.in-Ok.ensures.bound c.self.inside.pool)

pub returns-in-Ok-clause-says : goal.returns-in-Ok-clause-says
returns-in-Ok-clause-says c =
    let x = c.self.inside in
    let kept = kept_from x.pool x.tree in
    subst (λ (checker : CheckerState). (items : List Item) → IsAccepted checker.site checker.arcs checker.budget items checker.state → Says checker.site c.args.claim) c.self.view_is
    (λ items accepted. says-sound x.site.now x.arcs x.budget kept c.args.layout.now c.args.claim
    (sound-accepted x.site.now x.arcs x.budget items kept c.points-valid.ensures.valid c.self.invariant.are_arcs accepted) (c.in-Ok.ensures.agrees x.pool))

pub returns-in-Ok-clause-no_cause : goal.returns-in-Ok-clause-no_cause
returns-in-Ok-clause-no_cause c =
    let x = c.self.inside in
    subst (λ (checker : CheckerState). (cause : Cause) → ¬ (IsClaimRefused checker.site checker.budget checker.state c.args.layout.now c.args.claim cause)) c.self.view_is
    (λ cause. claim-stands x.site.now x.budget (kept_from x.pool x.tree) c.args.layout.now c.args.claim cause (c.in-Ok.ensures.agrees x.pool))

pub returns-in-Err-clause-refused : goal.returns-in-Err-clause-refused
returns-in-Err-clause-refused c = λ none.
    let x = c.self.inside in
    let after : Option Refusal → CheckerState =
    λ refused. record { site = x.site.now; arcs = x.arcs; budget = x.budget; state = kept_from x.pool x.tree; refused = refused }
    in
    subst (λ (checker : CheckerState). Refuses checker (after c.keep.new.refused) c.args.line (IsClaimRefused checker.site checker.budget checker.state c.args.layout.now c.args.claim) c.keep.result)
    c.self.view_is
    (refuses (after x.refused) (after c.keep.new.refused) c.args.line c.in-Err.cause (IsClaimRefused x.site.now x.budget (kept_from x.pool x.tree) c.args.layout.now c.args.claim)
    c.keep.result c.keep.ensures.refusal (c.in-Err.ensures.refused x.pool) (ap after c.keep.ensures.kept))
