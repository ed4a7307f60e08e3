use Rattle.std.proofs.Common.{List, Option, ap, ◌∙◌, subst}
use Rattle.cable_definitions.specs.declared.claim.Cause.{Cause}
use Rattle.cable_definitions.specs.Row.{Row}
use Rattle.cable_definitions.specs.Tree.{IsListed}
use Rattle.cable_definitions.specs.Refusal.{IsRowRefused}
use Rattle.cable_definitions.specs.declared.claim.Refusal.{Refusal}
use Rattle.document_laws.proofs.Accepted.{row-stands}
use Rattle.proof_checker.specs.State.{CheckerState, kept_from, Refuses}
use Rattle.proof_checker.proofs.Keeping.{refuses}
use Rattle.proof_checker.proofs.checker.Checker.feed_row.Goals as goal

pub returns-in-Ok-clause-accepted : goal.returns-in-Ok-clause-accepted
returns-in-Ok-clause-accepted c =
    let row : Row = record { kind = c.args.kind; members = c.args.members.now } in
    subst (λ (checker : CheckerState). IsListed checker.site checker.arcs checker.state row (kept_from c.list_row.new.pool c.self.inside.tree)) c.self.view_is
    (c.in-Ok.ensures.listed c.self.inside.tree)

pub returns-in-Ok-clause-no_cause : goal.returns-in-Ok-clause-no_cause
returns-in-Ok-clause-no_cause c =
    let row : Row = record { kind = c.args.kind; members = c.args.members.now } in
    let x = c.self.inside in
    subst (λ (checker : CheckerState). (cause : Cause) → ¬ (IsRowRefused checker.site checker.arcs checker.state row cause)) c.self.view_is
    (λ cause. row-stands x.site.now x.arcs (kept_from x.pool x.tree) row (kept_from c.list_row.new.pool x.tree) cause (c.in-Ok.ensures.listed x.tree))

pub returns-in-Err-clause-refused : goal.returns-in-Err-clause-refused
returns-in-Err-clause-refused c = λ none.
    let row : Row = record { kind = c.args.kind; members = c.args.members.now } in
    let x = c.self.inside in
    let after : List Row → Option Refusal → CheckerState =
    λ rows refused. record { site = x.site.now; arcs = x.arcs; budget = x.budget; state = kept_from rows x.tree; refused = refused }
    in
    let new = after c.list_row.new.pool c.keep.new.refused in
    subst (λ (checker : CheckerState). Refuses checker new c.args.line (IsRowRefused checker.site checker.arcs checker.state row) c.keep.result) c.self.view_is
    (refuses (after x.pool x.refused) new c.args.line c.in-Err.cause (IsRowRefused x.site.now x.arcs (kept_from x.pool x.tree) row) c.keep.result c.keep.ensures.refusal
    (c.in-Err.ensures.refused x.tree) (ap (λ (rows : List Row). after rows c.keep.new.refused) c.in-Err.ensures.same ∙ ap (after x.pool) c.keep.ensures.kept))
