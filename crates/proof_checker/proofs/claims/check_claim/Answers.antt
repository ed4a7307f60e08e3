use Rattle.cable_definitions.specs.Tree.{LayoutAgrees}
use Rattle.proof_checker.specs.State.{kept_from}
use Rattle.proof_checker.proofs.Agreeing.{least_verdict}
use Rattle.proof_checker.proofs.claims.check_claim.Goals as goal

pub returns-then-not-bound_agrees-clause-refused : goal.returns-then-not-bound_agrees-clause-refused
returns-then-not-bound_agrees-clause-refused c = λ rows.
    let layout : LayoutAgrees c.args.site.now c.args.layout.now c.args.claim = c.layout_agrees.ensures.0 c.if-not-layout_agrees.false in
    least_verdict c.args.site.now c.args.budget (kept_from rows c.args.tree.now) c.args.layout.now c.args.claim layout
    (λ b. let t = (c.bound_agrees.ensures rows).1 b in let f = c.if-not-bound_agrees.true in cc)

pub returns-clause-agrees : goal.returns-clause-agrees
returns-clause-agrees c = λ rows. (c.layout_agrees.ensures.0 c.if-not-layout_agrees.false, (c.bound_agrees.ensures rows).0 c.if-not-bound_agrees.false)

pub returns-clause-bound : goal.returns-clause-bound
returns-clause-bound c = λ rows.
    c.bound_of.ensures c.args.budget (kept_from rows c.args.tree.now) ((c.bound_agrees.ensures rows).0 c.if-not-bound_agrees.false)
