use Rattle.std.proofs.Common.{List, ◌↔◌, IsTrue, sym, subst}
use Rattle.cable_definitions.specs.declared.claim.Claim.{Claim}
use Rattle.cable_definitions.specs.Row.{Row}
use Rattle.cable_definitions.specs.Tree.{BoundAgrees}
use Rattle.proof_checker.specs.State.{kept_from}
use Rattle.proof_checker.proofs.claims.bound_agrees.Goals as goal

pub returns-in-Optimal : goal.returns-in-Optimal
returns-in-Optimal c =
    subst (λ (claim : Claim). (rows : List Row) → IsTrue c.has_least.result ↔ BoundAgrees c.args.budget (kept_from rows c.args.tree.now) claim) (sym c.in-Optimal.is) c.has_least.ensures

pub returns-in-Gap : goal.returns-in-Gap
returns-in-Gap c =
    subst (λ (claim : Claim). (rows : List Row) → IsTrue c.has_gap.result ↔ BoundAgrees c.args.budget (kept_from rows c.args.tree.now) claim) (sym c.in-Gap.is) c.has_gap.ensures

pub returns-in-Infeasible : goal.returns-in-Infeasible
returns-in-Infeasible c =
    subst (λ (claim : Claim). (rows : List Row) → IsTrue c.all_dead.result ↔ BoundAgrees c.args.budget (kept_from rows c.args.tree.now) claim) (sym c.in-Infeasible.is) c.all_dead.ensures

pub returns-in-Partial : goal.returns-in-Partial
returns-in-Partial c =
    subst (λ (claim : Claim). (rows : List Row) → IsTrue c.has_worked.result ↔ BoundAgrees c.args.budget (kept_from rows c.args.tree.now) claim) (sym c.in-Partial.is) c.has_worked.ensures
