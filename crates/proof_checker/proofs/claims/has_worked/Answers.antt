use Rattle.std.proofs.Common.{sym, ◌∙◌}
use Rattle.proof_checker.proofs.claims.has_worked.Goals as goal

pub returns : goal.returns
returns c = λ rows. (λ t. ((c.has_least.ensures rows).0 t, sym c.works.ensures.works ∙ c.if-works-budget.false), λ h. (c.has_least.ensures rows).1 h.0)
