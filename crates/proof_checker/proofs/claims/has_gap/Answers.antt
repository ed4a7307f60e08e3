use Rattle.proof_checker.proofs.claims.has_gap.Goals as goal

pub returns : goal.returns
returns c = λ rows.
    (λ t. let h = (c.has_worked.ensures rows).0 t in (h.0, c.if-bound-cost.false, h.1), λ h. (c.has_worked.ensures rows).1 (h.0, h.2))
