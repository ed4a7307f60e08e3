use Rattle.layout_laws.proofs.Legal.{broken_not_legal}
use Rattle.proof_checker.proofs.claims.has_cost.Goals as goal

pub returns-in-Broken : goal.returns-in-Broken
returns-in-Broken c =
    (λ t. absurd (cc), λ h. absurd (broken_not_legal c.args.site.now c.args.layout.now c.in-Broken.rule c.in-Broken.a c.in-Broken.b c.in-Broken.ensures h.0))
