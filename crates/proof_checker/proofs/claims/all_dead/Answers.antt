use Rattle.std.proofs.Common.{refl}
use Rattle.proof_checker.specs.State.{kept_from}
use Rattle.proof_checker.proofs.Bounds.{not_all_dead}
use Rattle.proof_checker.proofs.claims.all_dead.Goals as goal

pub returns-in-None : goal.returns-in-None
returns-in-None c = λ rows. (λ t. c.in-None.ensures.none (kept_from rows c.args.tree.now) refl, λ h. refl)

pub returns-in-Some : goal.returns-in-Some
returns-in-Some c = λ rows.
    let kept = kept_from rows c.args.tree.now in
    (λ t. absurd (cc), λ h. absurd (not_all_dead kept _ (c.in-Some.ensures.some kept refl) h))
