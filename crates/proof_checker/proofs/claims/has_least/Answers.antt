use Rattle.std.proofs.Common.{refl, subst}
use Rattle.cable_definitions.specs.Tree.{IsLeastBound}
use Rattle.proof_checker.specs.State.{kept_from}
use Rattle.proof_checker.proofs.Bounds.{not_all_dead, least_one, same_tells, told_same}
use Rattle.proof_checker.proofs.claims.has_least.Goals as goal

pub returns-in-None : goal.returns-in-None
returns-in-None c = λ rows.
    let kept = kept_from rows c.args.tree.now in
    (λ t. absurd (cc), λ h. absurd (not_all_dead kept c.args.bound h (c.in-None.ensures.none kept refl)))

pub returns-in-Some : goal.returns-in-Some
returns-in-Some c = λ rows.
    let kept = kept_from rows c.args.tree.now in
    let least = c.in-Some.ensures.some kept refl in (
      λ t. subst (IsLeastBound kept) (told_same c.in-Some.least c.from.result c.args.bound c.in-Some.ensures.not_negative c.from.ensures t) least,
      λ h. same_tells c.in-Some.least c.from.result c.args.bound c.in-Some.ensures.not_negative c.from.ensures (least_one kept _ c.args.bound least h),
    )
