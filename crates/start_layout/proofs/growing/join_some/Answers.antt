use Rattle.std.proofs.Common.{ℕ, ◌<◌, ◌+◌, arith, sym, ◌∙◌, subst, below_more}
use Rattle.cable_definitions.specs.Part.{IsBlocked}
use Rattle.layout_meaning.specs.Joining.{IsUnjoined}
use Rattle.layout_meaning.specs.Partial.{SitePart}
use Rattle.start_layout.proofs.Straightening.{turbine_within}
use Rattle.start_layout.proofs.growing.join_some.Goals as goal

pub loop-turbine-preserved : goal.loop-turbine-preserved
loop-turbine-preserved c =
    let part = c.loop-turbine.part in
    let turbine = c.loop-turbine.turbine in
    let found = c.if-join_turbine.ensures in
    let kept = found.unchanged (λ t. absurd (cc)) in
    let more : (p : ℕ) → p < turbine + 1 → IsUnjoined part.site part.cables p → IsBlocked part.site part.cables p =
    below_more _ _ c.loop-turbine.invariant.blocked (found.blocked (λ t. absurd (cc))) in
    record {
      same = kept ∙ c.loop-turbine.invariant.same;
      blocked = subst (λ (x : SitePart). (p : ℕ) → p < turbine + 1 → IsUnjoined x.site x.cables p → IsBlocked x.site x.cables p) (sym kept) more;
    }

pub returns-clause-blocked : goal.returns-clause-blocked
returns-clause-blocked c =
    let part = c.args.part.now in
    let turbine = c.loop-turbine.turbine in
    let below = subst (λ (x : SitePart). (p : ℕ) → p < turbine → IsUnjoined x.site x.cables p → IsBlocked x.site x.cables p) c.loop-turbine.invariant.same c.loop-turbine.invariant.blocked in
    λ none p u. below p (let within = turbine_within part.site p u.turbine in omega (arith, within, c.requires)) u
