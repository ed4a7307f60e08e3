use Rattle.std.proofs.Common.{◌≡◌, ℕ, ◌<◌, ◌+◌, arith, length, sym, ◌∙◌, subst, below_more}
use Rattle.layout_meaning.specs.Joining.{IsFreeArc, NeverGrown}
use Rattle.layout_meaning.specs.Partial.{SitePart}
use Rattle.start_layout.proofs.Refusing.{refused, blocked_where_refused}
use Rattle.start_layout.proofs.growing.join_turbine.Goals as goal

pub loop-to-preserved : goal.loop-to-preserved
loop-to-preserved c =
    let part = c.loop-to.part in
    let turbine = c.args.turbine in
    let to = c.loop-to.to in
    let kept = c.in-Err.ensures.unchanged in
    let found = c.try_join.ensures in
    let more : (q : ℕ) → q < to + 1 → IsFreeArc part.site part.cables turbine q → NeverGrown part.site part.cables turbine q =
    below_more _ _ c.loop-to.invariant.refused
    (refused part.site part.cables turbine to c.try_join.result c.in-Err.fault c.in-Err.is found.joined.0 found.target.0 found.candidate.0 found.breaks.0) in
    record {
      same = kept ∙ c.loop-to.invariant.same;
      refused = subst (λ (x : SitePart). (q : ℕ) → q < to + 1 → IsFreeArc x.site x.cables turbine q → NeverGrown x.site x.cables turbine q) (sym kept) more;
    }

pub returns-clause-blocked : goal.returns-clause-blocked
returns-clause-blocked c =
    let part = c.args.part.now in
    let turbine = c.args.turbine in
    let to = c.loop-to.to in
    let none = subst (λ (x : SitePart). (q : ℕ) → q < to → IsFreeArc x.site x.cables turbine q → NeverGrown x.site x.cables turbine q) c.loop-to.invariant.same c.loop-to.invariant.refused in
    let all : to ≡ length part.site.points = omega (arith, c.requires) in
    λ unjoined u. blocked_where_refused part.site part.cables turbine to c.layout.ensures.grown all none u
