use Rattle.std.proofs.Common.{◌<◌, ◌≤◌, ⊎_elim, sym, ◌∙◌, subst, refl, arith}
use Rattle.std.proofs.lemmas.Bool.{false≢true, cases_lt}
use Rattle.cable_definitions.specs.declared.site.Point.{Point}
use Rattle.cable_definitions.specs.Plane.{IsOutside}
use Rattle.site_model.proofs.Corners.{IsOutside-at}
use Rattle.site_model.proofs.builder.has_inside.Goals as goal

pub returns-then-not-outside : goal.returns-then-not-outside
returns-then-not-outside c =
    (λ t. (c.loop-point.point-index, c.point-item.result, omega arith, sym c.point-item.is, λ out. false≢true (sym c.if-not-outside.true ∙ c.outside.ensures.1 out)), λ w. refl)

pub loop-point-preserved : goal.loop-point-preserved
loop-point-preserved c = λ k d l.
    let i = c.loop-point.point-index in
    let here = c.outside.ensures.0 c.if-not-outside.false in
    ⊎_elim (λ (lower : k < i). c.loop-point.invariant k d lower)
    (λ (not_lower : i ≤ k). IsOutside-at c.args.points.now c.args.corners.now i k c.point-item.result d (omega arith) (omega arith) c.point-item.is here)
    (cases_lt k i)

pub returns : goal.returns
returns c = (
  λ e. absurd (false≢true e),
  λ (k, x, l, at, inside). absurd (inside (subst (λ (p : Point). IsOutside p.at c.args.corners.now) at (c.loop-point.invariant k x (omega arith)))),
)
