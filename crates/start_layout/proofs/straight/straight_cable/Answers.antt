use Rattle.std.proofs.Common.{◌≡◌, ℕ, ap, length, arith, subst}
use Rattle.start_layout.specs.Straight.{IsBestWayBelow}
use Rattle.start_layout.proofs.straight.straight_cable.Goals as goal

pub returns : goal.returns
returns c =
    let count = ap length c.points.ensures.value in
    let all : c.loop-to.to ≡ length c.args.site.now.points = omega (arith, count) in
    subst (λ (n : ℕ). IsBestWayBelow c.args.site.now c.args.from n c.loop-to.best) all c.loop-to.invariant
