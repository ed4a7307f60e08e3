use Rattle.std.proofs.Common.{ℕ, ◌+◌, set, true, false, get_or, sym, subst, ap, ◌∙◌}
use Rattle.turbine_weights.specs.Weighing.{AreWeighed}
use Rattle.turbine_weights.proofs.Weighing.{weight-kept, weighed_same, weighed_nothing, weighed_more, same_turbine}
use Rattle.turbine_weights.proofs.turbines.weigh_row.Goals as goal

pub returns-in_default : goal.returns-in_default
returns-in_default c =
    weighed_same c.args.site.now c.args.arcs.now c.args.pool.now c.args.decisions.now c.args.row c.args.weighed.now c.args.weights.now (λ p e. absurd (c.in_default.ensures.none p e)) c.requires.before

pub returns-then-weighed-turbine : goal.returns-then-weighed-turbine
returns-then-weighed-turbine c =
    weighed_same c.args.site.now c.args.arcs.now c.args.pool.now c.args.decisions.now c.args.row c.args.weighed.now c.args.weights.now
    (λ p e. ap (λ (q : ℕ). get_or c.args.weighed.now q false) (same_turbine c.args.pool.now c.args.row p c.in-Some.turbine e c.in-Some.ensures.turbine) ∙ c.if-weighed-turbine.true) c.requires.before

pub returns-in_default-least_due : goal.returns-in_default-least_due
returns-in_default-least_due c =
    weighed_nothing c.args.site.now c.args.arcs.now c.args.pool.now c.args.decisions.now c.args.row c.in-Some.turbine c.args.weighed.now c.args.weights.now c.requires.before
    c.in-Some.ensures.within c.in-Some.ensures.turbine c.if-weighed-turbine.false c.in_default-least_due.ensures.none

pub returns-in-Ok : goal.returns-in-Ok
returns-in-Ok c =
    subst (AreWeighed c.args.site.now c.args.arcs.now c.args.pool.now c.args.decisions.now (c.args.row + 1) (set c.args.weighed.now c.in-Some.turbine true)) (sym c.in-Ok.ensures.ok)
    (weighed_more c.args.site.now c.args.arcs.now c.args.pool.now c.args.decisions.now c.args.row c.in-Some.turbine c.in-Some-least_due.cost c.args.weighed.now c.args.weights.now _ c.requires.before
    c.in-Some.ensures.within c.in-Some.ensures.turbine c.if-weighed-turbine.false c.in-Some-least_due.ensures.least c.in-Some-least_due.ensures.some (weight-kept c.in-Some-least_due.cost c.weight_of.result c.in-Some-least_due.ensures.small c.weight_of.ensures))
