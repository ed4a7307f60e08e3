use Rattle.std.proofs.Common.{◌≡◌, arith, subst}
use Rattle.cable_definitions.specs.Site.{Site}
use Rattle.cable_definitions.specs.Arcs.{cost_of}
use Rattle.layout_meaning.proofs.Costing.{capacity_small, cost_small_at}
use Rattle.plan_report.proofs.sums.cable_cost.Goals as goal

pub arc_cost-requires-clause-from : goal.arc_cost-requires-clause-from
arc_cost-requires-clause-from c = rw c.site-site.ensures.value c.requires.from

pub arc_cost-requires-clause-to : goal.arc_cost-requires-clause-to
arc_cost-requires-clause-to c = rw c.site-site.ensures.value c.requires.to

pub arc_cost-requires-clause-grade : goal.arc_cost-requires-clause-grade
arc_cost-requires-clause-grade c = rw c.site-site.ensures.value c.requires.grade

pub returns-clause-small : goal.returns-clause-small
returns-clause-small c =
    let s = c.args.flows.now.site in
    let cable = c.args.cable in
    let b = capacity_small s cable.grade c.site-site.ensures.valid in
    let cost = subst (λ (t : Site). c.arc_cost.result ≡ cost_of t cable.from cable.to cable.grade c.load-carried.result) c.site-site.ensures.value c.arc_cost.ensures in
    cost_small_at s cable.from cable.to cable.grade c.load-carried.result c.arc_cost.result c.site-site.ensures.valid (omega (arith, b, c.requires.borne, c.load-carried.ensures.value)) cost
