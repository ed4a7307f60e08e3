use Rattle.std.proofs.Common.{ap, ◌∙◌}
use Rattle.cable_definitions.specs.Report.{cable_length}
use Rattle.cable_definitions.specs.Site.{Site}
use Rattle.cable_definitions.specs.Text.{name_of}
use Rattle.cable_text.proofs.Writers.{written_as}
use Rattle.plan_report.proofs.Lines.{cable_columns}
use Rattle.plan_report.proofs.write.push_cable.Goals as goal

pub cable_length-metres-requires-clause-from : goal.cable_length-metres-requires-clause-from
cable_length-metres-requires-clause-from g c = rw c.site-site.ensures.value c.requires.cable.from

pub cable_length-metres-requires-clause-to : goal.cable_length-metres-requires-clause-to
cable_length-metres-requires-clause-to g c = rw c.site-site.ensures.value c.requires.cable.to

pub returns : goal.returns
returns g c =
    let s = c.args.flows.now.site in
    let from = c.name-from.ensures ∙ ap (λ (t : Site). name_of t c.args.cable.from) c.site-site.ensures.value in
    let to = c.name-to.ensures ∙ ap (λ (t : Site). name_of t c.args.cable.to) c.site-site.ensures.value in
    let metres = c.from-2.ensures ∙ c.cable_length-metres.ensures.metres ∙ ap (λ (t : Site). cable_length t c.args.cable) c.site-site.ensures.value in
    written_as c.push_line.ensures
    (cable_columns s c.args.flows.now.cables c.args.cable _ _ _ _ _ _ from to c.from.ensures
    metres (c.from-3.ensures ∙ c.load-carried.ensures.value) c.cable_cost-cost.ensures.cost)
