use Rattle.std.proofs.Common.{List, length, sym, ◌∙◌, ap, All}
use Rattle.std.specs.Fmt.{decimal}
use Rattle.std.specs.Prelude.{sum_by}
use Rattle.cable_definitions.specs.declared.cable.Cable.{Cable}
use Rattle.cable_definitions.specs.Site.{Site}
use Rattle.cable_definitions.specs.Report.{cable_length, of_type}
use Rattle.cable_text.proofs.Writers.{written_as}
use Rattle.layout_meaning.proofs.Flowing.{read_as}
use Rattle.plan_report.specs.Reported.{IsReported}
use Rattle.plan_report.proofs.Lines.{type_words}
use Rattle.plan_report.proofs.write.push_type.Goals as goal

pub length_of_type-requires-clause-cables : goal.length_of_type-requires-clause-cables
length_of_type-requires-clause-cables g c =
    read_as (λ (t : Site) (xs : List Cable). All (IsReported t xs) xs) (sym c.site-site.ensures.value) (sym c.cables-cables.ensures) c.requires.cables

pub returns : goal.returns
returns g c =
    let s = c.args.flows.now.site in
    let cables = c.args.flows.now.cables in
    let grade = c.args.grade in
    let count = c.count_of_type.ensures ∙ ap (λ (xs : List Cable). length (of_type xs grade)) c.cables-cables.ensures in
    let metres = c.length_of_type.ensures ∙ ap (λ (t : Site). sum_by (cable_length t) (of_type c.cables-cables.result.now grade)) c.site-site.ensures.value
    ∙ ap (λ (xs : List Cable). sum_by (cable_length s) (of_type xs grade)) c.cables-cables.ensures in
    written_as c.push_line.ensures
    (type_words s cables grade _ _ _ _ (c.count_of-number.ensures ∙ ap decimal c.from.ensures) (c.count_of-count.ensures ∙ ap decimal count) (c.count_of-metres.ensures ∙ ap decimal metres) (c.count_of-cost.ensures ∙ ap decimal c.cost_of_type.ensures))
