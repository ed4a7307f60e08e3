use Rattle.std.proofs.Common.{ℕ, length, ap, ◌∙◌, arith}
use Rattle.cable_definitions.specs.declared.site.CableType.{CableType}
use Rattle.cable_definitions.specs.Site.{Site}
use Rattle.cable_definitions.specs.Report.{report_type}
use Rattle.cable_text.proofs.Writers.{written_as}
use Rattle.plan_report.proofs.Numbering.{wrote_more_numbered, wrote_part_numbered, all_numbered}
use Rattle.plan_report.proofs.write.push_types.Goals as goal

-- a type for numbers past the types
abbrev none : CableType
none = record { capacity = 0; price = 0; loss = 0 }

pub returns-in_err-push_type : goal.returns-in_err-push_type
returns-in_err-push_type g c =
    let read = c.types-count.ensures.value ∙ ap (λ (s : Site). s.types) c.site-site.ensures.value in
    let e = ap (length {A = CableType}) read in
    wrote_part_numbered (λ (t : ℕ) (x : CableType). report_type c.args.flows.now.site c.args.flows.now.cables t) c.args.flows.now.site.types c.loop-grade.grade none (omega (arith, e)) c.from_residual.ensures.0 c.loop-grade.invariant c.in_err-push_type.ensures

pub loop-grade-preserved : goal.loop-grade-preserved
loop-grade-preserved g c =
    let read = c.types-count.ensures.value ∙ ap (λ (s : Site). s.types) c.site-site.ensures.value in
    let e = ap (length {A = CableType}) read in
    wrote_more_numbered (λ (t : ℕ) (x : CableType). report_type c.args.flows.now.site c.args.flows.now.cables t) c.args.flows.now.site.types c.loop-grade.grade none (omega (arith, e)) c.loop-grade.invariant c.in_ok-push_type.ensures

pub returns : goal.returns
returns g c =
    let read = c.types-count.ensures.value ∙ ap (λ (s : Site). s.types) c.site-site.ensures.value in
    let e = ap (length {A = CableType}) read in
    written_as c.loop-grade.invariant (all_numbered (λ (q : ℕ × CableType). report_type c.args.flows.now.site c.args.flows.now.cables q.0) c.args.flows.now.site.types c.loop-grade.grade (omega (arith, e)))
