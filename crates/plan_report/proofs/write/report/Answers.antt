use Rattle.std.proofs.Common.{◌∙◌}
use Rattle.cable_definitions.specs.Text.{claim_line}
use Rattle.cable_text.proofs.Writing.{Writes-then}
use Rattle.cable_text.proofs.Writers.{longer, handed, written_as}
use Rattle.layout_meaning.proofs.Flowing.{flows_are}
use Rattle.plan_report.proofs.Lines.{cables_text, types_text, points_text, report_parts_of}
use Rattle.plan_report.proofs.write.report.Goals as goal

pub returns-in_err-push_mode : goal.returns-in_err-push_mode
returns-in_err-push_mode g c =
    let s = c.args.site.now in
    let failed = c.from_residual.ensures.0 in
    written_as (longer (claim_line s c.args.claim) failed (longer (points_text c.new-flows.result.site c.new-flows.result.cables) failed (longer (types_text c.new-flows.result.site c.new-flows.result.cables) failed (longer (cables_text c.new-flows.result.site c.new-flows.result.cables) failed (handed failed c.in_err-push_mode.ensures)))))
    (report_parts_of s c.args.layout.now c.new-flows.result c.args.claim (flows_are s c.new.result c.args.layout.now c.new-flows.result c.new-flows.ensures (c.new.ensures ∙ c.cables.ensures.value)))

pub returns-in_err-push_cables : goal.returns-in_err-push_cables
returns-in_err-push_cables g c =
    let s = c.args.site.now in
    let failed = c.from_residual-in_err-push_cables.ensures.0 in
    written_as (longer (claim_line s c.args.claim) failed (longer (points_text c.new-flows.result.site c.new-flows.result.cables) failed (longer (types_text c.new-flows.result.site c.new-flows.result.cables) failed (handed failed (Writes-then c.in_ok-push_mode.ensures c.in_err-push_cables.ensures)))))
    (report_parts_of s c.args.layout.now c.new-flows.result c.args.claim (flows_are s c.new.result c.args.layout.now c.new-flows.result c.new-flows.ensures (c.new.ensures ∙ c.cables.ensures.value)))

pub returns-in_err-push_types : goal.returns-in_err-push_types
returns-in_err-push_types g c =
    let s = c.args.site.now in
    let failed = c.from_residual-in_err-push_types.ensures.0 in
    written_as (longer (claim_line s c.args.claim) failed (longer (points_text c.new-flows.result.site c.new-flows.result.cables) failed (handed failed (Writes-then (Writes-then c.in_ok-push_mode.ensures c.in_ok-push_cables.ensures) c.in_err-push_types.ensures))))
    (report_parts_of s c.args.layout.now c.new-flows.result c.args.claim (flows_are s c.new.result c.args.layout.now c.new-flows.result c.new-flows.ensures (c.new.ensures ∙ c.cables.ensures.value)))

pub returns-in_err-push_points : goal.returns-in_err-push_points
returns-in_err-push_points g c =
    let s = c.args.site.now in
    let failed = c.from_residual-in_err-push_points.ensures.0 in
    written_as (longer (claim_line s c.args.claim) failed (handed failed (Writes-then (Writes-then (Writes-then c.in_ok-push_mode.ensures c.in_ok-push_cables.ensures) c.in_ok-push_types.ensures) c.in_err-push_points.ensures)))
    (report_parts_of s c.args.layout.now c.new-flows.result c.args.claim (flows_are s c.new.result c.args.layout.now c.new-flows.result c.new-flows.ensures (c.new.ensures ∙ c.cables.ensures.value)))

pub returns : goal.returns
returns g c =
    written_as (Writes-then (Writes-then (Writes-then (Writes-then c.in_ok-push_mode.ensures c.in_ok-push_cables.ensures) c.in_ok-push_types.ensures) c.in_ok-push_points.ensures) c.write_verdict.ensures)
    (report_parts_of c.args.site.now c.args.layout.now c.new-flows.result c.args.claim (flows_are c.args.site.now c.new.result c.args.layout.now c.new-flows.result c.new-flows.ensures (c.new.ensures ∙ c.cables.ensures.value)))
