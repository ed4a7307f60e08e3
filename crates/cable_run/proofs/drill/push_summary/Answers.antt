use Rattle.cable_definitions.specs.Text.{claim_line}
use Rattle.cable_text.proofs.Writing.{Writes-then}
use Rattle.cable_text.proofs.Writers.{longer, handed, written_as}
use Rattle.cable_run.proofs.Summary.{summary_parts}
use Rattle.cable_run.proofs.drill.push_summary.Goals as goal

pub returns-in_err-push_front : goal.returns-in_err-push_front
returns-in_err-push_front g c =
    written_as (longer (claim_line c.args.site.now c.args.claim) c.from_residual.ensures.0 (handed c.from_residual.ensures.0 c.in_err-push_front.ensures))
    (summary_parts c.args.site.now c.args.drilled.k c.args.drilled.turbines c.args.drilled.budget c.args.drilled.arcs c.args.claim)

pub returns : goal.returns
returns g c =
    written_as (Writes-then c.in_ok-push_front.ensures c.write_verdict.ensures)
    (summary_parts c.args.site.now c.args.drilled.k c.args.drilled.turbines c.args.drilled.budget c.args.drilled.arcs c.args.claim)
