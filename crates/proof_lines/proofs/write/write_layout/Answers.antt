use Rattle.std.proofs.Common.{map}
use Rattle.std.specs.List.{concat}
use Rattle.cable_text.proofs.Writing.{Writes-then}
use Rattle.cable_definitions.specs.Text.{cable_line}
use Rattle.cable_text.proofs.Writers.{longer, handed}
use Rattle.proof_lines.proofs.write.write_layout.Goals as goal

pub returns-in_err-push_header : goal.returns-in_err-push_header
returns-in_err-push_header g c = longer (concat (map (cable_line c.args.site.now) c.args.layout.now)) c.from_residual.ensures.0 (handed c.from_residual.ensures.0 c.in_err-push_header.ensures)

pub returns : goal.returns
returns g c = Writes-then c.in_ok-push_header.ensures (rw c.cables.ensures.value at c.push_cables.ensures)
