use Rattle.std.proofs.Common.{codes, [], ◌∷◌}
use Rattle.cable_text.proofs.Writing.{Writes-then}
use Rattle.cable_definitions.specs.Text.{line}
use Rattle.cable_text.proofs.Writers.{longer, handed}
use Rattle.proof_lines.proofs.write.write_claim.Goals as goal

pub returns-in_err-write_verdict : goal.returns-in_err-write_verdict
returns-in_err-write_verdict g c = longer (line (codes "end" ∷ codes "document" ∷ [])) c.from_residual.ensures.0 (handed c.from_residual.ensures.0 c.in_err-write_verdict.ensures)

pub returns : goal.returns
returns g c = Writes-then c.in_ok-write_verdict.ensures c.push_line.ensures
