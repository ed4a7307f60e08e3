use Rattle.std.proofs.Common.{codes, [], ◌∷◌, ◌++◌}
use Rattle.cable_definitions.specs.Text.{line, claim_line}
use Rattle.cable_text.proofs.Writing.{Writes-then}
use Rattle.cable_text.proofs.Writers.{longer, handed}
use Rattle.cable_run.proofs.plan.write_tail.Goals as goal

pub returns-in_err-write_layout : goal.returns-in_err-write_layout
returns-in_err-write_layout g c =
    longer (claim_line c.args.site.now c.args.plan.now.claim ++ line (codes "end" ∷ codes "document" ∷ [])) c.from_residual.ensures.0 (handed c.from_residual.ensures.0 c.in_err-write_layout.ensures)

pub returns : goal.returns
returns g c = Writes-then c.in_ok-write_layout.ensures c.write_claim.ensures
