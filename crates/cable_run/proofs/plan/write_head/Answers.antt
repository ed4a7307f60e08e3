use Rattle.std.proofs.Common.{codes, [], ◌∷◌}
use Rattle.std.specs.Fmt.{decimal}
use Rattle.cable_definitions.specs.Text.{line}
use Rattle.cable_text.proofs.Writing.{Writes-then}
use Rattle.cable_text.proofs.Writers.{longer, handed}
use Rattle.cable_run.proofs.plan.write_head.Goals as goal

pub returns-in_err-write_site : goal.returns-in_err-write_site
returns-in_err-write_site g c = longer (line (codes "budget" ∷ decimal c.args.budget ∷ [])) c.from_residual.ensures.0 (handed c.from_residual.ensures.0 c.in_err-write_site.ensures)

pub returns : goal.returns
returns g c = Writes-then c.in_ok-write_site.ensures c.write_budget.ensures
