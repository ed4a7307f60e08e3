use Rattle.std.proofs.Common.{refl}
use Rattle.cable_text.proofs.Writing.{Writes-then}
use Rattle.cable_text.specs.Fields.{field_text}
use Rattle.cable_text.proofs.Writers.{stopped, written_as}
use Rattle.cable_text.proofs.line.push_spaced.Goals as goal

pub returns-in_err-push : goal.returns-in_err-push
returns-in_err-push g c = stopped (field_text c.args.field.now) c.from_residual.ensures.0 c.in_err-push.ensures.writes refl

pub returns : goal.returns
returns g c = written_as (Writes-then c.in_ok-push.ensures.writes c.push_field.ensures) refl
