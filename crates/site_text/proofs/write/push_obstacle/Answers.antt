use Rattle.std.proofs.Common.{map}
use Rattle.std.specs.List.{concat}
use Rattle.cable_text.proofs.Writing.{Writes-then}
use Rattle.cable_definitions.specs.Text.{corner_line}
use Rattle.cable_text.specs.Fields.{field_text}
use Rattle.cable_text.proofs.Writers.{longer, handed, written_as}
use Rattle.site_text.proofs.SiteLines.{obstacle_text}
use Rattle.site_text.proofs.write.push_obstacle.Goals as goal

pub returns-in_err-push_line : goal.returns-in_err-push_line
returns-in_err-push_line g c =
    written_as (longer (concat (map corner_line c.as_slice-corners.result.now)) c.from_residual.ensures.0 (handed c.from_residual.ensures.0 c.in_err-push_line.ensures))
    (obstacle_text c.args.obstacle.now c.as_slice-corners.result.now (field_text c.len_of.result) c.as_slice-corners.ensures c.len_of.ensures)

pub returns : goal.returns
returns g c =
    written_as (Writes-then c.in_ok-push_line.ensures c.push_corners.ensures)
    (obstacle_text c.args.obstacle.now c.as_slice-corners.result.now (field_text c.len_of.result) c.as_slice-corners.ensures c.len_of.ensures)
