use Rattle.std.proofs.Common.{codes, map, [], ◌∷◌, refl}
use Rattle.std.specs.List.{concat}
use Rattle.cable_text.proofs.Writing.{Writes-then}
use Rattle.cable_definitions.specs.Text.{line, mode_line, type_line, point_line, obstacle_lines, pair_line}
use Rattle.cable_text.proofs.Writers.{longer, handed, written_as}
use Rattle.site_text.proofs.SiteLines.{site_text}
use Rattle.site_text.proofs.write.write_site.Goals as goal

pub returns-in_err-push_version : goal.returns-in_err-push_version
returns-in_err-push_version g c =
    written_as (longer (line (codes "end" ∷ codes "site" ∷ [])) c.from_residual.ensures.0 (longer (concat (map (pair_line c.args.site.now) c.args.site.now.pairs)) c.from_residual.ensures.0 (longer (concat (map obstacle_lines c.args.site.now.obstacles)) c.from_residual.ensures.0 (longer (concat (map point_line c.args.site.now.points)) c.from_residual.ensures.0 (longer (concat (map (type_line c.args.site.now.version) c.args.site.now.types)) c.from_residual.ensures.0 (longer (mode_line c.args.site.now.mode) c.from_residual.ensures.0 (handed c.from_residual.ensures.0 c.in_err-push_version.ensures)))))))
    (site_text c.args.site.now c.version.result c.args.site.now.version c.args.site.now.mode c.args.site.now.types c.args.site.now.points c.args.site.now.obstacles c.version.ensures.value refl refl refl refl refl)

pub returns-in_err-push_mode : goal.returns-in_err-push_mode
returns-in_err-push_mode g c =
    written_as (longer (line (codes "end" ∷ codes "site" ∷ [])) c.from_residual-in_err-push_mode.ensures.0 (longer (concat (map (pair_line c.args.site.now) c.args.site.now.pairs)) c.from_residual-in_err-push_mode.ensures.0 (longer (concat (map obstacle_lines c.args.site.now.obstacles)) c.from_residual-in_err-push_mode.ensures.0 (longer (concat (map point_line c.args.site.now.points)) c.from_residual-in_err-push_mode.ensures.0 (longer (concat (map (type_line c.args.site.now.version) c.args.site.now.types)) c.from_residual-in_err-push_mode.ensures.0 (handed c.from_residual-in_err-push_mode.ensures.0 (Writes-then c.in_ok-push_version.ensures c.in_err-push_mode.ensures)))))))
    (site_text c.args.site.now c.version.result c.args.site.now.version c.mode.result c.args.site.now.types c.args.site.now.points c.args.site.now.obstacles c.version.ensures.value c.mode.ensures.value refl refl refl refl)

pub returns-in_err-push_types : goal.returns-in_err-push_types
returns-in_err-push_types g c =
    written_as (longer (line (codes "end" ∷ codes "site" ∷ [])) c.from_residual-in_err-push_types.ensures.0 (longer (concat (map (pair_line c.args.site.now) c.args.site.now.pairs)) c.from_residual-in_err-push_types.ensures.0 (longer (concat (map obstacle_lines c.args.site.now.obstacles)) c.from_residual-in_err-push_types.ensures.0 (longer (concat (map point_line c.args.site.now.points)) c.from_residual-in_err-push_types.ensures.0 (handed c.from_residual-in_err-push_types.ensures.0 (Writes-then (Writes-then c.in_ok-push_version.ensures c.in_ok-push_mode.ensures) c.in_err-push_types.ensures))))))
    (site_text c.args.site.now c.version.result c.version-2.result c.mode.result c.types.result.now c.args.site.now.points c.args.site.now.obstacles c.version.ensures.value c.mode.ensures.value c.version-2.ensures.value c.types.ensures.value refl refl)

pub returns-in_err-push_points : goal.returns-in_err-push_points
returns-in_err-push_points g c =
    written_as (longer (line (codes "end" ∷ codes "site" ∷ [])) c.from_residual-in_err-push_points.ensures.0 (longer (concat (map (pair_line c.args.site.now) c.args.site.now.pairs)) c.from_residual-in_err-push_points.ensures.0 (longer (concat (map obstacle_lines c.args.site.now.obstacles)) c.from_residual-in_err-push_points.ensures.0 (handed c.from_residual-in_err-push_points.ensures.0 (Writes-then (Writes-then (Writes-then c.in_ok-push_version.ensures c.in_ok-push_mode.ensures) c.in_ok-push_types.ensures) c.in_err-push_points.ensures)))))
    (site_text c.args.site.now c.version.result c.version-2.result c.mode.result c.types.result.now c.points.result.now c.args.site.now.obstacles c.version.ensures.value c.mode.ensures.value c.version-2.ensures.value c.types.ensures.value c.points.ensures.value refl)

pub returns-in_err-push_obstacles : goal.returns-in_err-push_obstacles
returns-in_err-push_obstacles g c =
    written_as (longer (line (codes "end" ∷ codes "site" ∷ [])) c.from_residual-in_err-push_obstacles.ensures.0 (longer (concat (map (pair_line c.args.site.now) c.args.site.now.pairs)) c.from_residual-in_err-push_obstacles.ensures.0 (handed c.from_residual-in_err-push_obstacles.ensures.0 (Writes-then (Writes-then (Writes-then (Writes-then c.in_ok-push_version.ensures c.in_ok-push_mode.ensures) c.in_ok-push_types.ensures) c.in_ok-push_points.ensures) c.in_err-push_obstacles.ensures))))
    (site_text c.args.site.now c.version.result c.version-2.result c.mode.result c.types.result.now c.points.result.now c.obstacles.result.now c.version.ensures.value c.mode.ensures.value c.version-2.ensures.value c.types.ensures.value c.points.ensures.value c.obstacles.ensures.value)

pub returns-in_err-push_pairs : goal.returns-in_err-push_pairs
returns-in_err-push_pairs g c =
    written_as (longer (line (codes "end" ∷ codes "site" ∷ [])) c.from_residual-in_err-push_pairs.ensures.0 (handed c.from_residual-in_err-push_pairs.ensures.0 (Writes-then (Writes-then (Writes-then (Writes-then (Writes-then c.in_ok-push_version.ensures c.in_ok-push_mode.ensures) c.in_ok-push_types.ensures) c.in_ok-push_points.ensures) c.in_ok-push_obstacles.ensures) c.in_err-push_pairs.ensures)))
    (site_text c.args.site.now c.version.result c.version-2.result c.mode.result c.types.result.now c.points.result.now c.obstacles.result.now c.version.ensures.value c.mode.ensures.value c.version-2.ensures.value c.types.ensures.value c.points.ensures.value c.obstacles.ensures.value)

pub returns : goal.returns
returns g c =
    written_as (Writes-then (Writes-then (Writes-then (Writes-then (Writes-then (Writes-then c.in_ok-push_version.ensures c.in_ok-push_mode.ensures) c.in_ok-push_types.ensures) c.in_ok-push_points.ensures) c.in_ok-push_obstacles.ensures) c.in_ok-push_pairs.ensures) c.push_line.ensures)
    (site_text c.args.site.now c.version.result c.version-2.result c.mode.result c.types.result.now c.points.result.now c.obstacles.result.now c.version.ensures.value c.mode.ensures.value c.version-2.ensures.value c.types.ensures.value c.points.ensures.value c.obstacles.ensures.value)
