use Rattle.std.proofs.Common.{map, ap, ◌++◌, ◌∷◌, [], codes, length, sym}
use Rattle.std.specs.List.{concat}
use Rattle.std.specs.Fmt.{decimal}
use Rattle.cable_text.proofs.Writing.{Writes-then}
use Rattle.cable_definitions.specs.Text.{line, weight_line, act_line}
use Rattle.cable_text.proofs.Writers.{longer, handed, written_as}
use Rattle.proof_lines.proofs.write.write_work.Goals as goal

pub returns-in_err-push_node : goal.returns-in_err-push_node
returns-in_err-push_node g c =
    written_as (longer (act_line c.args.work.now.act) c.from_residual.ensures.0 (longer (concat (map weight_line c.as_slice-weights.result.now)) c.from_residual.ensures.0 (handed c.from_residual.ensures.0 c.in_err-push_node.ensures)))
    (ap (λ ws. line (codes "work" ∷ decimal c.args.work.now.node ∷ decimal (length ws) ∷ []) ++ concat (map weight_line ws) ++ act_line c.args.work.now.act) (sym c.as_slice-weights.ensures.value))

pub returns-in_err-push_weights : goal.returns-in_err-push_weights
returns-in_err-push_weights g c =
    written_as (longer (act_line c.args.work.now.act) c.from_residual-in_err-push_weights.ensures.0 (handed c.from_residual-in_err-push_weights.ensures.0 (Writes-then c.in_ok-push_node.ensures c.in_err-push_weights.ensures)))
    (ap (λ ws. line (codes "work" ∷ decimal c.args.work.now.node ∷ decimal (length ws) ∷ []) ++ concat (map weight_line ws) ++ act_line c.args.work.now.act) (sym c.as_slice-weights.ensures.value))

pub returns : goal.returns
returns g c =
    written_as (Writes-then (Writes-then c.in_ok-push_node.ensures c.in_ok-push_weights.ensures) c.push_act.ensures)
    (ap (λ ws. line (codes "work" ∷ decimal c.args.work.now.node ∷ decimal (length ws) ∷ []) ++ concat (map weight_line ws) ++ act_line c.args.work.now.act) (sym c.as_slice-weights.ensures.value))
