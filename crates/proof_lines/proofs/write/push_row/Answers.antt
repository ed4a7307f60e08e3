use Rattle.std.proofs.Common.{◌++◌, [], ◌∷◌, map, ◌∙◌, sym, append_assoc, codes, ap}
use Rattle.std.specs.List.{concat}
use Rattle.cable_text.proofs.Writing.{Writes-then}
use Rattle.cable_definitions.specs.Text.{kind_word}
use Rattle.proof_lines.specs.Written.{spaced_number}
use Rattle.proof_lines.proofs.RowLine.{row_parts}
use Rattle.cable_text.proofs.Writers.{stopped, written_as}
use Rattle.proof_lines.proofs.write.push_row.Goals as goal

pub returns-in_err-push : goal.returns-in_err-push
returns-in_err-push g c =
    stopped (kind_word c.args.kind ++ (concat (map spaced_number c.args.members.now) ++ 10 ∷ [])) c.from_residual.ensures.0 c.in_err-push.ensures.writes (row_parts c.args.kind c.args.members.now)

pub returns-in_err-push-2 : goal.returns-in_err-push-2
returns-in_err-push-2 g c =
    stopped (concat (map spaced_number c.args.members.now) ++ 10 ∷ []) c.from_residual-in_err-push-2.ensures.0 (Writes-then c.in_ok-push.ensures.writes (written_as c.in_err-push-2.ensures.writes (sym c.word.ensures.word))) (row_parts c.args.kind c.args.members.now)

pub returns-in_err-push_members : goal.returns-in_err-push_members
returns-in_err-push_members g c =
    stopped (10 ∷ []) c.from_residual-in_err-push_members.ensures.0 (Writes-then c.in_ok-push.ensures.writes (Writes-then (written_as c.in_ok-push-2.ensures.writes (sym c.word.ensures.word)) c.in_err-push_members.ensures))
    (row_parts c.args.kind c.args.members.now ∙ ap (λ l. codes "row " ++ l) (sym (append_assoc (kind_word c.args.kind) (concat (map spaced_number c.args.members.now)) (10 ∷ []))))

pub returns : goal.returns
returns g c =
    written_as (Writes-then c.in_ok-push.ensures.writes (Writes-then (written_as c.in_ok-push-2.ensures.writes (sym c.word.ensures.word)) (Writes-then c.in_ok-push_members.ensures c.push-3.ensures.writes))) (row_parts c.args.kind c.args.members.now)
