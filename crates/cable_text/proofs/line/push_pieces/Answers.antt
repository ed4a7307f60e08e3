use Rattle.std.proofs.Common.{◌++◌, [], ◌∷◌, map, ◌∙◌, sym, append_assoc}
use Rattle.std.specs.List.{concat}
use Rattle.cable_text.proofs.Writing.{Writes-then}
use Rattle.cable_text.specs.Fields.{spaced}
use Rattle.cable_text.proofs.Writers.{stopped, written_as, line-fields}
use Rattle.cable_text.proofs.line.push_pieces.Goals as goal

pub returns-in_err-push : goal.returns-in_err-push
returns-in_err-push g c =
    stopped (concat (map spaced c.args.fields.now) ++ 10 ∷ []) c.from_residual.ensures.0 c.in_err-push.ensures.writes (line-fields c.args.word.now c.args.fields.now)

pub returns-in_err-push_fields : goal.returns-in_err-push_fields
returns-in_err-push_fields g c =
    stopped (10 ∷ []) c.from_residual-in_err-push_fields.ensures.0 (Writes-then c.in_ok-push.ensures.writes c.in_err-push_fields.ensures)
    (line-fields c.args.word.now c.args.fields.now ∙ sym (append_assoc c.args.word.now (concat (map spaced c.args.fields.now)) (10 ∷ [])))

pub returns : goal.returns
returns g c =
    written_as (Writes-then c.in_ok-push.ensures.writes (Writes-then c.in_ok-push_fields.ensures c.push-2.ensures.writes)) (line-fields c.args.word.now c.args.fields.now)
