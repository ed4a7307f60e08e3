use Rattle.std.proofs.Common.{◌≡◌, ◌∙◌, ◌++◌, refl, ap, sym, pos, arith}
use Rattle.std.specs.Int.{w128}
use mir.Val.{to_z, of_z}
use Rattle.std.specs.Fmt.{decimal}
use Rattle.std.proofs.lemmas.Int.{ints, to_z-of_z}
use Rattle.cable_definitions.specs.Text.{number}
use Rattle.cable_text.proofs.Writing.{Writes-then}
use Rattle.cable_text.proofs.Writers.{stopped, written_as}
use Rattle.cable_run.proofs.drill.push_counted.Goals as goal

pub returns-in_err-push : goal.returns-in_err-push
returns-in_err-push g c = stopped (decimal c.args.number) c.from_residual.ensures.0 c.in_err-push.ensures.writes refl

pub returns : goal.returns
returns g c =
    let e : to_z w128 (of_z w128 c.from.result) ≡ pos c.args.number = to_z-of_z w128 c.from.result (omega (arith, ints, c.from.ensures)) ∙ c.from.ensures in
    written_as (Writes-then c.in_ok-push.ensures.writes c.push_number.ensures.writes) (ap (λ z. c.args.before.now ++ number z) (sym e))
