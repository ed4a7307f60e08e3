use Rattle.std.proofs.Common.{◌≡◌, ◌∙◌, ℕ, ◌-◌, ◌++◌, replicate, sym, ap, pos, arith}
use Rattle.std.specs.Int.{w128}
use mir.Val.{to_z, of_z}
use Rattle.std.specs.Fmt.{decimal}
use Rattle.std.proofs.lemmas.Int.{ints, to_z-of_z}
use Rattle.cable_definitions.specs.Text.{number}
use Rattle.cable_text.proofs.Writing.{Writes-then}
use Rattle.cable_text.proofs.Writers.{stopped, written_as}
use Rattle.cable_text.proofs.line.push_right.Goals as goal

pub returns-in_err-push_spaces : goal.returns-in_err-push_spaces
returns-in_err-push_spaces g c =
    stopped (decimal c.args.value) c.from_residual.ensures.0 c.in_err-push_spaces.ensures
    (ap (λ (n : ℕ). replicate {A = ℕ} n 32 ++ decimal c.args.value) (sym (c.saturating_sub.ensures ∙ ap (λ (k : ℕ). c.args.places - k) c.digit_count.ensures)))

pub returns : goal.returns
returns g c =
    let e : to_z w128 (of_z w128 c.from.result) ≡ pos c.args.value = to_z-of_z w128 c.from.result (omega (arith, ints, c.from.ensures)) ∙ c.from.ensures in
    written_as (Writes-then c.in_ok-push_spaces.ensures c.push_number.ensures.writes)
    (ap (λ (n : ℕ). replicate {A = ℕ} n 32 ++ decimal c.args.value) (sym (c.saturating_sub.ensures ∙ ap (λ (k : ℕ). c.args.places - k) c.digit_count.ensures))
    ∙ ap (λ z. replicate {A = ℕ} c.saturating_sub.result 32 ++ number z) (sym e))
