use Rattle.std.proofs.Common.{ℕ, ◌-◌, ◌++◌, length, replicate, refl, sym, ap}
use Rattle.cable_text.proofs.Writing.{Writes-then}
use Rattle.cable_text.proofs.Writers.{stopped, written_as}
use Rattle.cable_text.proofs.line.push_left.Goals as goal

pub returns-in_err-push : goal.returns-in_err-push
returns-in_err-push g c = stopped (replicate {A = ℕ} (c.args.places - length c.args.text.now) 32) c.from_residual.ensures.0 c.in_err-push.ensures.writes refl

pub returns : goal.returns
returns g c =
    written_as (Writes-then c.in_ok-push.ensures.writes c.push_spaces.ensures)
    (ap (λ (n : ℕ). c.args.text.now ++ replicate {A = ℕ} n 32) (sym c.saturating_sub.ensures))
