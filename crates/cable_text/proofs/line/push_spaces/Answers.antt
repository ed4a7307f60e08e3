use Rattle.std.proofs.Common.{ℕ, ◌-◌, ◌+◌, replicate}
use Rattle.std.proofs.lemmas.List.{replicate_more}
use Rattle.cable_text.proofs.Writing.{Writes-then}
use Rattle.cable_text.proofs.Writers.{stopped, written_as}
use Rattle.std.proofs.Common.{sym}
use Rattle.cable_text.proofs.Spacing.{spaces-at}
use Rattle.cable_text.proofs.line.push_spaces.Goals as goal

pub returns-in_err-push : goal.returns-in_err-push
returns-in_err-push g c =
    stopped (replicate {A = ℕ} (c.args.count - (c.loop-place.place + 1)) 32) c.from_residual.ensures.0 (Writes-then c.loop-place.invariant c.in_err-push.ensures.writes)
    (spaces-at c.loop-place.place c.args.count c.loop-place-test.true)

pub loop-place-preserved : goal.loop-place-preserved
loop-place-preserved g c = written_as (Writes-then c.loop-place.invariant c.in_ok-push.ensures.writes) (sym (replicate_more c.loop-place.place 32))
