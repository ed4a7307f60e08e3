use Rattle.std.proofs.Common.{◌++◌, codes}
use Rattle.std.specs.Fmt.{decimal}
use Rattle.cable_text.proofs.Writing.{Writes-then}
use Rattle.cable_text.proofs.Writers.{longer, handed}
use Rattle.cable_run.proofs.drill.push_front.Goals as goal

pub returns-in_err-push_counted : goal.returns-in_err-push_counted
returns-in_err-push_counted g c =
    longer ((codes " " ++ decimal c.args.drilled.turbines) ++ ((codes " " ++ decimal c.args.drilled.budget) ++ ((codes " arcs " ++ decimal c.args.drilled.arcs) ++ codes ": ")))
    c.from_residual.ensures.0 (handed c.from_residual.ensures.0 c.in_err-push_counted.ensures)

pub returns-in_err-push_counted-2 : goal.returns-in_err-push_counted-2
returns-in_err-push_counted-2 g c =
    Writes-then c.in_ok-push_counted.ensures
    (longer ((codes " " ++ decimal c.args.drilled.budget) ++ ((codes " arcs " ++ decimal c.args.drilled.arcs) ++ codes ": "))
    c.from_residual-in_err-push_counted-2.ensures.0 (handed c.from_residual-in_err-push_counted-2.ensures.0 (rw c.from.ensures at c.in_err-push_counted-2.ensures)))

pub returns-in_err-push_counted-3 : goal.returns-in_err-push_counted-3
returns-in_err-push_counted-3 g c =
    Writes-then c.in_ok-push_counted.ensures (Writes-then (rw c.from.ensures at c.in_ok-push_counted-2.ensures)
    (longer ((codes " arcs " ++ decimal c.args.drilled.arcs) ++ codes ": ")
    c.from_residual-in_err-push_counted-3.ensures.0 (handed c.from_residual-in_err-push_counted-3.ensures.0 (rw c.from-2.ensures at c.in_err-push_counted-3.ensures))))

pub returns-in_err-push_counted-4 : goal.returns-in_err-push_counted-4
returns-in_err-push_counted-4 g c =
    Writes-then c.in_ok-push_counted.ensures (Writes-then (rw c.from.ensures at c.in_ok-push_counted-2.ensures) (Writes-then (rw c.from-2.ensures at c.in_ok-push_counted-3.ensures)
    (longer (codes ": ") c.from_residual-in_err-push_counted-4.ensures.0 (handed c.from_residual-in_err-push_counted-4.ensures.0 (rw c.from-3.ensures at c.in_err-push_counted-4.ensures)))))

pub returns : goal.returns
returns g c =
    Writes-then c.in_ok-push_counted.ensures (Writes-then (rw c.from.ensures at c.in_ok-push_counted-2.ensures) (Writes-then (rw c.from-2.ensures at c.in_ok-push_counted-3.ensures)
    (Writes-then (rw c.from-3.ensures at c.in_ok-push_counted-4.ensures) c.push.ensures.writes)))
