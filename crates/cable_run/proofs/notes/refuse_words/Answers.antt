use Rattle.std.proofs.Common.{inr}
use Rattle.cable_run.proofs.Failing.{failed_twice}
use Rattle.cable_run.proofs.notes.refuse_words.Goals as goal

pub returns-in-Err : goal.returns-in-Err
returns-in-Err g c =
    let first = c.in-Err.ensures.writes in
    let then = c.note_write_fault.ensures in
    inr (then.ending, failed_twice _ _ _ _ first.count then.count first.failed first.part then.note)
