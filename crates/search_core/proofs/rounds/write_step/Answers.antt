use Rattle.search_core.proofs.Writing.{step-part, step-whole}
use Rattle.search_core.proofs.rounds.write_step.Goals as goal

pub returns-in_err-write_rows-in-Worked : goal.returns-in_err-write_rows-in-Worked
returns-in_err-write_rows-in-Worked g c =
    step-part c.args.search.now.progress c.args.step c.in-Worked.rows_from c.in-Worked.rows_to c.in-Worked.is c.from_residual.ensures.0 (rw c.pool.ensures at c.in_err-write_rows-in-Worked.ensures)

pub returns-in_ok-write_rows-in-Worked : goal.returns-in_ok-write_rows-in-Worked
returns-in_ok-write_rows-in-Worked g c =
    step-whole c.args.search.now.progress c.args.step c.in-Worked.rows_from c.in-Worked.rows_to c.in-Worked.is (rw c.pool.ensures at c.in_ok-write_rows-in-Worked.ensures) (rw c.last_work.ensures at c.write_work.ensures)
