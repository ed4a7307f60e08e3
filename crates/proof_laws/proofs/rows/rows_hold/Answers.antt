use Rattle.proof_laws.proofs.RowsHold.{rows-hold}
use Rattle.proof_laws.proofs.rows.rows_hold.Goals as goal

pub returns : goal.returns
returns c = rows-hold
