use Rattle.proof_laws.proofs.NoArc.{out-without_arcs, cut-without_arcs}
use Rattle.proof_laws.proofs.rows.rows_without_arcs.Goals as goal

pub returns-clause-out : goal.returns-clause-out
returns-clause-out c = out-without_arcs

pub returns-clause-cut : goal.returns-clause-cut
returns-clause-cut c = cut-without_arcs
