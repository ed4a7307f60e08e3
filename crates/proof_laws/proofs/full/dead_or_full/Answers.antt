use Rattle.proof_laws.proofs.FullWhole.{full-from}
use Rattle.proof_laws.proofs.full.dead_or_full.Goals as goal

pub returns : goal.returns
returns c = λ s arcs rows marks bound v are decided listed none.
    full-from s arcs rows marks bound (record { valid = v; are_arcs = are; decided = decided; listed = listed; no_reason = none })
