use Rattle.std.proofs.Common.{ℕ, ◌<◌, List, sym, subst, ◌∙◌}
use Rattle.std.specs.Prelude.{AllPairs}
use Rattle.proof_laws.proofs.Lists.{some_at}
use Rattle.node_reasons.proofs.OwnSums.{CountsStarts, start_members}
use Rattle.node_reasons.proofs.own.points_of.Goals as goal

pub returns-in-Out-clause-points : goal.returns-in-Out-clause-points
returns-in-Out-clause-points c = λ r e. c.members.ensures.members r e ∙ start_members r.kind r.members (subst CountsStarts (c.kind.ensures r e) c.in-Out.is)

pub returns-in-Out-clause-ascending : goal.returns-in-Out-clause-ascending
returns-in-Out-clause-ascending c =
    let r = some_at c.args.pool.now c.args.row c.requires in
    subst (λ (ms : List ℕ). AllPairs (λ m n. m < n) ms) (sym (c.members.ensures.members r.0 r.1)) (c.members.ensures.ascending r.0 r.1)
