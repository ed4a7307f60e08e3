use Rattle.proof_checker.proofs.Bounds.{new_small}
use Rattle.proof_checker.proofs.works.new_bound.Goals as goal

pub returns-clause-small : goal.returns-clause-small
returns-clause-small c =
    new_small c.bound.result c.rounded_bound.result c.bound.ensures.not_negative c.bound.ensures.small c.rounded_bound.ensures.small c.rounded_bound.ensures.at_least
