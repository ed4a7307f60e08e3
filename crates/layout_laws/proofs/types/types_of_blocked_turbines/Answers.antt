use Rattle.layout_laws.proofs.Typed.{IsBlocked-cheap, cheap-blocked}
use Rattle.layout_laws.proofs.types.types_of_blocked_turbines.Goals as goal

pub returns-clause-blocked : goal.returns-clause-blocked
returns-clause-blocked c = IsBlocked-cheap

pub returns-clause-cheapest : goal.returns-clause-cheapest
returns-clause-cheapest c = cheap-blocked
