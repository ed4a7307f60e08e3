use Rattle.layout_laws.proofs.Typed.{IsGrown-cheap, IsTypable-grown, IsGrown-typable}
use Rattle.layout_laws.proofs.types.types_of_grown_parts.Goals as goal

pub returns-clause-cheapest : goal.returns-clause-cheapest
returns-clause-cheapest c = IsGrown-cheap

pub returns-clause-rules : goal.returns-clause-rules
returns-clause-rules c = IsTypable-grown

pub returns-clause-typable : goal.returns-clause-typable
returns-clause-typable c = IsGrown-typable
