use Rattle.layout_laws.proofs.Typed.{IsGrown-legal, IsLegal-grown, IsLegal-cheap, IsTypable-legal, IsLegal-typable}
use Rattle.layout_laws.proofs.types.types_of_layouts.Goals as goal

pub returns-clause-grown : goal.returns-clause-grown
returns-clause-grown c = IsGrown-legal

pub returns-clause-legal : goal.returns-clause-legal
returns-clause-legal c = IsLegal-grown

pub returns-clause-cheapest : goal.returns-clause-cheapest
returns-clause-cheapest c = IsLegal-cheap

pub returns-clause-rules : goal.returns-clause-rules
returns-clause-rules c = IsTypable-legal

pub returns-clause-typable : goal.returns-clause-typable
returns-clause-typable c = IsLegal-typable
