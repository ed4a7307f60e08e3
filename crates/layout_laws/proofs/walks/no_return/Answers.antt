use Rattle.cable_definitions.specs.Walk.{walk_end}
use Rattle.layout_laws.proofs.Walking.{none-from_Starts, visits-once}
use Rattle.layout_laws.proofs.walks.no_return.Goals as goal

pub returns : goal.returns
returns c = λ cables steps t p n. visits-once cables p steps t (none-from_Starts cables (walk_end steps cables t) n)
