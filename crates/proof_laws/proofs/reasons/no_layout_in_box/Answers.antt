use Rattle.cable_definitions.specs.Row.{IsWellFormed}
use Rattle.layout_laws.proofs.Typing.{all-at}
use Rattle.proof_laws.proofs.DeadNodes.{none-row, none-pair, none-load, none-loop, none-power}
use Rattle.proof_laws.proofs.reasons.no_layout_in_box.Goals as goal

pub returns-clause-row : goal.returns-clause-row
returns-clause-row c = λ s arcs rows marks bound r v are formed d. none-row s arcs marks d.0 v are (all-at (IsWellFormed s arcs) rows r d.0 formed d.1) d.2

pub returns-clause-pair : goal.returns-clause-pair
returns-clause-pair c = λ s arcs rows marks bound a b d. none-pair s arcs marks a b d.1

pub returns-clause-load : goal.returns-clause-load
returns-clause-load c = λ s arcs rows marks bound p d. none-load s arcs marks p d.0 d.1 d.2

pub returns-clause-returning : goal.returns-clause-returning
returns-clause-returning c = λ s arcs rows marks bound p d. none-loop s arcs marks p d.1.0 d.0 d.1.1 d.1.3

pub returns-clause-power : goal.returns-clause-power
returns-clause-power c = λ s arcs rows marks bound p d. none-power s arcs marks p d.0 d.1
