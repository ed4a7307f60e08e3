use Rattle.std.proofs.Common.{ℕ, ◌<◌}
use Rattle.cable_definitions.specs.Walk.{load}
use Rattle.node_reasons.specs.Reasons.{IsOverpowered}
use Rattle.node_reasons.proofs.flows.find_overpowered.Given as goal

abbrev pub invariant-loop-p : goal.invariant-loop-p
invariant-loop-p l = (p : ℕ) → p < l.p → ¬ (IsOverpowered l.flows.site p (load l.flows.site l.flows.cables p))
