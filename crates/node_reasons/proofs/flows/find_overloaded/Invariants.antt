use Rattle.std.proofs.Common.{ℕ, ◌<◌}
use Rattle.cable_definitions.specs.Walk.{load}
use Rattle.node_reasons.specs.Reasons.{IsOverloaded}
use Rattle.node_reasons.proofs.flows.find_overloaded.Given as goal

abbrev pub invariant-loop-p : goal.invariant-loop-p
invariant-loop-p l = (p : ℕ) → p < l.p → ¬ (IsOverloaded l.flows.site p (load l.flows.site l.flows.cables p))
