use Rattle.std.proofs.Common.{◌≡◌, ◌≢◌, ℕ, ◌≤◌}
use Rattle.cable_definitions.specs.Walk.{walk_end}
use Rattle.node_reasons.proofs.flows.returns.Given as goal

abbrev pub invariant-loop-step : goal.invariant-loop-step
invariant-loop-step l = record {
  at_is : l.at ≡ walk_end l.step l.cables l.p;
  not_yet : (k : ℕ) → 1 ≤ k → k ≤ l.step → walk_end k l.cables l.p ≢ l.p;
}
