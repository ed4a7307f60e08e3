use Rattle.std.proofs.Common.{◌≡◌, ℕ, ◌<◌, Some, slice_get}
use Rattle.cable_definitions.specs.declared.cable.Cable.{Cable}
use Rattle.node_reasons.specs.Reasons.{Returns}
use Rattle.node_reasons.proofs.flows.find_loop.Given as goal

abbrev pub invariant-loop-cable : goal.invariant-loop-cable
invariant-loop-cable l = (i : ℕ) (c : Cable) → i < l.cable-index → slice_get l.cable-items i ≡ Some c → ¬ (Returns l.cables c.from)
