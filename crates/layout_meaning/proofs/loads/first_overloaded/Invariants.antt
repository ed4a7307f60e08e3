use Rattle.std.proofs.Common.{◌<◌, ℕ}
use Rattle.cable_definitions.specs.Layout.{KeepsCapacity}
use Rattle.layout_meaning.proofs.loads.first_overloaded.Given as goal

abbrev pub invariant-loop-p : goal.invariant-loop-p
invariant-loop-p l = (q : ℕ) → q < l.p → KeepsCapacity l.flows.site l.flows.cables q
