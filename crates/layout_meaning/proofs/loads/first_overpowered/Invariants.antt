use Rattle.std.proofs.Common.{◌<◌, ℕ}
use Rattle.cable_definitions.specs.Layout.{KeepsPower}
use Rattle.layout_meaning.proofs.loads.first_overpowered.Given as goal

abbrev pub invariant-loop-p : goal.invariant-loop-p
invariant-loop-p l = (q : ℕ) → q < l.p → KeepsPower l.flows.site l.flows.cables q
