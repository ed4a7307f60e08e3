use Rattle.std.proofs.Common.{◌<◌, ℕ}
use Rattle.cable_definitions.specs.Layout.{KeepsEnd}
use Rattle.layout_meaning.proofs.ends.first_lost.Given as goal

abbrev pub invariant-loop-p : goal.invariant-loop-p
invariant-loop-p l = (q : ℕ) → q < l.p → KeepsEnd l.site l.cables q
