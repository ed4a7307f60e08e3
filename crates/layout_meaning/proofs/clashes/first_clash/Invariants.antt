use Rattle.std.proofs.Common.{◌<◌, ℕ}
use Rattle.cable_definitions.specs.Layout.{KeepsClear}
use Rattle.layout_meaning.proofs.clashes.first_clash.Given as goal

abbrev pub invariant-loop-a : goal.invariant-loop-a
invariant-loop-a l = (a b : ℕ) → a < l.a → KeepsClear l.site l.cables a b
