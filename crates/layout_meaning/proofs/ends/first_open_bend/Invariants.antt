use Rattle.std.proofs.Common.{◌<◌, ℕ}
use Rattle.cable_definitions.specs.Layout.{KeepsBend}
use Rattle.layout_meaning.proofs.ends.first_open_bend.Given as goal

abbrev pub invariant-loop-p : goal.invariant-loop-p
invariant-loop-p l = (q : ℕ) → q < l.p → KeepsBend l.site l.cables q
