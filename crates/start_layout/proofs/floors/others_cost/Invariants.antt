use Rattle.std.proofs.Common.{ℕ}
use Rattle.start_layout.specs.Floors.{AreLeasts, AreOthersAbove}
use Rattle.start_layout.proofs.floors.others_cost.Given as goal

abbrev pub invariant-loop-cable : goal.invariant-loop-cable
invariant-loop-cable l = (q : ℕ) → AreLeasts l.site l.cables l.start q l.leasts → AreOthersAbove l.site l.cables l.start q l.cable-index l.total
