use Rattle.std.proofs.Common.{take}
use Rattle.layout_meaning.specs.Outgoing.{AreFirst}
use Rattle.layout_meaning.proofs.outgoing.first_out.Given as goal

abbrev pub invariant-loop-cable : goal.invariant-loop-cable
invariant-loop-cable l = AreFirst (take l.cable-index l.cables) l.first
