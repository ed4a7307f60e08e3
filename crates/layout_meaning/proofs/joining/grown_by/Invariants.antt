use Rattle.std.proofs.Common.{◌≡◌, take}
use Rattle.layout_meaning.proofs.joining.grown_by.Given as goal

abbrev pub invariant-loop-cable : goal.invariant-loop-cable
invariant-loop-cable l = l.cables ≡ take l.cable-index l.part
