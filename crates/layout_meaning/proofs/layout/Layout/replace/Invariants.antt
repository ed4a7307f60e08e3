use Rattle.std.proofs.Common.{◌≡◌, take}
use Rattle.layout_meaning.proofs.layout.Layout.replace.Given as goal

abbrev pub invariant-loop-cable : goal.invariant-loop-cable
invariant-loop-cable l = l.self ≡ take l.cable-index l.cables
