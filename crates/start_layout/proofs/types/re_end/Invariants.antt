use Rattle.std.proofs.Common.{◌≡◌, take}
use Rattle.start_layout.specs.Moves.{with_end}
use Rattle.start_layout.proofs.types.re_end.Given as goal

abbrev pub invariant-loop-cable : goal.invariant-loop-cable
invariant-loop-cable l = l.ended ≡ with_end (take l.cable-index l.cables) l.arc.from l.arc.to
