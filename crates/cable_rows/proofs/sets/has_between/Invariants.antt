use Rattle.std.proofs.Common.{◌≡◌, false, take}
use Rattle.std.specs.List.{list_any}
use Rattle.cable_rows.specs.Sums.{is_between}
use Rattle.cable_rows.proofs.sets.has_between.Given as goal

abbrev pub invariant-loop-member : goal.invariant-loop-member
invariant-loop-member l = list_any (λ m. is_between l.first l.past m) (take l.member-index l.members) ≡ false
