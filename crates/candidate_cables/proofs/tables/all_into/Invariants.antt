use Rattle.std.proofs.Common.{◌≡◌, length}
use Rattle.candidate_cables.specs.Tables.{AreAllInto}
use Rattle.candidate_cables.proofs.tables.all_into.Given as goal

abbrev pub invariant-loop-q : goal.invariant-loop-q
invariant-loop-q l = record {
  count : length l.into.items ≡ l.q;
  are_into : AreAllInto l.arcs l.into.items;
}
