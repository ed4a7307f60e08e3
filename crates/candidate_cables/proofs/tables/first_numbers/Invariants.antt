use Rattle.std.proofs.Common.{◌≡◌, length}
use Rattle.candidate_cables.specs.Tables.{AreFirst}
use Rattle.candidate_cables.proofs.tables.first_numbers.Given as goal

abbrev pub invariant-loop-p : goal.invariant-loop-p
invariant-loop-p l = record {
  count : length l.first.items ≡ l.p;
  are_first : AreFirst l.arcs l.first.items;
}
