use Rattle.std.proofs.Common.{◌≡◌, ℕ, ◌<◌, Some, length}
use Rattle.std.specs.Prelude.{slice_get}
use Rattle.cable_definitions.specs.declared.row.Mark.TheVariants.{Free}
use Rattle.branch_tree.proofs.node.free_all.Given as goal

abbrev pub invariant-loop-arc : goal.invariant-loop-arc
invariant-loop-arc l = record {
  count : length l.into ≡ l.arcs;
  free : (a : ℕ) → a < l.arc → slice_get l.into a ≡ Some Free;
}
