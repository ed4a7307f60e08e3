use Rattle.std.proofs.Common.{◌≡◌, ◌≤◌, ◌*◌, ◌^◌, unsigned_abs, take, slice_get, Some}
use Rattle.cable_definitions.specs.declared.cable.Arc.{Arc}
use Rattle.cable_definitions.specs.Choice.{weighted_on_use, weighted_on_load}
use Rattle.cable_rows.proofs.counts.weighted_counts.Given as goal

abbrev pub invariant-loop-weight : goal.invariant-loop-weight
invariant-loop-weight l = record {
  on_use : (a : Arc) → slice_get l.arcs l.arc ≡ Some a → l.sum.on_use ≡ weighted_on_use l.pool (take l.weight-index l.weights) l.arc a;
  on_load : (a : Arc) → slice_get l.arcs l.arc ≡ Some a → l.sum.on_load ≡ weighted_on_load l.pool (take l.weight-index l.weights) a;
  on_use_small : unsigned_abs l.sum.on_use ≤ 2 ^ 76 * l.weight-index;
  on_load_small : unsigned_abs l.sum.on_load ≤ 2 ^ 76 * l.weight-index;
}
