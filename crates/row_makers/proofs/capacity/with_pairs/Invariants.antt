use Rattle.std.proofs.Common.{◌≡◌, ℕ, ◌≤◌, ◌<◌, ◌∷◌, [], true}
use Rattle.cable_definitions.specs.Arcs.{kind_of, is_turbine}
use Rattle.row_makers.specs.Tried.{missing}
use Rattle.row_makers.specs.Most.{IsMost}
use Rattle.row_makers.proofs.capacity.with_pairs.Given as goal

abbrev pub invariant-loop-p : goal.invariant-loop-p
invariant-loop-p l = record {
  is_one : IsMost l.site l.sums.arcs l.sums.shares l.most;
  as_much : l.fn.first.missing ≤ l.most.missing;
  tried : (p : ℕ) → p < l.p → is_turbine (kind_of l.site p) ≡ true → missing l.site l.sums.arcs l.sums.shares (p ∷ l.q ∷ []) ≤ l.most.missing;
}
