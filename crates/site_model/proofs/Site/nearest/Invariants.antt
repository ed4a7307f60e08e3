use Rattle.std.proofs.Common.{◌≡◌, ◌≤◌, ◌*◌, ◌+◌, List, ℕ, sum, drop}
use Rattle.cable_definitions.specs.Budget.{AreLeastOut}
use Rattle.site_model.specs.Best.{most_cost}
use Rattle.site_model.proofs.Site.nearest.Given as goal

abbrev pub invariant-loop-p : goal.invariant-loop-p
invariant-loop-p l = record {
  bound : l.total ≤ most_cost * l.p;
  rest : (costs : List ℕ) → AreLeastOut l.self l.p (drop l.p l.self.points) costs → (all : List ℕ) × AreLeastOut l.self 0 l.self.points all × (sum all ≡ l.total + sum costs);
}
