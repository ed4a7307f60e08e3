use Rattle.std.proofs.Common.{◌≡◌, ◌≤◌}
use Rattle.cable_definitions.specs.Tree.{greatest_of_types}
use Rattle.site_model.specs.Best.{most_cost}
use Rattle.arc_choices.proofs.GreatestCosts.{types_from}
use Rattle.arc_choices.proofs.greatest.greatest_of_types.Given as goal

abbrev pub invariant-loop-grade : goal.invariant-loop-grade
invariant-loop-grade l = record {
  rest : types_from l.site l.arc l.grade l.most ≡ greatest_of_types l.site l.arc;
  small : l.most ≤ most_cost;
}
