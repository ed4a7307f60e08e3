use Rattle.std.proofs.Common.{◌≡◌, ◌≤◌, fold, drop}
use Rattle.cable_definitions.specs.Tree.{greatest_out}
use Rattle.site_model.specs.Best.{most_cost}
use Rattle.arc_choices.proofs.GreatestCosts.{with_arc}
use Rattle.arc_choices.proofs.greatest.greatest_out.Given as goal

abbrev pub invariant-loop-number : goal.invariant-loop-number
invariant-loop-number l = record {
  rest : fold (with_arc l.site l.fn.p) l.most (drop l.number l.arcs) ≡ greatest_out l.site l.arcs l.fn.p;
  small : l.most ≤ most_cost;
}
