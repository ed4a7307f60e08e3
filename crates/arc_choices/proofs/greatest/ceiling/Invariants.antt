use Rattle.std.proofs.Common.{◌≡◌, ◌≤◌, ◌+◌, ◌*◌, sum_by, drop}
use Rattle.std.specs.List.{enumerate_from}
use Rattle.cable_definitions.specs.Tree.{ceiling}
use Rattle.site_model.specs.Best.{most_cost}
use Rattle.arc_choices.proofs.GreatestCosts.{share_of}
use Rattle.arc_choices.proofs.greatest.ceiling.Given as goal

abbrev pub invariant-loop-p : goal.invariant-loop-p
invariant-loop-p l = record {
  rest : l.total + sum_by (share_of l.site l.arcs) (enumerate_from l.p (drop l.p l.site.points)) ≡ ceiling l.site l.arcs;
  small : l.total ≤ most_cost * l.p;
}
