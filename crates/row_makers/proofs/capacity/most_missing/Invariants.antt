use Rattle.row_makers.specs.Most.{IsMostBelow}
use Rattle.row_makers.proofs.capacity.most_missing.Given as goal

abbrev pub invariant-loop-q : goal.invariant-loop-q
invariant-loop-q l = IsMostBelow l.site l.sums.arcs l.sums.shares l.q l.most
